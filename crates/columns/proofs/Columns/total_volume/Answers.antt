-- `Columns::total_volume` meets its contract. The loop's invariant: the sum over the accounts passed.
use native.Mathlib.Numerals.{add-one}
use native.Mathlib.Omega.{arith}
use borrow.Author.Rules.{rules}
use Rattle.columns.proofs.Accounts.{sum_below_zero, sum_below_suc}
use Rattle.columns.proofs.Columns.total_volume.Goals as goal

pub loop-volume-init : goal.loop-volume-init
loop-volume-init c = (omega arith, rw sum_below_zero)

pub loop-volume-preserved : goal.loop-volume-preserved
loop-volume-preserved c = (search rules, rw (add-one, sum_below_suc, ← c.loop-volume.invariant.1, ← c.from-total.ensures))
