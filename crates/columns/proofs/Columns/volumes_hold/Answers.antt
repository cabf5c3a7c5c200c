-- `Columns::volumes_hold` meets its contract. The loop's invariant: the accounts passed hold.
use mathlib.Core.Path.{◌≡◌, sym, ◌∙◌}
use mathlib.Core.Bool.{Bool}
use mathlib.Core.List.{List}
use Prim.Native.Nat.{ℕ}
use Rattle.columns.specs.Columns.{accounts, count_at}
use Rattle.columns.specs.Limits.{volume_holds}
use Rattle.columns.proofs.Accounts.{all_below_zero, all_not, one_more}
use Rattle.columns.proofs.Columns.volumes_hold.Goals as goal

-- whether each account holds
abbrev holds : List ℕ → ℕ → Bool
holds volume j = volume_holds (count_at volume j)

pub loop-i-init : goal.loop-i-init
loop-i-init c = rw all_below_zero

pub returns-then-not-volume_holds : goal.returns-then-not-volume_holds
returns-then-not-volume_holds c = sym (all_not accounts (holds c.args.self.now.volume) c.loop-i.i c.loop-i-test.true (sym c.volume_holds.ensures ∙ c.if-not-volume_holds.true))

pub loop-i-preserved : goal.loop-i-preserved
loop-i-preserved c = one_more c.loop-i.i (holds c.args.self.now.volume) c.loop-i.invariant (sym c.volume_holds.ensures ∙ c.if-not-volume_holds.false)
