-- `Columns::positions_hold` meets its contract. The loop's invariant: the accounts passed hold.
use mathlib.Core.Path.{◌≡◌, sym}
use mathlib.Core.Bool.{Bool, true, false}
use mathlib.Core.List.{List}
use Prim.Native.Nat.{ℕ}
use lib.IntN.{ℤ}
use borrow.Author.Rules.{rules}
use Rattle.columns.specs.Columns.{accounts, entry}
use Rattle.columns.specs.Limits.{position_holds}
use Rattle.columns.proofs.Accounts.{all_below_zero, all_not, one_more}
use Rattle.columns.proofs.Columns.positions_hold.Goals as goal

-- whether each account holds
abbrev holds : List ℤ → ℕ → Bool
holds position j = position_holds (entry position j)

pub loop-i-init : goal.loop-i-init
loop-i-init c = rw all_below_zero

pub returns-then-not-position_holds : goal.returns-then-not-position_holds
returns-then-not-position_holds c =
    let fails : holds c.args.self.now.position c.loop-i.i ≡ false = search rules in
    sym (all_not accounts (holds c.args.self.now.position) c.loop-i.i c.loop-i-test.true fails)

pub loop-i-preserved : goal.loop-i-preserved
loop-i-preserved c =
    let passes : holds c.args.self.now.position c.loop-i.i ≡ true = search rules in
    one_more c.loop-i.i (holds c.args.self.now.position) c.loop-i.invariant passes
