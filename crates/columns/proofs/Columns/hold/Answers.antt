-- `Columns::hold` meets its contract. The loop's invariant: the accounts passed hold.
use mathlib.Core.Path.{sym, ◌∙◌, ap}
use Prim.Native.Nat.{◌<◌}
use borrow.Author.Rules.{rules}
use Rattle.columns.specs.Columns.{accounts}
use Rattle.columns.specs.Limits.{holds_at, account_holds}
use Rattle.columns.proofs.Accounts.{all_below_zero, all_not, one_more}
use Rattle.columns.proofs.Columns.hold.Goals as goal

pub loop-i-init : goal.loop-i-init
loop-i-init c = rw all_below_zero

pub returns-then-not-holds : goal.returns-then-not-holds
returns-then-not-holds c =
    let a = c.args in
    let i = c.loop-i.i in
    let h : i < accounts = search rules in
    sym (all_not accounts (holds_at a.closed a.self.now) i h (sym (c.holds.ensures ∙ ap (account_holds a.closed) c.account.ensures) ∙ c.if-not-holds.true))

pub loop-i-preserved : goal.loop-i-preserved
loop-i-preserved c =
    let a = c.args in
    let i = c.loop-i.i in
    one_more i (holds_at a.closed a.self.now) c.loop-i.invariant (sym (c.holds.ensures ∙ ap (account_holds a.closed) c.account.ensures) ∙ c.if-not-holds.false)
