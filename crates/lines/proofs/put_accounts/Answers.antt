-- `lines::put_accounts` meets its contract.
use Rattle.std.proofs.Common.{ap}
use native.Mathlib.Numerals.{add-one}
use Rattle.text.proofs.Placing.{puts_then, puts_in_words, puts_nothing}
use Rattle.columns.specs.declared.Account.{Account}
use Rattle.lines.specs.Lines.{printed_account, account_lines}
use Rattle.lines.proofs.put_accounts.Goals as goal

pub loop-i-init : goal.loop-i-init
unfolding account_lines
loop-i-init c = puts_nothing c.args.window.now

pub loop-i-preserved : goal.loop-i-preserved
unfolding account_lines
loop-i-preserved c =
    let i = c.loop-i.i in
    let line = puts_in_words (ap (λ (a : Account). printed_account i a.position a.cash) c.account.ensures) c.put_nonzero.ensures in
    rw (add-one i) (puts_then c.loop-i.invariant line)
