-- The lines of the accounts before this one are put.
use Rattle.text.specs.Text.{Puts}
use Rattle.lines.specs.Lines.{account_lines}
use Rattle.lines.proofs.put_accounts.Given as goal

abbrev pub invariant-loop-i : goal.invariant-loop-i
invariant-loop-i l = Puts l.initial.window (account_lines l.i l.columns.position l.columns.cash) l.window
