-- `printout::put_printout` meets its contract: a refused size, or the lines of the records, and the last line.
use Rattle.std.proofs.Common.{◌≡◌, ℕ, List, sym, ◌∙◌, ap, subst}
use Rattle.std.specs.Prelude.{Ok, Err}
use mathlib.Core.Bool.{cond}
use lib.Dec.{eqb}
use Rattle.text.specs.declared.Window.{Window}
use Rattle.text.specs.Text.{Puts}
use Rattle.text.proofs.Placing.{puts_then, puts_in_words}
use Rattle.lines.specs.Lines.{refused_line}
use Rattle.columns.specs.Columns.{accounts}
use Rattle.refusals.specs.declared.Refusal.{Refusal}
use Rattle.refusals.specs.Refusals.{number}
use Rattle.refusals.proofs.Numbers.{not_zero}
use Rattle.ledger.specs.declared.checked.CheckedBook.{CheckedBook}
use Rattle.ledger.specs.Step.{Answered, opening}
use Rattle.ledger.specs.Checked.{checked_opening}
use Rattle.dayfile.specs.Calls.{records_of}
use Rattle.printout.specs.Printout.{after_records}
use Rattle.printout.proofs.put_printout.Goals as goal
use Rattle.printout.proofs.put_printout.Goals.{in-Ok, in-Err}

-- all but the last line
abbrev body : Answered → List ℕ → List ℕ
body a file = cond (eqb a.code 0) (after_records a.book 1 (records_of file)).text (refused_line a.code 0)

taken : (k : CheckedBook) (a : Answered) (file : List ℕ) → checked_opening (Ok k) ≡ a → (after_records k.book 1 (records_of file)).text ≡ body a file
taken k a file e = ap (λ (x : Answered). body x file) e

refused : (r : Refusal) (a : Answered) (file : List ℕ) → checked_opening (Err r) ≡ a → refused_line (number r) 0 ≡ body a file
refused r a file e = rw (← e, not_zero r)

pub returns : goal.returns
returns c =
    let file = c.args.file.now in
    let first : Window = c.args.window.now in
    let o = opening accounts c.args.size in
    let e : checked_opening c.opening.result ≡ o = c.opening.ensures ∙ ap (opening accounts) c.from.ensures in
    let all : Puts first (body o file) c.match-opening.window =
    elim c.match-opening.branch [
      | in-Ok w ↦ subst (Puts first _) (sym w.window-is) (puts_in_words (taken w.in-Ok.book o file (ap checked_opening (sym w.in-Ok.is) ∙ e)) w.put_records.ensures)
      | in-Err w ↦ subst (Puts first _) (sym w.window-is) (puts_in_words (refused w.in-Err.refusal o file (ap checked_opening (sym w.in-Err.is) ∙ e)) (rw (← w.from-in-Err.ensures) w.put_refused.ensures))
    ] in
    puts_then all c.put.ensures
