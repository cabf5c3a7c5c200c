-- `host::funding_run` meets its contract: demand 3 applies to the columns of the run.
use mathlib.Core.Path.{◌≡◌, sym, ◌∙◌, ap}
use Rattle.columns.specs.Columns.{accounts}
use Rattle.dayfile.specs.Calls.{calls_of}
use Rattle.ledger.specs.Step.{Answered, opening}
use Rattle.ledger.specs.Checked.{checked_opening}
use Rattle.std.specs.Prelude.{Ok}
use Rattle.records.specs.Run.{RunEnd, run_over}
use Rattle.host.proofs.Settling.{settled}
use Rattle.host.specs.Run.{run_file}
use Rattle.host.proofs.funding_run.Goals as goal

pub returns-clause-history : goal.returns-clause-history
returns-clause-history c t =
    let a = c.args in
    let file = a.file.now in
    let opened : checked_opening (Ok c.in-Ok.checked) ≡ opening accounts a.size = c.in-Ok.ensures ∙ ap (opening accounts) c.from.ensures in
    let run_is : record { accepted = c.run-accepted.result; book = c.run-accepted.new.book.book } ≡ run_file a.size file =
    c.run-accepted.ensures ∙ ap (λ (x : Answered). run_over x.book (calls_of file)) opened in
    let p : c.copy_from_slice.new.self ≡ (run_file a.size file).book.columns.position = c.copy_from_slice.ensures.after ∙ ap (λ (x : RunEnd). x.book.columns.position) run_is in
    let m : c.copy_from_slice-2.new.self ≡ (run_file a.size file).book.columns.cash = c.copy_from_slice-2.ensures.after ∙ ap (λ (x : RunEnd). x.book.columns.cash) run_is in
    let n : c.run-accepted.result ≡ (run_file a.size file).accepted = ap (λ (x : RunEnd). x.accepted) run_is in
    rw (p, m, n) (settled a.size file (ap (λ (x : Answered). x.code) (sym opened)))
