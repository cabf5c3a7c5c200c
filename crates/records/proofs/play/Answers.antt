-- `records::play` meets its contract, by what call the record has.
use mathlib.Core.Path.{◌≡◌, sym, ◌∙◌, ap}
use mathlib.Core.List.{[]}
use borrow.Author.Rules.{rules}
use Rattle.std.specs.Prelude.{Option, Some, None, Result, Ok}
use Rattle.calls.specs.declared.Call.{Call}
use Rattle.dayfile.specs.declared.RecordError.{RecordError}
use Rattle.dayfile.specs.Calls.{called}
use Rattle.ledger.specs.declared.Book.{Book}
use Rattle.records.specs.Run.{RunEnd, run_over}
use Rattle.records.proofs.Running.{one_call, no_call}
use Rattle.records.proofs.play.Goals as goal

-- what the call is known to be
of_call : (b : Book) {k k' : Result (Option Call) RecordError} → k ≡ k' → {x : RunEnd} → x ≡ run_over b (called k' []) → x ≡ run_over b (called k [])
of_call b e h = h ∙ ap (λ (k : Result (Option Call) RecordError). run_over b (called k [])) (sym e)

pub returns-in-Ok-Some : goal.returns-in-Ok-Some
returns-in-Ok-Some c =
    let b = c.args.book.now.book in
    let call = c.in-Ok-Some.call in
    let e : c.args.call ≡ Ok (Some call) = search rules in
    of_call b e (rw c.is_ok.ensures.value (one_call b call c.step.result c.step.new.self.book c.step.ensures))

pub returns-in-Ok-None : goal.returns-in-Ok-None
returns-in-Ok-None c =
    let e : c.args.call ≡ Ok None = search rules in
    of_call c.args.book.now.book e (no_call c.args.book.now.book)

pub returns-in-Err : goal.returns-in-Err
returns-in-Err c = of_call c.args.book.now.book c.in-Err.is (no_call c.args.book.now.book)
