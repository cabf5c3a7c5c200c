-- The printout and the run for C are one run. Assumes nothing.
use mathlib.Core.Path.{◌≡◌, refl}
use mathlib.Core.List.{List, [], ◌∷◌}
use Prim.Native.Nat.{ℕ, ◌+◌}
use Rattle.columns.specs.Columns.{accounts}
use Rattle.ledger.specs.declared.Book.{Book}
use Rattle.ledger.specs.Step.{opening, step}
use Rattle.ledger.specs.Operations.{run}
use Rattle.records.specs.Run.{after_calls}
use Rattle.std.specs.Prelude.{Option, Some, None, Result, Ok, Err}
use Rattle.calls.specs.declared.Call.{Call}
use Rattle.dayfile.specs.declared.RecordError.{RecordError}
use Rattle.dayfile.specs.declared.Read.{Read}
use Rattle.dayfile.specs.Calls.{called, calls_in, records_of}
use Rattle.playing.specs.Printed.{played_record}
use Rattle.printout.specs.Printout.{after_records}
use Rattle.host.specs.Run.{OneRun}

-- a record that makes no call leaves the book to those after it
same_book : (b : Book) (place : ℕ) (rs : List Read) → (after_records b place rs).book ≡ after_calls b (calls_in rs)
unfolding after_records calls_in run
same_book b place [] = refl
same_book b place (r ∷ rs) = by r.call (λ b. same_book b (place + 1) rs)
  where
    by : (call : Result (Option Call) RecordError) → ((b : Book) → (after_records b (place + 1) rs).book ≡ after_calls b (calls_in rs))
        → (after_records (played_record b call place).book (place + 1) rs).book ≡ after_calls b (called call (calls_in rs))
    by (Ok None) others = others b
    by (Ok (Some c)) others = others (step accounts b c).book
    by (Err e) others = others b

pub one_run : OneRun
one_run size file = same_book (opening accounts size).book 1 (records_of file)
