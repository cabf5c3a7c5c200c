-- The run of a book over the calls of a file.
use mathlib.Core.{Path.◌≡◌, List.List}
use Rattle.std.specs.Prelude.{ℕ, ◌+◌, ◌≤◌, length}
use Rattle.calls.specs.declared.Call.{Call}
use Rattle.columns.specs.Columns.{accounts}
use Rattle.ledger.specs.{declared.Book.Book, Operations.singles, Operations.run, Operations.accepted_calls}
use Rattle.dayfile.specs.Calls.{calls_from}

-- where a run ended: the records accepted, and the book
pub record RunEnd : Type 0 where
  pub accepted : ℕ
  pub book : Book

-- a book after a list of calls, and how many of them it accepted
abbrev pub after_calls : Book → List Call → Book
after_calls b cs = run accounts b (singles cs)

abbrev pub accepted_of : Book → List Call → ℕ
accepted_of b cs = length (accepted_calls accounts b (singles cs))

abbrev pub run_over : Book → List Call → RunEnd
run_over b cs = record { accepted = accepted_of b cs; book = after_calls b cs }

-- ---- what the loops of a run promise each other, which a reader can skip: what began at a place of the file with one book and count has come to a later place
-- with another, and what follows leads to the same end
pub record Running (file : List ℕ) (start : Book) (before from : ℕ) (b : Book) (count at : ℕ) : Type 0 where
  pub fewer : count ≤ at
  pub inside : at ≤ length file
  pub onward : from ≤ at
  pub book_is : after_calls start (calls_from file from) ≡ after_calls b (calls_from file at)
  pub count_is : before + accepted_of start (calls_from file from) ≡ count + accepted_of b (calls_from file at)
