-- The whole printout of `funding-bench`: from the bytes of its input to the bytes of its text. Document 01, "Reports, file, program".
use mathlib.Core.{Bool.cond, List.List, List.[], List.◌∷◌, List.◌++◌}
use Rattle.std.specs.Prelude.{ℕ, ◌+◌, Option, Some, None}
use lib.{Dec.eqb, ListN.take, ListN.drop, ListN.get_or}
use Rattle.text.specs.Text.{bytes}
use Rattle.lines.specs.Lines.{refused_line, day_line, final_line, account_lines}
use Rattle.columns.specs.{declared.Columns.Columns, Columns.accounts}
use Rattle.ledger.specs.{declared.Book.Book, Step.opening}
use Rattle.dayfile.specs.{declared.Read.Read, Calls.records_of}
use Rattle.playing.specs.{declared.Printed.Printed, Printed.AfterRecord, Printed.played_record}
use Rattle.playing.specs.declared.Printed.TheVariants as printed

-- the lines of what is printed, with the columns after it
abbrev pub text_of : Option Printed → Columns → List ℕ
text_of None c = []
text_of (Some (printed.Refused number place)) c = refused_line number place
text_of (Some (printed.Day day fixing)) c = day_line day fixing
text_of (Some (printed.Final friday)) c = final_line friday
text_of (Some printed.Accounts) c = account_lines accounts c.position c.cash

-- a text, and the book behind its last line
pub record Lines : Type 0 where
  pub text : List ℕ
  pub book : Book

-- a record's lines before those of the records after it
abbrev pub before : AfterRecord → Lines → Lines
before r rest = record { text = text_of r.printed r.book.columns ++ rest.text; book = rest.book }

-- the lines of records on a book, counted from this place on
unfoldable pub after_records : Book → ℕ → List Read → Lines
after_records b place [] = record { text = []; book = b }
after_records b place (r ∷ rs) = before (played_record b r.call place) (after_records (played_record b r.call place).book (place + 1) rs)

-- those of all its records, on a fresh book of this size
abbrev pub lines_of : ℕ → List ℕ → Lines
lines_of size file = after_records (opening accounts size).book 1 (records_of file)

-- 01: "A refused size prints `refused 5 record 0` and reads no record. Every run's last line is `end`."
abbrev pub printout_of : ℕ → List ℕ → List ℕ
printout_of size file = cond (eqb (opening accounts size).code 0) (lines_of size file).text (refused_line (opening accounts size).code 0) ++ bytes "end\n"

-- 01: "reads size (one byte; missing counts as 0), then records"
abbrev pub printout_of_counted : List ℕ → List ℕ
printout_of_counted input = printout_of (get_or input 0 0) (drop 1 input)

-- 01: "only the first 65,536 bytes count, size byte included, as if the input ended there"
abbrev pub most_input : ℕ
most_input = 65536

abbrev pub printout : List ℕ → List ℕ
printout input = printout_of_counted (take most_input input)
