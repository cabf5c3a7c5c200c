-- What `funding-bench` prints for each record of a file.
use mathlib.Core.{Bool.cond}
use Rattle.std.specs.Prelude.{ℕ, ◌+◌, Option, Some, None, Result, Ok, Err}
use lib.Dec.{eqb}
use Rattle.calls.specs.{declared.Call.Call, Calls.on_fix, Calls.on_close, Calls.on_final_date, Calls.on_final_fix}
use Rattle.figures.specs.declared.Fixing.{Fixing}
use Rattle.columns.specs.Columns.{accounts}
use Rattle.ledger.specs.{declared.Book.Book, Step.Answered, Step.step}
use Rattle.dayfile.specs.{declared.RecordError.RecordError, Record.call_number}
use Rattle.playing.specs.declared.Printed.{Printed}
use Rattle.playing.specs.declared.Printed.TheVariants as printed

-- a refusal's line, or what is printed without one
abbrev pub printed_number : ℕ → ℕ → Option Printed → Option Printed
printed_number number place otherwise = cond (eqb number 0) otherwise (Some (printed.Refused number place))

-- what a fix found, on the day after so many closed ones
abbrev pub printed_fix : Option Fixing → ℕ → Option Printed
printed_fix None closed = None
printed_fix (Some fixing) closed = Some (printed.Day (closed + 1) fixing)

-- the day of the month that a final date found
abbrev pub printed_final : Option ℕ → Option Printed
printed_final None = None
printed_final (Some friday) = Some (printed.Final friday)

-- 01: "A fix prints the day counted from 1, P, clamped rate, amount and k. A close prints" the accounts; 02-7: a final date "prints `final` and the Friday's day".
-- Other accepted calls print nothing.
abbrev pub printed_when_accepted : Option Fixing → Option ℕ → ℕ → Call → Option Printed
printed_when_accepted fixing friday closed c =
    on_fix (λ set. printed_fix fixing closed)
    (on_final_fix (λ v. printed_fix fixing closed) (on_close (Some printed.Accounts) (on_final_date (λ m. printed_final friday) None c) c) c) c

-- 01: "A refused record prints `refused`, its number, `record`, its place from 1 (unknown ones count)"
abbrev pub printed_by : ℕ → Option Fixing → Option ℕ → ℕ → Call → ℕ → Option Printed
printed_by number fixing friday closed c place = printed_number number place (printed_when_accepted fixing friday closed c)

-- what a record prints, and the book after it
pub record AfterRecord : Type 0 where
  pub printed : Option Printed
  pub book : Book

-- 02-7: the final close "clears every present and opening position before printing": what is printed is of the book after the call
abbrev pub played : Answered → Call → ℕ → AfterRecord
played a c place = record { printed = printed_by a.code a.fixing a.friday a.book.figures.closed c place; book = a.book }

-- a record that makes no call on the book: it is refused by 1, or prints nothing
abbrev pub not_played : Book → Result (Option Call) RecordError → ℕ → AfterRecord
not_played b call place = record { printed = printed_number (call_number call) place None; book = b }

abbrev pub played_record : Book → Result (Option Call) RecordError → ℕ → AfterRecord
played_record b (Ok None) place = not_played b (Ok None) place
played_record b (Ok (Some c)) place = played (step accounts b c) c place
played_record b (Err e) place = not_played b (Err e) place
