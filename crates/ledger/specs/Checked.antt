-- The opening of a book that is kept within its limits.
use Rattle.std.specs.Prelude.{None, Result, Ok, Err}
use Rattle.refusals.specs.{declared.Refusal.Refusal, Refusals.number}
use Rattle.figures.specs.Figures.{fresh_figures}
use Rattle.columns.specs.Columns.{accounts}
use Rattle.ledger.specs.{declared.checked.CheckedBook.CheckedBook, Step.Answered, Step.empty_book}

-- the answer that such an opening stands for: where it is refused, the book of size 0 is left out
abbrev pub checked_opening : Result CheckedBook Refusal → Answered
checked_opening (Ok k) = record { code = 0; fixing = None; friday = None; book = k.book }
checked_opening (Err r) = record { code = number r; fixing = None; friday = None; book = empty_book accounts (fresh_figures 0) }
