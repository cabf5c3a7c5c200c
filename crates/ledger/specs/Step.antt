-- The opening, a call and the report, on a book of n accounts.
use mathlib.Core.{Bool.cond, Bool.not, Bool.◌||◌, List.List, List.[], List.◌∷◌}
use Rattle.std.specs.Prelude.{ℕ, Option, None, Result}
use lib.{Dec.eqb, IntN.ℤ}
use Rattle.calls.specs.declared.Call.{Call}
use Rattle.refusals.specs.{declared.Refusal.Refusal, Refusals.first_met, Refusals.number_of}
use Rattle.figures.specs.{declared.Figures.Figures, declared.Fixing.Fixing, declared.Found.Found, Figures.fixing_in, Figures.friday_in, Figures.fresh_figures, Figures.opened}
use Rattle.outcomes.specs.Effects.{fixing_of, friday_of}
use Rattle.columns.specs.Columns.{zero_columns}
use Rattle.ledger.specs.{declared.Book.Book, Effects.effect, Refusals.refusal, Refusals.within_limits}

-- what a call is answered: the number of its refusal, 0 for none, what a fix found, the day of the month that a final date prints, and the book
-- after it
pub record Answered : Type 0 where
  pub code : ℕ
  pub fixing : Option Fixing
  pub friday : Option ℕ
  pub book : Book

-- that of an outcome with the book after it
abbrev pub answer_of : Result Found Refusal → Book → Answered
answer_of r b = record { code = number_of r; fixing = fixing_in r; friday = friday_in r; book = b }

-- ---- the opening

-- a book of n accounts with these figures, and zeros in every column
abbrev pub empty_book : ℕ → Figures → Book
empty_book n f = record { figures = f; columns = zero_columns n }

-- 01: "a fresh book holds that size, zeros, and no halt", here over n accounts
abbrev pub fresh : ℕ → ℕ → Book
fresh n s = empty_book n (fresh_figures s)

-- 01: "A fresh book is what an accepted opening hands back"; "A refused opening returns an empty book of size 0"
abbrev pub opening : ℕ → ℕ → Answered
opening n s = record { code = (opened s).code; fixing = (opened s).fixing; friday = (opened s).friday; book = empty_book n (opened s).figures }

-- ---- a call

-- the answer with this number: 01, "A refused call returns its number and the same book"
abbrev pub answer_by : ℕ → ℕ → Book → Call → Answered
answer_by number n b c = record {
  code = number;
  fixing = cond (eqb number 0) (fixing_of b.figures c) None;
  friday = cond (eqb number 0) (friday_of c) None;
  book = cond (eqb number 0) (effect n b c) b;
}

-- the answer to a call
unfoldable pub step : ℕ → Book → Call → Answered
step n b c = answer_by (refusal n b c) n b c

-- ---- the report

-- 01: "A report checks 2 then 10 and works on any day"; 02-5: "reports need lists of 1,024, else 10"
abbrev pub report_refusal : ℕ → Book → ℕ → ℕ → ℕ
report_refusal n b positions cash = first_met ((2, not (within_limits n b)) ∷ (10, not (eqb positions n) || not (eqb cash n)) ∷ [])

-- 01: "The report fills two lent lists …, entry j being account j's position and cash"; a refused one leaves a list as it was
abbrev pub reported : ℕ → List ℤ → List ℤ → List ℤ
reported number column list = cond (eqb number 0) column list
