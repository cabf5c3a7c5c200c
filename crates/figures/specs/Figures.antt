-- All that a book holds beside its account columns: the numbers in force, the opening and the limits.
use Rattle.std.specs.Prelude.{Bool, false, cond, ◌&&◌, ◌||◌, ℕ, Option, Some, None, Result, Ok, Err}
use lib.{Dec.leb, Dec.eqb}
use Rattle.integers.specs.declared.{Tie.Tie, Tie.TheVariants.Even}
use Rattle.prices.specs.Price.{none_or_price}
use Rattle.funding.specs.{declared.Terms.Terms, Terms.standard_terms}
use Rattle.refusals.specs.{declared.Refusal.Refusal, Refusals.most_days, Refusals.number, Refusals.number_of}
use Rattle.day.specs.{Day.empty_day, Limits.day_holds}
use Rattle.figures.specs.declared.{Figures.Figures, Fixing.Fixing, Found.Found}
use Rattle.figures.specs.declared.Found.TheVariants as found

-- the terms and the rule for ties in force on the open day: document 01's on every day
abbrev pub terms_on : Figures → Terms
terms_on f = standard_terms

abbrev pub tie_on : Figures → Tie
tie_on f = Even

-- 01: "The two products, with contract size 1 or 10 (hundredths of a coin)"
abbrev pub hundredth : ℕ
hundredth = 1

abbrev pub tenth : ℕ
tenth = 10

abbrev pub is_size : ℕ → Bool
is_size s = eqb s hundredth || eqb s tenth

-- 01: "a fresh book holds that size, zeros, and no halt"
abbrev pub fresh_figures : ℕ → Figures
fresh_figures s = record { size = s; closed = 0; halted = false; expired = false; previous = record { price = 0; index = 0 }; day = empty_day }

-- 3: "any call on a book with 2,600 closed days"; 02-7: "any call after the final close"
abbrev pub is_over : Figures → Bool
is_over f = leb most_days f.closed || f.expired

-- what a call comes to: the number of its refusal, 0 for none, what a fix found, the day of the month that a final date prints, and the figures
-- after it
pub record Outcome : Type 0 where
  pub code : ℕ
  pub fixing : Option Fixing
  pub friday : Option ℕ
  pub figures : Figures

-- the fix and the day of the month in what an accepted call finds
abbrev pub fixing_found : Found → Option Fixing
fixing_found found.Nothing = None
fixing_found (found.Fixing fixing) = Some fixing
fixing_found (found.Friday day) = None

abbrev pub friday_found : Found → Option ℕ
friday_found found.Nothing = None
friday_found (found.Fixing fixing) = None
friday_found (found.Friday day) = Some day

-- the outcome that the answer to a call stands for, with the figures after it
abbrev pub fixing_in : Result Found Refusal → Option Fixing
fixing_in (Ok x) = fixing_found x
fixing_in (Err r) = None

abbrev pub friday_in : Result Found Refusal → Option ℕ
friday_in (Ok x) = friday_found x
friday_in (Err r) = None

abbrev pub outcome_of : Result Found Refusal → Figures → Outcome
outcome_of r f = record { code = number_of r; fixing = fixing_in r; friday = friday_in r; figures = f }

-- figures with a refusal's number, 0 for none, and nothing found
abbrev pub numbered : Figures → ℕ → Outcome
numbered f number = record { code = number; fixing = None; friday = None; figures = f }

-- 01: "A refused opening returns an empty book of size 0"; its number is 5
abbrev pub opened : ℕ → Outcome
opened s = numbered (fresh_figures (cond (is_size s) s 0)) (cond (is_size s) 0 5)

-- the outcome that the answer to an opening stands for
abbrev pub opening_of : Result Figures Refusal → Outcome
opening_of (Ok f) = numbered f 0
opening_of (Err r) = numbered (fresh_figures 0) (number r)

-- 01: "size 1 or 10; closed days 0 to 2,600; … previous price, previous index … 0 or a price"
unfoldable pub figures_hold : Figures → Bool
figures_hold f = is_size f.size && leb f.closed most_days && none_or_price f.previous.price && none_or_price f.previous.index && day_holds f.day
