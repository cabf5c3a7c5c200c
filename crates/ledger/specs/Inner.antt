-- What is required of any call that changes a book in place, and what the parts of a set's answer come to. A reader of the promises can skip this file.
use mathlib.Core.{Path.◌≡◌, Bool.true, List.List}
use Rattle.std.specs.Prelude.{ℕ, ◌+◌, ◌*◌, ◌<◌, ◌≤◌, ◌^◌, None, Result, Ok, Err}
use lib.IntN.{nat_abs}
use Rattle.prices.specs.Price.{largest_price}
use Rattle.calls.specs.{declared.Trade.Trade, Trade.most_quantity}
use Rattle.refusals.specs.{declared.Refusal.Refusal, Refusals.first_met, Refusals.number, Refusals.number_of}
use Rattle.columns.specs.Columns.{count_at, entry}
use Rattle.counterparties.specs.Inner.{most_entry}
use Rattle.ledger.specs.{Refusals.within_limits, Keeping.Shaped, declared.Book.Book, Step.Answered, Sets.set_effect, Sets.trade_sentences}

-- a book of n accounts that is within its limits
pub record WithinLimits (n : ℕ) (b : Book) : Type 0 where
  pub shaped : Shaped n b
  pub within : within_limits n b ≡ true

-- ---- sets

-- each number that a trade raises has room for so many of them: an account may be both the buyer and the seller of each
pub record Room (trades : ℕ) (b : Book) : Type 0 where
  pub position : (j : ℕ) → nat_abs (entry b.columns.position j) + trades * (2 * most_quantity) ≤ most_entry
  pub cost : (j : ℕ) → nat_abs (entry b.columns.cost j) + trades * (2 * (most_quantity * largest_price)) ≤ most_entry
  pub volume : (j : ℕ) → count_at b.columns.volume j + trades * (2 * most_quantity) < 2 ^ 32
  pub contracts : b.figures.day.trades.settling.contracts + trades * most_quantity < 2 ^ 32
  pub gross : b.figures.day.trades.settling.gross + trades * (most_quantity * largest_price) < 2 ^ 64

-- the trades of a set, booked up to the first that is refused by itself
pub record SetBooked (n : ℕ) (b : Book) (ts : List Trade) (r : Result Unit Refusal) (b' : Book) : Type 0 where
  pub code : number_of r ≡ first_met (trade_sentences n ts)
  pub book : number_of r ≡ 0 → b' ≡ set_effect n b ts

-- the answer to a set that leads from one book to another, or is refused
abbrev pub set_answer : Book → Result Book Refusal → Answered
set_answer b (Ok b') = record { code = 0; fixing = None; friday = None; book = b' }
set_answer b (Err r) = record { code = number r; fixing = None; friday = None; book = b }
