-- What the functions of this crate require, which a book within its limits has, and what a close comes to. A reader of the promises can skip this file.
use mathlib.Core.{Bool.true, Bool.cond, Path.◌≡◌}
use Rattle.std.specs.Prelude.{ℕ, ◌*◌, ◌<◌, ◌≤◌, Result}
use lib.{Dec.eqb, ListN.length, IntN.nat_abs}
use Rattle.prices.specs.Price.{largest_price}
use Rattle.calls.specs.declared.Call.TheVariants as call
use Rattle.refusals.specs.{declared.Refusal.Refusal, Refusals.most_days, Refusals.number_of}
use Rattle.figures.specs.{declared.Figures.Figures, Figures.figures_hold, declared.Found.Found, Figures.outcome_of}
use Rattle.outcomes.specs.Outcome.{outcome}
use Rattle.columns.specs.{declared.Account.Account, declared.Columns.Columns, Columns.accounts, Columns.account_at, Columns.entry, Limits.most_position, Limits.most_posting, Limits.most_volume}
use Rattle.closing.specs.Closing.{closed_columns}

-- an account's posting fits
pub record Postable (f : Figures) (a : Account) : Type 0 where
  pub figures : figures_hold f ≡ true
  pub opening_size : nat_abs a.opening ≤ most_position
  pub position_size : nat_abs a.position ≤ most_position
  pub cost_size : nat_abs a.cost ≤ most_volume * largest_price

-- so does every account's, and its cash of all days with it
pub record Closable (f : Figures) (c : Columns) : Type 0 where
  pub figures : figures_hold f ≡ true
  pub cash_length : length c.cash ≡ accounts
  pub postable : (j : ℕ) → j < accounts → Postable f (account_at c j)
  pub cash_size : (j : ℕ) → j < accounts → nat_abs (entry c.cash j) ≤ most_days * most_posting

-- what a close comes to, and the columns after it, which a refused one leaves
pub record CloseAnswered (n : ℕ) (f : Figures) (c : Columns) (r : Result Found Refusal) (f' : Figures) (c' : Columns) : Type 0 where
  pub answer : outcome_of r f' ≡ outcome f call.Close
  pub columns : c' ≡ cond (eqb (number_of r) 0) (closed_columns n f c) c
