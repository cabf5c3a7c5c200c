-- What the functions of this crate require, which a book within its limits has. A reader of the promises can skip this file.
use Rattle.std.specs.Prelude.{List, ℕ, ◌+◌, ◌<◌, ◌^◌, ◌≤◌}
use lib.{IntN.nat_abs, IntN.ℤ}
use Rattle.calls.specs.{declared.Trade.Trade, Trade.most_quantity}
use Rattle.columns.specs.Columns.{accounts, count_at, entry}

-- an entry, and what moves between two of them, whose sums fit 64 bits
abbrev pub most_entry : ℕ
most_entry = 2 ^ 61

abbrev pub most_moved : ℕ
most_moved = 2 ^ 60

-- both accounts of a trade are there
pub record Present (t : Trade) : Type 0 where
  pub buyer : t.buyer < accounts
  pub seller : t.seller < accounts

-- the entries of both accounts of a trade are within a bound
pub record Exchangeable (l : List ℤ) (t : Trade) (bound : ℕ) : Type 0 where
  pub buyer : nat_abs (entry l t.buyer) ≤ bound
  pub seller : nat_abs (entry l t.seller) ≤ bound

-- and likewise their v, which has room for both sides of a trade
pub record Countable (l : List ℕ) (t : Trade) : Type 0 where
  pub buyer : count_at l t.buyer + (most_quantity + most_quantity) < 2 ^ 32
  pub seller : count_at l t.seller + (most_quantity + most_quantity) < 2 ^ 32
