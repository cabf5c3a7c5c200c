-- Which rule gives a settlement price, and that of a final date, at numbers that a reader checks with a pencil. Proved by computing in proofs/PriceRules.antt.
use Rattle.std.specs.Prelude.{◌≡◌, ℕ}
use Rattle.settlement.specs.{declared.FinalMinute.FinalMinute, declared.Midpoints.Midpoints, declared.Previous.Previous, Fixing.settlement_price, Fixing.dime_price}

abbrev traded : ℕ → ℕ → FinalMinute
traded n gross = record { contracts = n; gross = gross }

abbrev quoted : ℕ → ℕ → Midpoints
quoted total sum = record { total = total; sum = sum }

abbrev before : ℕ → ℕ → Previous
before price index = record { price = price; index = index }

-- 01: "the set price if given; else, when n > 0, half-even of gross / n; else day's index + previous price − previous index, when all three are nonzero and the
-- result is a price"
pub record PriceRules : Type 0 where
  pub set_price : settlement_price 30000 (traded 2 40010) (quoted 0 0) 6000 (before 7000 5500) ≡ 30000
  pub average : settlement_price 0 (traded 2 40010) (quoted 0 0) 6000 (before 7000 5500) ≡ 20005
  pub tie_up : settlement_price 0 (traded 2 40011) (quoted 0 0) 6000 (before 7000 5500) ≡ 20006
  pub tie_down : settlement_price 0 (traded 2 40013) (quoted 0 0) 6000 (before 7000 5500) ≡ 20006
  pub by_index : settlement_price 0 (traded 0 0) (quoted 0 0) 6000 (before 7000 5500) ≡ 7500
  pub no_index : settlement_price 0 (traded 0 0) (quoted 0 0) 0 (before 7000 5500) ≡ 0
  pub no_previous_price : settlement_price 0 (traded 0 0) (quoted 0 0) 6000 (before 0 5500) ≡ 0
  pub no_previous_index : settlement_price 0 (traded 0 0) (quoted 0 0) 6000 (before 7000 0) ≡ 0
  pub negative : settlement_price 0 (traded 0 0) (quoted 0 0) 6000 (before 7000 13001) ≡ 0
  pub below_least : settlement_price 0 (traded 0 0) (quoted 0 0) 6000 (before 7000 8001) ≡ 0
  pub at_least : settlement_price 0 (traded 0 0) (quoted 0 0) 6000 (before 7000 8000) ≡ 5000
  pub at_largest : settlement_price 0 (traded 0 0) (quoted 0 0) 50000000 (before 7000 7000) ≡ 50000000
  pub above_largest : settlement_price 0 (traded 0 0) (quoted 0 0) 50000000 (before 7001 7000) ≡ 0

-- 02-4: "The sum over the total, half-even, is the settlement price if the total is at least 1. … This step stands after trades and before the index step"
pub record MidpointRule : Type 0 where
  pub after_set_price : settlement_price 40000 (traded 0 0) (quoted 2 60002) 6000 (before 7000 5500) ≡ 40000
  pub after_trades : settlement_price 0 (traded 2 40010) (quoted 2 60002) 6000 (before 7000 5500) ≡ 20005
  pub before_index : settlement_price 0 (traded 0 0) (quoted 2 60002) 6000 (before 7000 5500) ≡ 30001
  pub one_millisecond : settlement_price 0 (traded 0 0) (quoted 1 30001) 6000 (before 7000 5500) ≡ 30001
  pub midpoint_tie_up : settlement_price 0 (traded 0 0) (quoted 2 60003) 6000 (before 7000 5500) ≡ 30002
  pub midpoint_tie_down : settlement_price 0 (traded 0 0) (quoted 2 60005) 6000 (before 7000 5500) ≡ 30002

-- 02-7: "rounded to the nearest 10 cents, ties to the even dime"
pub record Dimes : Type 0 where
  pub whole : dime_price 200000 ≡ 200000
  pub below_half : dime_price 200004 ≡ 200000
  pub tie_down : dime_price 200005 ≡ 200000
  pub above_half : dime_price 200006 ≡ 200010
  pub tie_up : dime_price 200015 ≡ 200020
  pub below_dime : dime_price 200019 ≡ 200020
  pub least : dime_price 5000 ≡ 5000
  pub near_largest : dime_price 49999995 ≡ 50000000
