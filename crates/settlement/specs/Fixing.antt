-- A fix's figures: rate, clamped rate, amount and settlement price.
use Rattle.std.specs.Prelude.{cond, ◌&&◌, ℕ, ◌+◌, ◌-◌, ◌*◌, ◌/◌}
use lib.{Dec.eqb, IntN.ℤ, IntN.pos, IntN.neg_ℤ, IntN.◌*ℤ◌, Signed.lt_z}
use Rattle.integers.specs.{declared.Tie.Tie, Rounding.half_even, Rounding.nearest, Rounding.rounded, declared.Tie.TheVariants.Even}
use Rattle.prices.specs.Price.{is_price, is_present}
use Rattle.funding.specs.declared.Terms.{Terms}
use Rattle.settlement.specs.{declared.FinalMinute.FinalMinute, declared.Midpoints.Midpoints, declared.Previous.Previous}

-- 01: "Rate = half-even of S / (k(k+1)/2), or 0 when k = 0"
abbrev pub rate_of : ℕ → ℤ → ℤ
rate_of k S = cond (eqb k 0) (pos 0) (half_even S (k * (k + 1) / 2))

-- 01: "Clamped to ±2,000,000", each side by its own term
abbrev pub clamped_to : Terms → ℤ → ℤ
clamped_to t r = cond (lt_z r (neg_ℤ (pos t.below))) (neg_ℤ (pos t.below)) (cond (lt_z (pos t.above) r) (pos t.above) r)

-- 01: "Amount = half-even of −(clamped rate) × P × size / 10^11", with the rule for ties in force
abbrev pub amount_of : Tie → ℤ → ℕ → ℕ → ℤ
amount_of tie rate P size = rounded tie (neg_ℤ rate *ℤ pos (P * size)) 100000000000

-- 01: "half-even of gross / n"
abbrev pub average_price : FinalMinute → ℕ
average_price traded = nearest Even traded.gross traded.contracts

-- 02-4: "The sum over the total, half-even"
abbrev pub average_midpoint : Midpoints → ℕ
average_midpoint m = nearest Even m.sum m.total

-- 02-7: "that value rounded to the nearest 10 cents, ties to the even dime"
abbrev pub dime : ℕ
dime = 10

abbrev pub dime_price : ℕ → ℕ
dime_price value = nearest Even value dime * dime

-- 01: "day's index + previous price − previous index, when all three are nonzero and the result is a price"; 0 otherwise
abbrev pub index_price : ℕ → Previous → ℕ
index_price index previous =
    cond
    (is_present index && is_present previous.price && is_present previous.index && is_price (index + previous.price - previous.index))
    (index + previous.price - previous.index)
    0

-- 01: "settlement price P is the set price if given; else, when n > 0, half-even of gross / n; else" by the index; 0 where no rule gives one.
-- 02-4: the average midpoint is it "if the total is at least 1. … This step stands after trades and before the index step"
abbrev pub settlement_price : ℕ → FinalMinute → Midpoints → ℕ → Previous → ℕ
settlement_price set traded midpoints index previous =
    cond (is_present set) set
    (cond (is_present traded.contracts) (average_price traded)
    (cond (is_present midpoints.total) (average_midpoint midpoints)
    (index_price index previous)))
