-- How large a fix's figures get, for the limits of a book.
--     clamped_size, amount_fits, amount_size   the clamped rate, the product of the amount, the amount
--     settlement_is_price                      the settlement price
--     dimes_most, dime_is_price                that of a final date
-- Assumes nothing.
use mathlib.Core.Path.{◌≡◌, refl, ap}
use mathlib.Core.Bool.{true, ◌&&◌}
use Prim.Native.Nat.{ℕ, ◌+◌, ◌*◌, ◌-◌, ◌/◌, ◌<◌, ◌≤◌, ◌^◌}
use native.Mathlib.Nat.{mul-le-mul}
use native.Mathlib.Omega.{arith}
use lib.Dec.{eqb}
use lib.IntN.{ℤ, pos, neg_ℤ, nat_abs, ◌*ℤ◌}
use lib.Signed.{lt_z}
use borrow.Author.Differences.{ints}
use borrow.Author.Tests.{eqb-false, not-true}
use Rattle.integers.specs.declared.Tie.{Tie}
use Rattle.integers.specs.declared.Tie.TheVariants.{Even}
use Rattle.integers.specs.Rounding.{nearest}
use Rattle.integers.proofs.Sizes.{size, apart, abs_neg}
use Rattle.integers.proofs.Rounding.{rounded_le, nearest_le, nearest_ge}
use Rattle.std.proofs.lemmas.Bool.{and_parts, cond_both}
use Rattle.std.proofs.lemmas.Int.{unsigned_abs-mul}
use Rattle.prices.specs.Price.{least_price, largest_price, is_price, is_present, none_or_price}
use Rattle.prices.proofs.Prices.{price_by, price_to, none_or_price-price, PriceSum}
use Rattle.funding.specs.declared.Terms.{Terms}
use Rattle.settlement.specs.declared.FinalMinute.{FinalMinute}
use Rattle.settlement.specs.declared.Midpoints.{Midpoints}
use Rattle.settlement.specs.declared.Previous.{Previous}
use Rattle.settlement.specs.Fixing.{clamped_to, amount_of, index_price, settlement_price, dime, dime_price}

-- a clamped rate is within what both sides of the clamp are within
pub clamped_size : (t : Terms) (r : ℤ) (n : ℕ) → t.below ≤ n → t.above ≤ n → nat_abs (clamped_to t r) ≤ n
clamped_size t r n hb ha =
    let low = neg_ℤ (pos t.below) in
    cond_both (lt_z r low) _ _ (λ z. nat_abs z ≤ n)
    (λ e. omega (arith, abs_neg (pos t.below)))
    (λ e. cond_both (lt_z (pos t.above) r) _ _ (λ z. nat_abs z ≤ n)
    (λ f. ha)
    (λ f. omega (arith, ints, size r, apart r)))

-- price × size, and the rate times it, for a rate, a price and a size within limits
module _ (r : ℤ) (P size : ℕ) (most-rate most-price most-size : ℕ) (hr : nat_abs r ≤ most-rate) (hP : P ≤ most-price) (hs : size ≤ most-size) where
  scale_size : P * size ≤ most-price * most-size
  scale_size = mul-le-mul hP hs

  product_size : nat_abs r * (P * size) ≤ most-rate * (most-price * most-size)
  product_size = mul-le-mul hr scale_size

  -- what `amount` requires
  pub amount_fits : most-rate * (most-price * most-size) < 2 ^ 63 → most-price * most-size < 2 ^ 63 → (nat_abs r * (P * size) < 2 ^ 63) × (P * size < 2 ^ 63)
  amount_fits product scale = (omega (arith, product_size), omega (arith, scale_size))

  -- the largest product bounds the amount
  pub amount_size : (tie : Tie) (most : ℕ) → most-rate * (most-price * most-size) ≤ most * 100000000000 → nat_abs (amount_of tie r P size) ≤ most
  amount_size tie most h =
      rounded_le tie (neg_ℤ r *ℤ pos (P * size)) 100000000000 most (omega arith)
      (omega (arith, unsigned_abs-mul (neg_ℤ r) (pos (P * size)), ap (λ n. n * (P * size)) (abs_neg r), product_size))

average_is_price : (n sum : ℕ) → PriceSum n sum → is_present n ≡ true → none_or_price (nearest Even sum n) ≡ true
average_is_price n sum p g =
    let some : 0 < n = omega (arith, eqb-false n 0 (not-true (eqb n 0) g)) in
    let average = nearest Even sum n in
    none_or_price-price average (price_by average (nearest_ge Even sum n least_price some p.low) (nearest_le Even sum n largest_price some p.high))

index_is_price : (index : ℕ) (previous : Previous) → none_or_price (index_price index previous) ≡ true
index_is_price index previous =
    let p = index + previous.price - previous.index in
    let given = is_present index && is_present previous.price && is_present previous.index in
    cond_both (given && is_price p) _ _ (λ q. none_or_price q ≡ true) (λ e. none_or_price-price p (and_parts given (is_price p) e).1) (λ e. refl)

-- the settlement price is none or a price, where the set price is, and contracts and milliseconds are of prices
pub settlement_is_price :
    (set : ℕ) (traded : FinalMinute) (midpoints : Midpoints) (index : ℕ) (previous : Previous)
    → none_or_price set ≡ true → PriceSum traded.contracts traded.gross → PriceSum midpoints.total midpoints.sum
    → none_or_price (settlement_price set traded midpoints index previous) ≡ true
settlement_is_price set traded midpoints index previous hs t m =
    cond_both (is_present set) _ _ (λ p. none_or_price p ≡ true)
    (λ e. hs)
    (λ e. cond_both (is_present traded.contracts) _ _ (λ p. none_or_price p ≡ true)
    (average_is_price traded.contracts traded.gross t)
    (λ g. cond_both (is_present midpoints.total) _ _ (λ p. none_or_price p ≡ true)
    (average_is_price midpoints.total midpoints.sum m)
    (λ g. index_is_price index previous)))

-- the limits of a price are whole dimes, and so the dimes of a price are within them
pub dimes_most : (value : ℕ) → value ≤ largest_price → nearest Even value dime ≤ largest_price / dime
dimes_most value h = nearest_le Even value dime (largest_price / dime) (omega arith) (omega (arith, h))

pub dime_is_price : (value : ℕ) → is_price value ≡ true → is_price (dime_price value) ≡ true
dime_is_price value h =
    let p = price_to value h in
    price_by (dime_price value) (omega (arith, nearest_ge Even value dime (least_price / dime) (omega arith) (omega (arith, p.0)))) (omega (arith, dimes_most value p.1))
