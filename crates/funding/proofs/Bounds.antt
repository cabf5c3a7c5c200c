-- How large a minute's figures get, for the limits of a book.
--     basis_size, accrued_size     its basis, and the weighted sum with it
--     futures_is_price             its futures price
-- Assumes nothing.
use mathlib.Core.Path.{◌≡◌}
use mathlib.Core.Bool.{true, ◌&&◌}
use Prim.Native.Nat.{ℕ, ◌+◌, ◌*◌, ◌/◌, ◌≤◌}
use native.Mathlib.Nat.{mul-le-mul_left}
use native.Mathlib.Omega.{arith}
use lib.Dec.{leb}
use lib.IntN.{ℤ, pos, neg_ℤ, nat_abs, ◌-ℤ◌, ◌*ℤ◌}
use borrow.Author.Differences.{sum_is_lem, neg_is}
use Rattle.integers.specs.declared.Tie.TheVariants.{Even}
use Rattle.integers.proofs.Sizes.{size, apart, abs_add}
use Rattle.integers.proofs.Rounding.{rounded_le}
use Rattle.std.proofs.lemmas.Bool.{and_parts, cond_both}
use Rattle.std.proofs.lemmas.Int.{unsigned_abs-mul}
use Rattle.prices.specs.Price.{least_price, largest_price, is_price, is_present, none_or_price}
use Rattle.prices.proofs.Prices.{price_to, price_by, the_price}
use Rattle.funding.specs.Minute.{futures_price, basis_of, accrued, most_basis, weighted_limit, Accrues}

difference_size : (F u : ℕ) → least_price ≤ u → F ≤ largest_price → nat_abs (pos F -ℤ pos u) ≤ 9999 * u
difference_size F u l h = omega (arith, size (pos F -ℤ pos u), apart (pos F -ℤ pos u), sum_is_lem (pos F) (neg_ℤ (pos u)), neg_is (pos u))

-- a basis of prices is at most 9,999 × 10^9 in size
pub basis_size : (F u : ℕ) → least_price ≤ u → u ≤ largest_price → least_price ≤ F → F ≤ largest_price → nat_abs (basis_of F u) ≤ most_basis
basis_size F u l _ _ h =
    rounded_le Even ((pos F -ℤ pos u) *ℤ pos 1000000000) u most_basis (omega arith)
    (omega (arith, unsigned_abs-mul (pos F -ℤ pos u) (pos 1000000000), difference_size F u l h))

-- the futures price of a market of prices is a price, where the last trade is none or a price
pub futures_is_price : (b a last : ℕ) → is_price b ≡ true → is_price a ≡ true → none_or_price last ≡ true → is_price (futures_price b a last) ≡ true
futures_is_price b a last hb ha hl =
    cond_both (is_present last && leb b last && leb last a) _ _ (λ p. is_price p ≡ true)
    (λ e. the_price last (and_parts (is_present last) (leb b last) (and_parts (is_present last && leb b last) (leb last a) e).0).0 hl)
    (λ e. price_by ((a + b) / 2) (omega (arith, price_to b hb, price_to a ha)) (omega (arith, price_to b hb, price_to a ha)))

-- the weighted sum with one more valid minute is within its limit
pub accrued_size : (S : ℤ) (k : ℕ) (x : ℤ) → Accrues S k x → nat_abs (accrued S k x) ≤ weighted_limit (k + 1)
accrued_size S k x A =
    let more : (k + 1) * (k + 1 + 1) / 2 ≡ k * (k + 1) / 2 + (k + 1) = omega arith in
    omega (arith, abs_add S (pos (k + 1) *ℤ x), unsigned_abs-mul (pos (k + 1)) x, mul-le-mul_left (k + 1) A.size, A.sum)
