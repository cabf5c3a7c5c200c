-- Sizes (`nat_abs`) over the kit's `borrow.Author.Differences`, by whose `up` and `down` `omega` decides sums, the order and fits.
--     size z     nat_abs z is up z + down z; `apart z`: one of the two is 0. The kit's `abs_is` says both at once, by differences of naturals, where `omega` splits into cases
--     abs_neg, abs_add, abs_sub, abs_mul_le     a result's size, from its operands'
--     signed_size     n with a sign has the size n
--     not_above, not_below     the tests of a limit
-- Assumes nothing.
use mathlib.Core.Path.{◌≡◌, refl, sym, ◌∙◌}
use Prim.Native.Nat.{ℕ, zero, suc, ◌+◌, ◌*◌, ◌≤◌, min}
use native.Mathlib.Nat.{mul-le-mul}
use native.Mathlib.Omega.{arith}
use borrow.Author.Differences.{up, down, sum_is_lem, neg_is, true_is_le}
use borrow.Author.Tests.{le-leb, lt-leb}
use lib.Dec.{leb, leb-suc-suc}
use lib.IntN.{ℤ, pos, negsuc, neg_ℤ, nat_abs, ◌+ℤ◌, ◌-ℤ◌, ◌*ℤ◌}
use lib.Signed.{le_z}
use Rattle.std.proofs.lemmas.Int.{unsigned_abs-mul}
use Rattle.integers.specs.Rounding.{with_sign_of}

pub size : (z : ℤ) → nat_abs z ≡ up z + down z
size (pos n) = omega arith
size (negsuc n) = omega arith

pub apart : (z : ℤ) → min (up z) (down z) ≡ 0
apart (pos n) = omega arith
apart (negsuc n) = omega arith

pub abs_neg : (x : ℤ) → nat_abs (neg_ℤ x) ≡ nat_abs x
abs_neg x = omega (arith, size x, size (neg_ℤ x), neg_is x)

pub abs_add : (x y : ℤ) → nat_abs (x +ℤ y) ≤ nat_abs x + nat_abs y
abs_add x y = omega (arith, size x, size y, size (x +ℤ y), sum_is_lem x y, apart (x +ℤ y))

pub abs_sub : (x y : ℤ) → nat_abs (x -ℤ y) ≤ nat_abs x + nat_abs y
abs_sub x y = omega (arith, abs_add x (neg_ℤ y), abs_neg y)

pub signed_size : (x : ℤ) (n : ℕ) → nat_abs (with_sign_of x n) ≡ n
signed_size (pos a) n = refl
signed_size (negsuc a) n = omega (arith, size (neg_ℤ (pos n)), neg_is (pos n))

-- a product's size from its factors' bounds
pub abs_mul_le : (x y : ℤ) {m n : ℕ} → nat_abs x ≤ m → nat_abs y ≤ n → nat_abs (x *ℤ y) ≤ m * n
abs_mul_le x y h k = omega (arith, unsigned_abs-mul x y, mul-le-mul h k)

-- the test of a limit above alone, and of one below alone, is the size's
pub not_above : (z : ℤ) (n : ℕ) → down z ≤ n → le_z z (pos n) ≡ leb (nat_abs z) n
not_above (pos m) n h = refl
not_above (negsuc m) n h = sym (le-leb (suc m) n h)

pub not_below : (z : ℤ) (n : ℕ) → up z ≤ n → le_z (neg_ℤ (pos n)) z ≡ leb (nat_abs z) n
not_below (pos m) n h = sym (true_is_le (neg_ℤ (pos n)) (pos m) (omega (arith, neg_is (pos n)))) ∙ sym (le-leb m n h)
not_below (negsuc m) zero h = sym (lt-leb (suc m) 0 (omega arith))
not_below (negsuc m) (suc n) h = sym (leb-suc-suc m n)
