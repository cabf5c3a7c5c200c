-- Laws of the order of ℤ, of a factor, and of what the machine's quotient and remainder come to, which no proof of ours cites today.
--     ≤ℤ-mul                 a factor that isn't negative keeps the order
--     between                the tests of both limits are the size's
--     *ℤ-cancel              a factor that isn't 0 can be left out
--     quot_le, rem_le        quotient and remainder are no larger than the dividend
--     neg_fits, rem_fits     and so the remainder fits where the dividend does
-- Assumes nothing.
use mathlib.Core.Path.{◌≡◌, refl, sym, ◌∙◌, ap}
use mathlib.Core.Bool.{◌&&◌, and-true}
use Prim.Native.Nat.{ℕ, zero, suc, ◌+◌, ◌*◌, ◌/◌, ◌%◌, ◌<◌, ◌≤◌, ◌^◌}
use native.Mathlib.Nat.{mul-le-mul_left, div-le_self, mod-le}
use native.Mathlib.Omega.{arith}
use borrow.Author.Differences.{up, down, ints, le_out, at_most_in, product_is, neg_is, true_is_le}
use lib.Dec.{leb}
use lib.IntN.{ℤ, pos, negsuc, neg_ℤ, nat_abs, ◌+ℤ◌, ◌-ℤ◌, ◌*ℤ◌, +ℤ_invr}
use lib.Signed.{◌≤ℤ◌, le_z, quot_z, rem_z}
use mir.Syntax.{w64}
use mir.Val.{SFits}
use Rattle.std.proofs.lemmas.Int.{unsigned_abs-mul}
use Rattle.integers.proofs.Laws.{*ℤ-distr, neg-*ℤ, sub_zero_eq}
use Rattle.integers.proofs.Sizes.{size, abs_neg, not_below}

-- ---- the order
pub ≤ℤ-mul : {x y : ℤ} (k : ℕ) → x ≤ℤ y → (pos k *ℤ x) ≤ℤ (pos k *ℤ y)
≤ℤ-mul {x} {y} k h = at_most_in _ _ (omega (arith, product_is (pos k) x, product_is (pos k) y, mul-le-mul_left k (le_out x y h)))

pub between : (z : ℤ) (n : ℕ) → le_z (neg_ℤ (pos n)) z && le_z z (pos n) ≡ leb (nat_abs z) n
between (pos m) n = ap (λ t. t && leb m n) (sym (true_is_le (neg_ℤ (pos n)) (pos m) (omega (arith, neg_is (pos n)))))
between (negsuc m) n = and-true (le_z (neg_ℤ (pos n)) (negsuc m)) ∙ not_below (negsuc m) n (omega arith)

-- ---- a factor
zero_size : (z : ℤ) → nat_abs z ≡ 0 → z ≡ pos 0
zero_size z h = omega (arith, ints, size z)

pub size_pos : (z : ℤ) → (z ≡ pos 0 → ⊥) → 0 < nat_abs z
size_pos (pos zero) h = absurd (h refl)
size_pos (pos (suc n)) h = omega arith
size_pos (negsuc n) h = omega arith

factor_zero : (a b : ℕ) → a * b ≡ 0 → 0 < b → a ≡ 0
factor_zero zero b e h = refl
factor_zero (suc a) b e h = absurd (omega arith)

pub *ℤ-cancel : (x y z : ℤ) → (z ≡ pos 0 → ⊥) → x *ℤ z ≡ y *ℤ z → x ≡ y
*ℤ-cancel x y z nz h = sub_zero_eq x y (zero_size (x -ℤ y) (factor_zero _ _ none (size_pos z nz)))
  where
    none : nat_abs (x -ℤ y) * nat_abs z ≡ 0
    none = sym (unsigned_abs-mul (x -ℤ y) z) ∙ ap nat_abs (*ℤ-distr x (neg_ℤ y) z ∙ ap (λ t. x *ℤ z +ℤ t) (neg-*ℤ y z) ∙ ap (λ t. t -ℤ y *ℤ z) h ∙ +ℤ_invr (y *ℤ z))

-- ---- quotient and remainder
pub quot_le : (x d : ℤ) → nat_abs (quot_z x d) ≤ nat_abs x
quot_le (pos a) (pos b) = div-le_self a b
quot_le (pos a) (negsuc b) = omega (arith, abs_neg (pos (a / suc b)), div-le_self a (suc b))
quot_le (negsuc a) (pos b) = omega (arith, abs_neg (pos (suc a / b)), div-le_self (suc a) b)
quot_le (negsuc a) (negsuc b) = div-le_self (suc a) (suc b)

pub rem_le : (x d : ℤ) → nat_abs (rem_z x d) ≤ nat_abs x
rem_le (pos a) d = mod-le a (nat_abs d)
rem_le (negsuc a) d = omega (arith, abs_neg (pos (suc a % nat_abs d)), mod-le (suc a) (nat_abs d))

neg_fits : (n : ℕ) → n ≤ 2 ^ 63 → SFits w64 (neg_ℤ (pos n))
neg_fits zero h = record { sfits = omega arith }
neg_fits (suc n) h = record { sfits = omega arith }

pub rem_fits : (x d : ℤ) → SFits w64 x → SFits w64 (rem_z x d)
rem_fits (pos a) d f = record { sfits = omega (arith, mod-le a (nat_abs d), f.sfits) }
rem_fits (negsuc a) d f = neg_fits (suc a % nat_abs d) (omega (arith, mod-le (suc a) (nat_abs d), f.sfits))
