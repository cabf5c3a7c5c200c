-- Rounding to the nearest whole number, from a quotient and a remainder.
--     characterised     `rounded` is nearest, a tie going where its rule says, and nothing else is
--     nearest_le, nearest_ge, rounded_le     a whole number that bounds x / d bounds what it is rounded to
--     from_division     the quotient of a division, or the whole number after it, is `rounded`
-- Assumes nothing.
use mathlib.Core.Path.{◌≡◌, refl, sym, ◌∙◌, ap, ap₂}
use mathlib.Core.Bool.{Bool, true, false, cond, ◌&&◌, ◌||◌}
use mathlib.Core.Logic.{◌⊎◌, inl, inr, ⊎_elim}
use Prim.Native.Nat.{ℕ, zero, suc, ◌+◌, ◌-◌, ◌*◌, ◌/◌, ◌%◌, ◌<◌, ◌≤◌}
use native.Mathlib.Nat.{div-add-mod, mod-lt, lt_of_mul-lt-mul_right}
use native.Mathlib.Omega.{arith}
use lib.Dec.{ltb, eqb}
use borrow.Author.Differences.{up, down, sum_is_lem, product_is, neg_is, ints}
use borrow.Author.Tests.{ltb-true, ltb-false}
use Rattle.std.proofs.lemmas.Bool.{cond_both}
use Rattle.std.proofs.lemmas.Int.{unsigned_abs-mul}
use lib.IntN.{ℤ, pos, negsuc, neg_ℤ, nat_abs, ◌+ℤ◌, ◌-ℤ◌, ◌*ℤ◌, neg_ℤ-+ℤ}
use lib.Signed.{◌<ℤ◌}
use Rattle.integers.specs.declared.Division.{Division}
use Rattle.integers.specs.declared.Tie.{Tie}
use Rattle.integers.specs.declared.Tie.TheVariants.{Even, Away}
use Rattle.integers.specs.Dividing.{IsDivision}
use Rattle.integers.specs.Rounding.{with_sign_of, on_tie, nearest, rounded, distance, Chosen, Nearest, Characterised}
use Rattle.integers.proofs.Sizes.{size, apart, abs_sub, signed_size}
use Rattle.integers.proofs.Dividing.{quotient_size, quotient_sign, remainder_size}
use Rattle.integers.proofs.Ring.{ring, ◌⊖◌, ◌⊗◌}

-- ---- over ℕ

-- what a rule requires of the n that a tie goes to: for Away that n × d is past a
abbrev Picked : Tie → ℕ → ℕ → ℕ → Type 0
Picked Even a d n = n % 2 ≡ 0
Picked Away a d n = a < n * d

record Near (tie : Tie) (a d n : ℕ) : Type 0 where
  low : 2 * (n * d) ≤ 2 * a + d
  high : 2 * a ≤ 2 * (n * d) + d
  low_tie : 2 * (n * d) ≡ 2 * a + d → Picked tie a d n
  high_tie : 2 * a ≡ 2 * (n * d) + d → Picked tie a d n

-- at a tie between q and q + 1, the even one is near
near_even : (a d q r n : ℕ) → 0 < d → d * q + r ≡ a → 2 * r ≡ d → n % 2 ≡ 0 → q ≤ n → n ≤ q + 1 → Near Even a d n
near_even a d q r n p e t v l u = go (n - q) refl
  where
    go : (b : ℕ) → n - q ≡ b → Near Even a d n
    go zero f =
        let g : n * d ≡ q * d = ap (λ t. t * d) (omega arith) in
        record { low = omega arith; high = omega arith; low_tie = λ z. absurd (omega arith); high_tie = λ z. v }
    go (suc b) f =
        let g : n * d ≡ (q + 1) * d = ap (λ t. t * d) (omega arith) in
        record { low = omega arith; high = omega arith; low_tie = λ z. v; high_tie = λ z. absurd (omega arith) }

-- at a tie, the one that the rule picks is near
near_tie : (tie : Tie) (a d q r : ℕ) → 0 < d → d * q + r ≡ a → 2 * r ≡ d → Near tie a d (on_tie tie q)
near_tie Even a d q r p e t = near_even a d q r _ p e t (omega arith) (omega arith) (omega arith)
near_tie Away a d q r p e t = record { low = omega arith; high = omega arith; low_tie = λ z. omega arith; high_tie = λ z. absurd (omega arith) }

nearest_near : (tie : Tie) (a d : ℕ) → 0 < d → Near tie a d (nearest tie a d)
unfolding nearest
nearest_near tie a d h =
    let q = a / d in
    let r = a % d in
    let e : d * q + r ≡ a = div-add-mod a d in
    let l : r < d = mod-lt a h in
    cond_both (ltb (2 * r) d) q (cond (ltb d (2 * r)) (q + 1) (on_tie tie q)) (Near tie a d)
    (λ t. let k = ltb-true (2 * r) d t in record { low = omega arith; high = omega arith; low_tie = λ z. absurd (omega arith); high_tie = λ z. absurd (omega arith) })
    (λ t. cond_both (ltb d (2 * r)) (q + 1) (on_tie tie q) (Near tie a d)
    (λ u. let k = ltb-true d (2 * r) u in record { low = omega arith; high = omega arith; low_tie = λ z. absurd (omega arith); high_tie = λ z. absurd (omega arith) })
    (λ u. let k = ltb-false (2 * r) d t in let m = ltb-false d (2 * r) u in near_tie tie a d q r h e (omega arith)))

-- a quotient at most m is rounded to at most m, and one at least m to at least m
pub nearest_le : (tie : Tie) (a d m : ℕ) → 0 < d → a ≤ m * d → nearest tie a d ≤ m
nearest_le tie a d m h b =
    let n = nearest tie a d in
    let l : n * d < (m + 1) * d = omega (arith, (nearest_near tie a d h).low) in
    omega (arith, lt_of_mul-lt-mul_right d l)

pub nearest_ge : (tie : Tie) (a d m : ℕ) → 0 < d → m * d ≤ a → m ≤ nearest tie a d
nearest_ge tie a d m h b =
    let n = nearest tie a d in
    let l : m * d < (n + 1) * d = omega (arith, (nearest_near tie a d h).high) in
    omega (arith, lt_of_mul-lt-mul_right d l)

-- ---- over ℤ

sides : (z : ℤ) → (down z ≡ 0) ⊎ (up z ≡ 0)
sides (pos n) = inl refl
sides (negsuc n) = inr refl

pub rounded_le : (tie : Tie) (x : ℤ) (d m : ℕ) → 0 < d → nat_abs x ≤ m * d → nat_abs (rounded tie x d) ≤ m
rounded_le tie x d m h b = omega (arith, signed_size x (nearest tie (nat_abs x) d), nearest_le tie (nat_abs x) d m h b)

-- what is left, x − q·d, is the difference of the two sizes, with the sign of x
rest_is : (x : ℤ) (d n : ℕ) → let z = x -ℤ with_sign_of x n *ℤ pos d in (nat_abs x + down z ≡ n * d + up z) ⊎ (nat_abs x + up z ≡ n * d + down z)
rest_is (pos a) d n = inl (omega (arith, sum_is_lem (pos a) (neg_ℤ (pos (n * d))), neg_is (pos (n * d))))
rest_is (negsuc a) d n =
    let q = neg_ℤ (pos n) in
    inr (omega (arith, sum_is_lem (negsuc a) (neg_ℤ (q *ℤ pos d)), neg_is (q *ℤ pos d), product_is q (pos d), ap (λ t. t * d) (neg_is (pos n)).0, ap (λ t. t * d) (neg_is (pos n)).1))

picked_chosen : (tie : Tie) (x : ℤ) (d n : ℕ) → Picked tie (nat_abs x) d n → Chosen tie x d (with_sign_of x n)
picked_chosen Even x d n p = ap (λ k. k % 2) (signed_size x n) ∙ p
picked_chosen Away x d n p = omega (arith, unsigned_abs-mul (with_sign_of x n) (pos d), ap (λ t. t * d) (signed_size x n))

near_is_nearest : (tie : Tie) (x : ℤ) (d n : ℕ) → Near tie (nat_abs x) d n → Nearest tie x d (with_sign_of x n)
near_is_nearest tie x d n N =
    let z = x -ℤ with_sign_of x n *ℤ pos d in
    let s = size z in
    let lo = N.low in
    let hi = N.high in
    ⊎_elim
    (λ e. ⊎_elim
    (λ f. record { near = omega arith; chosen = λ t. picked_chosen tie x d n (N.high_tie (omega arith)) })
    (λ f. record { near = omega arith; chosen = λ t. picked_chosen tie x d n (N.low_tie (omega arith)) })
    (sides z))
    (λ e. ⊎_elim
    (λ f. record { near = omega arith; chosen = λ t. picked_chosen tie x d n (N.low_tie (omega arith)) })
    (λ f. record { near = omega arith; chosen = λ t. picked_chosen tie x d n (N.high_tie (omega arith)) })
    (sides z))
    (rest_is x d n)

rounded_is_nearest : (tie : Tie) (x : ℤ) (d : ℕ) → 0 < d → Nearest tie x d (rounded tie x d)
rounded_is_nearest tie x d h = near_is_nearest tie x d (nearest tie (nat_abs x) d) (nearest_near tie (nat_abs x) d h)

-- ---- and nothing else is

gap_is : (x p q d : ℤ) → (q -ℤ p) *ℤ d ≡ (x -ℤ p *ℤ d) -ℤ (x -ℤ q *ℤ d)
gap_is = ring 4 (λ x p q d. (q ⊖ p) ⊗ d) (λ x p q d. (x ⊖ p ⊗ d) ⊖ (x ⊖ q ⊗ d)) refl

-- how far x lies from what is larger in size, on either side of zero
far⁺ : (x : ℤ) (n : ℕ) → nat_abs x < n → nat_abs (x -ℤ pos n) + up x ≡ n + down x
far⁺ x n h = omega (arith, size x, size (x -ℤ pos n), apart (x -ℤ pos n), sum_is_lem x (neg_ℤ (pos n)), neg_is (pos n))

far⁻ : (x : ℤ) (n : ℕ) → nat_abs x < n → nat_abs (x -ℤ neg_ℤ (pos n)) + down x ≡ n + up x
far⁻ x n h =
    let m = neg_ℤ (pos n) in
    omega (arith, size x, size (x -ℤ m), apart (x -ℤ m), sum_is_lem x (neg_ℤ m), neg_is m, neg_is (pos n))

-- neighbours differ by one in size where they have one sign, and one of them is 0 where they don't
module _ (a b : ℕ) where
  gap⁺ : nat_abs (pos b -ℤ pos a) ≡ 1 → (b ≡ a + 1) ⊎ (a ≡ b + 1)
  gap⁺ g = by_side (pos b -ℤ pos a) g (omega (arith, sum_is_lem (pos b) (neg_ℤ (pos a)), neg_is (pos a)))
    where
      by_side : (z : ℤ) → nat_abs z ≡ 1 → up z + a ≡ b + down z → (b ≡ a + 1) ⊎ (a ≡ b + 1)
      by_side (pos n) g e = inl (omega arith)
      by_side (negsuc n) g e = inr (omega arith)

  -- both as far past x as half of d is: then they are one, and d is 0
  same_side : (d r s : ℕ) → (b ≡ a + 1) ⊎ (a ≡ b + 1) → 2 * r ≡ d → 2 * s ≡ d → r + b * d ≡ s + a * d → d ≡ 0
  same_side d r s (inl e) h k f = omega (arith, ap (λ t. t * d) e)
  same_side d r s (inr e) h k f = omega (arith, ap (λ t. t * d) e)

-- two neighbours that a tie lies between are not both chosen
not_both_even : (p q : ℤ) → nat_abs (q -ℤ p) ≡ 1 → nat_abs p % 2 ≡ 0 → nat_abs q % 2 ≡ 0 → ⊥
not_both_even p q g e f =
    let k = q -ℤ p in
    ⊎_elim (λ s. omega (arith, size k, size p, size q, sum_is_lem q (neg_ℤ p), neg_is p)) (λ s. omega (arith, size k, size p, size q, sum_is_lem q (neg_ℤ p), neg_is p)) (sides k)

not_both_away : (x : ℤ) (d : ℕ) (p q : ℤ) → nat_abs (q -ℤ p) ≡ 1 → 2 * distance x d p ≡ d → 2 * distance x d q ≡ d → nat_abs x < nat_abs (p *ℤ pos d) → nat_abs x < nat_abs (q *ℤ pos d) → ⊥
not_both_away x d (pos a) (pos b) g h k e f =
    let z = same_side a b d _ _ (gap⁺ a b g) h k (omega (arith, far⁺ x (a * d) e, far⁺ x (b * d) f)) in
    omega (arith, far⁺ x (a * d) e, size x)
not_both_away x d (pos a) (negsuc b) g h k e f =
    let z : a ≡ 0 = omega (arith, size (negsuc b -ℤ pos a), sum_is_lem (negsuc b) (neg_ℤ (pos a)), neg_is (pos a)) in
    omega (arith, ap (λ t. t * d) z)
not_both_away x d (negsuc a) (pos b) g h k e f =
    let z : b ≡ 0 = omega (arith, size (pos b -ℤ negsuc a), sum_is_lem (pos b) (neg_ℤ (negsuc a)), neg_is (negsuc a)) in
    omega (arith, ap (λ t. t * d) z)
not_both_away x d (negsuc a) (negsuc b) g h k e f =
    let u : nat_abs x < suc a * d = omega (arith, unsigned_abs-mul (negsuc a) (pos d)) in
    let v : nat_abs x < suc b * d = omega (arith, unsigned_abs-mul (negsuc b) (pos d)) in
    let z = same_side b a d _ _ (gap⁺ b a (ap nat_abs (swap a b) ∙ g)) k h (omega (arith, far⁻ x (suc a * d) u, far⁻ x (suc b * d) v)) in
    omega (arith, far⁻ x (suc a * d) u, size x)
  where
    swap : (a b : ℕ) → pos a -ℤ pos b ≡ negsuc b -ℤ negsuc a
    swap a b = omega (arith, ints)

not_both : (tie : Tie) (x : ℤ) (d : ℕ) (p q : ℤ) → nat_abs (q -ℤ p) ≡ 1 → 2 * distance x d p ≡ d → 2 * distance x d q ≡ d → Chosen tie x d p → Chosen tie x d q → ⊥
not_both Even x d p q g a b e f = not_both_even p q g e f
not_both Away x d p q g a b e f = not_both_away x d p q g a b e f

nearest_is_unique : (tie : Tie) (x : ℤ) (d : ℕ) (p q : ℤ) → 0 < d → Nearest tie x d p → Nearest tie x d q → p ≡ q
nearest_is_unique tie x d p q h P Q = go (nat_abs (q -ℤ p)) refl
  where
    -- |q − p|·d is at most the two distances
    gap : nat_abs (q -ℤ p) * d ≤ distance x d p + distance x d q
    gap = omega (arith, unsigned_abs-mul (q -ℤ p) (pos d), ap nat_abs (gap_is x p q (pos d)), abs_sub (x -ℤ p *ℤ pos d) (x -ℤ q *ℤ pos d))

    go : (k : ℕ) → nat_abs (q -ℤ p) ≡ k → p ≡ q
    go zero e = omega (arith, ints, size (q -ℤ p))
    go (suc zero) e =
        let a : 2 * distance x d p ≡ d = omega (arith, P.near, Q.near, gap, ap (λ t. t * d) e) in
        let b : 2 * distance x d q ≡ d = omega (arith, P.near, Q.near, gap, ap (λ t. t * d) e) in
        absurd (not_both tie x d p q e a b (P.chosen a) (Q.chosen b))
    go (suc (suc k)) e = absurd (omega (arith, P.near, Q.near, gap, ap (λ t. t * d) e))

pub characterised : Characterised
characterised = record { rounded_is_nearest = rounded_is_nearest; nearest_is_unique = nearest_is_unique }

-- ---- from one quotient and one remainder

-- whether a quotient goes on, by the sizes of the divisor and the remainder, and by whether a tie goes on
abbrev pub goes : ℕ → ℕ → Bool → Bool
goes d r g = ltb d (2 * r) || (eqb d (2 * r) && g)

nearest_by : (tie : Tie) (a d : ℕ) (g : Bool) → on_tie tie (a / d) ≡ a / d + cond g 1 0 → nearest tie a d ≡ a / d + cond (goes d (a % d) g) 1 0
unfolding nearest
nearest_by tie a d g t = grind (arith, t)

signed_sum : (x : ℤ) (k s : ℕ) → with_sign_of x (k + s) ≡ with_sign_of x k +ℤ with_sign_of x s
signed_sum (pos a) k s = refl
signed_sum (negsuc a) k s = neg_ℤ-+ℤ (pos k) (pos s)

-- where there is a step, one on the remainder's side is one on the value's
same_step : (x r : ℤ) (g : Bool) → r ≡ with_sign_of x (nat_abs r) → (g ≡ true → 0 < nat_abs r) → with_sign_of r (cond g 1 0) ≡ with_sign_of x (cond g 1 0)
same_step (pos a) (pos b) g e h = refl
same_step (pos a) (negsuc b) g e h = absurd (omega (arith, ints))
same_step (negsuc a) (pos zero) false e h = refl
same_step (negsuc a) (pos zero) true e h = absurd (omega (arith, h refl))
same_step (negsuc a) (pos (suc b)) g e h = absurd (omega (arith, ints))
same_step (negsuc a) (negsuc b) g e h = refl

pub from_division : (tie : Tie) (x d : ℤ) (p : Division) (g : Bool) → pos 0 <ℤ d → IsDivision x d p → on_tie tie (nat_abs p.quotient) ≡ nat_abs p.quotient + cond g 1 0
    → p.quotient +ℤ with_sign_of p.remainder (cond (goes (nat_abs d) (nat_abs p.remainder) g) 1 0) ≡ rounded tie x (nat_abs d)
from_division tie x d p g h P t =
    let a = nat_abs x in
    let n = nat_abs d in
    let q : nat_abs p.quotient ≡ a / n = quotient_size x d p h P in
    let r : nat_abs p.remainder ≡ a % n = remainder_size x d p h P in
    let step : ℕ = cond (goes n (nat_abs p.remainder) g) 1 0 in
    let not_0 : goes n (nat_abs p.remainder) g ≡ true → 0 < nat_abs p.remainder = grind (arith, P.smaller) in
    ap₂ ◌+ℤ◌ (quotient_sign x d p h P) (same_step x p.remainder (goes n (nat_abs p.remainder) g) P.sign not_0)
    ∙ sym (signed_sum x (a / n) step)
    ∙ ap (with_sign_of x) (ap (λ r. a / n + cond (goes n r g) 1 0) r ∙ sym (nearest_by tie a n g (rw q at t)))
