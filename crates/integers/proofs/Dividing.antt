-- Division into one quotient and one remainder.
--     one_division                   the facts of `IsDivision` fix the pair
--     machine_is_division            what the machine gives is such a pair
--     quotient_size, remainder_size  the sizes of the two
--     quotient_sign                  a quotient by a positive divisor has the value's sign
--     quotient_half                  a quotient that may go on is at most half of the value
-- Assumes nothing.
use mathlib.Core.Path.{◌≡◌, refl, sym, ◌∙◌, ap, ap₂}
use Prim.Native.Nat.{ℕ, zero, suc, ◌*◌, ◌/◌, ◌%◌, ◌<◌, ◌≤◌, max}
use native.Mathlib.Nat.{div-add-mod, mul-le-mul_right}
use native.Mathlib.Omega.{arith}
use borrow.Author.Differences.{ints, lt_out}
use Rattle.std.proofs.lemmas.Int.{unsigned_abs-mul, quot-rem, rem_below}
use lib.IntN.{ℤ, pos, negsuc, neg_ℤ, nat_abs, ◌-ℤ◌, ◌*ℤ◌}
use lib.Signed.{quot_z, rem_z, ◌<ℤ◌}
use Rattle.integers.specs.declared.Division.{Division}
use Rattle.integers.specs.Dividing.{IsDivision, OneDivision}
use Rattle.integers.specs.Rounding.{with_sign_of}
use Rattle.integers.proofs.Sizes.{size, abs_neg, signed_size}
use Rattle.integers.proofs.Ring.{ring, ◌⊖◌, ◌⊗◌}

-- two remainders of one value are no farther apart than the larger of them is from 0
remainders_close : (x r s : ℤ) → r ≡ with_sign_of x (nat_abs r) → s ≡ with_sign_of x (nat_abs s) → nat_abs (s -ℤ r) ≤ max (nat_abs r) (nat_abs s)
remainders_close (pos a) r s e f = omega (arith, ints, size r, size s, size (s -ℤ r))
remainders_close (negsuc a) r s e f = omega (arith, ints, size r, size s, size (s -ℤ r))

division_is_unique : (x d : ℤ) (p q : Division) → IsDivision x d p → IsDivision x d q → p ≡ q
division_is_unique x d p q P Q = same (nat_abs (p.quotient -ℤ q.quotient)) refl
  where
    -- the quotients' difference times d is how far the remainders are apart
    close : nat_abs (p.quotient -ℤ q.quotient) * nat_abs d < nat_abs d
    close =
        let product = ring 3 (λ p q d. (p ⊖ q) ⊗ d) (λ p q d. p ⊗ d ⊖ q ⊗ d) refl p.quotient q.quotient d in
        let apart : p.quotient *ℤ d -ℤ q.quotient *ℤ d ≡ q.remainder -ℤ p.remainder = omega (arith, ints, P.whole, Q.whole) in
        omega (arith, unsigned_abs-mul (p.quotient -ℤ q.quotient) d, ap nat_abs (product ∙ apart), remainders_close _ p.remainder q.remainder P.sign Q.sign, P.smaller, Q.smaller)

    same : (k : ℕ) → nat_abs (p.quotient -ℤ q.quotient) ≡ k → p ≡ q
    same zero e =
        let quotients : p.quotient ≡ q.quotient = omega (arith, ints, size (p.quotient -ℤ q.quotient)) in
        let remainders : p.remainder ≡ q.remainder = omega (arith, ints, P.whole, Q.whole, ap (λ t. t *ℤ d) quotients) in
        ap₂ (λ t u. record { quotient = t; remainder = u }) quotients remainders
    same (suc k) e = absurd (omega (arith, close, ap (λ t. t * nat_abs d) e))

pub one_division : OneDivision
one_division = record { division_is_unique = division_is_unique }

-- ---- the machine's quotient and remainder are such a pair, so that there is no other

abs_rem : (x d : ℤ) → nat_abs (rem_z x d) ≡ nat_abs x % nat_abs d
abs_rem (pos a) d = refl
abs_rem (negsuc a) d = abs_neg (pos (suc a % nat_abs d))

quot_sign : (x d : ℤ) → pos 0 <ℤ d → quot_z x d ≡ with_sign_of x (nat_abs x / nat_abs d)
quot_sign (pos a) (pos n) h = refl
quot_sign (negsuc a) (pos n) h = refl
quot_sign x (negsuc n) h = absurd h.lt

rem_sign : (x d : ℤ) → rem_z x d ≡ with_sign_of x (nat_abs (rem_z x d))
rem_sign (pos a) d = refl
rem_sign (negsuc a) d = ap (λ n. neg_ℤ (pos n)) (sym (abs_rem (negsuc a) d))

pub machine_is_division : (x d : ℤ) → pos 0 <ℤ d → IsDivision x d (record { quotient = quot_z x d; remainder = rem_z x d })
machine_is_division x d h =
    let below = rem_below x d (omega (arith, lt_out _ _ h, size d)) in
    record { whole = quot-rem x d; smaller = below; sign = rem_sign x d }

module _ (x d : ℤ) (p : Division) (h : pos 0 <ℤ d) (P : IsDivision x d p) where
  machine_is : p ≡ record { quotient = quot_z x d; remainder = rem_z x d }
  machine_is = division_is_unique x d p _ P (machine_is_division x d h)

  pub quotient_sign : p.quotient ≡ with_sign_of x (nat_abs x / nat_abs d)
  quotient_sign = ap (λ p. p.quotient) machine_is ∙ quot_sign x d h

  pub quotient_size : nat_abs p.quotient ≡ nat_abs x / nat_abs d
  quotient_size = ap nat_abs quotient_sign ∙ signed_size x (nat_abs x / nat_abs d)

  pub remainder_size : nat_abs p.remainder ≡ nat_abs x % nat_abs d
  remainder_size = ap (λ p. nat_abs p.remainder) machine_is ∙ abs_rem x d

-- a divisor that a remainder is at least half of is at least 2, so that the quotient is at most half of the value
pub quotient_half : (x d : ℤ) (p : Division) → pos 0 <ℤ d → IsDivision x d p → nat_abs d ≤ 2 * nat_abs p.remainder → 2 * nat_abs p.quotient ≤ nat_abs x
quotient_half x d p h P half =
    let two : 2 ≤ nat_abs d = omega (arith, P.smaller) in
    omega (arith, quotient_size x d p h P, remainder_size x d p h P, div-add-mod (nat_abs x) (nat_abs d), mul-le-mul_right (nat_abs x / nat_abs d) two)
