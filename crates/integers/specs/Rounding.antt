-- Rounding of x / d to the nearest whole number, for either sign of x.
use mathlib.Core.{Path.◌≡◌, Bool.cond}
use Rattle.std.specs.Prelude.{ℕ, ◌+◌, ◌*◌, ◌/◌, ◌%◌, ◌<◌, ◌≤◌}
use lib.{Dec.ltb, IntN.ℤ, IntN.pos, IntN.negsuc, IntN.neg_ℤ, IntN.nat_abs, IntN.◌-ℤ◌, IntN.◌*ℤ◌}
use Rattle.integers.specs.declared.{Tie.Tie, Tie.TheVariants.Even, Tie.TheVariants.Away}

-- n with the sign of x
abbrev pub with_sign_of : ℤ → ℕ → ℤ
with_sign_of (pos a) n = pos n
with_sign_of (negsuc a) n = neg_ℤ (pos n)

-- where the tie between q and q + 1 goes
abbrev pub on_tie : Tie → ℕ → ℕ
on_tie Even q = q + q % 2
on_tie Away q = q + 1

-- the whole number nearest to a / d, by the quotient and the remainder
unfoldable pub nearest : Tie → ℕ → ℕ → ℕ
nearest tie a d = cond (ltb (2 * (a % d)) d) (a / d) (cond (ltb d (2 * (a % d))) (a / d + 1) (on_tie tie (a / d)))

-- x / d to the nearest whole number, alike for negative values
abbrev pub rounded : Tie → ℤ → ℕ → ℤ
rounded tie x d = with_sign_of x (nearest tie (nat_abs x) d)

-- 01: half-even is "the nearest whole number, a tie going to the even one, alike for negative values"
abbrev pub half_even : ℤ → ℕ → ℤ
half_even x d = rounded Even x d

-- ---- what rounding is, whatever computes it

-- how far q × d lies from x
abbrev pub distance : ℤ → ℕ → ℤ → ℕ
distance x d q = nat_abs (x -ℤ q *ℤ pos d)

-- what each rule requires of the q that a tie goes to
abbrev pub Chosen : Tie → ℤ → ℕ → ℤ → Type 0
Chosen Even x d q = nat_abs q % 2 ≡ 0
Chosen Away x d q = nat_abs x < nat_abs (q *ℤ pos d)

-- q is nearest to x / d, and on a tie the one that the rule chooses
pub record Nearest (tie : Tie) (x : ℤ) (d : ℕ) (q : ℤ) : Type 0 where
  pub near : 2 * distance x d q ≤ d
  pub chosen : 2 * distance x d q ≡ d → Chosen tie x d q

-- `rounded` is nearest, and nothing else is: proved in proofs/Rounding.antt
pub record Characterised : Type 0 where
  pub rounded_is_nearest : (tie : Tie) (x : ℤ) (d : ℕ) → 0 < d → Nearest tie x d (rounded tie x d)
  pub nearest_is_unique : (tie : Tie) (x : ℤ) (d : ℕ) (p q : ℤ) → 0 < d → Nearest tie x d p → Nearest tie x d q → p ≡ q
