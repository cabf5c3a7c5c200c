-- Division of x by d into one quotient and one remainder, for either sign of x.
use mathlib.Core.Path.{◌≡◌}
use Rattle.std.specs.Prelude.{◌<◌}
use lib.IntN.{ℤ, nat_abs, ◌+ℤ◌, ◌*ℤ◌}
use Rattle.integers.specs.declared.{Division.Division}
use Rattle.integers.specs.Rounding.{with_sign_of}

-- 02-3: "quotient times divisor plus remainder is the value, the remainder smaller in size than the divisor"; and the remainder has the
-- value's sign, or is 0
pub record IsDivision (x d : ℤ) (p : Division) : Type 0 where
  pub whole : p.quotient *ℤ d +ℤ p.remainder ≡ x
  pub smaller : nat_abs p.remainder < nat_abs d
  pub sign : p.remainder ≡ with_sign_of x (nat_abs p.remainder)

-- no other pair satisfies this: proved in proofs/Dividing.antt
pub record OneDivision : Type 0 where
  pub division_is_unique : (x d : ℤ) (p q : Division) → IsDivision x d p → IsDivision x d q → p ≡ q
