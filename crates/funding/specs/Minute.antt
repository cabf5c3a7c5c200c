-- A minute's figures: spread test, futures price, basis, and the weighted sum over the day's valid minutes.
use mathlib.Core.{Path.◌≡◌, Bool.Bool, Bool.cond, Bool.◌&&◌, List.List, List.[], List.◌∷◌}
use Rattle.std.specs.Prelude.{ℕ, ◌+◌, ◌-◌, ◌*◌, ◌/◌, ◌<◌, ◌≤◌}
use lib.{Dec.leb, ListN.length, IntN.ℤ, IntN.pos, IntN.nat_abs, IntN.◌+ℤ◌, IntN.◌-ℤ◌, IntN.◌*ℤ◌}
use Rattle.integers.specs.Rounding.{half_even}
use Rattle.prices.specs.Price.{is_present}
use Rattle.funding.specs.{declared.Terms.Terms, Terms.spread_limit}

-- 001: the midpoint normalized spread (a − b) / ((a + b) / 2) of the market (b, a) doesn't exceed the limit, which is in units of 0.0001
abbrev pub within_spread : Terms → ℕ → ℕ → Bool
within_spread t b a = leb (20000 * (a - b)) (t.spread * (a + b))

-- at the limit 0.005 that is 01: "400 × (a − b) ≤ a + b"
abbrev pub SpreadTest : Type 0
SpreadTest = (t : Terms) (b a : ℕ) → t.spread ≡ spread_limit → within_spread t b a ≡ leb (400 * (a - b)) (a + b)

-- 01: "F is the last trade if there is one today and b ≤ it ≤ a, else (a + b)/2"
abbrev pub futures_price : ℕ → ℕ → ℕ → ℕ
futures_price b a last = cond (is_present last && leb b last && leb last a) last ((a + b) / 2)

-- 01: "basis = half-even of (F − u) × 10^9 / u"
abbrev pub basis_of : ℕ → ℕ → ℤ
basis_of F u = half_even ((pos F -ℤ pos u) *ℤ pos 1000000000) u

-- a valid minute: its futures price F and its index u
pub record Minute : Type 0 where
  pub F : ℕ
  pub u : ℕ

-- 01: "k rises by 1; S rises by k × basis", of the sum S over the first k valid minutes
abbrev pub accrued : ℤ → ℕ → ℤ → ℤ
accrued S k basis = S +ℤ pos (k + 1) *ℤ basis

-- S over a list of valid minutes, the latest first: i × basis for the i-th of them, added up
unfoldable pub weighted_sum : List Minute → ℤ
weighted_sum [] = pos 0
weighted_sum (x ∷ xs) = accrued (weighted_sum xs) (length xs) (basis_of x.F x.u)

-- 01: "weighted sum S at most 9,999 × 10^9 × k(k+1)/2 in size"
abbrev pub most_basis : ℕ
most_basis = 9999000000000

abbrev pub weighted_limit : ℕ → ℕ
weighted_limit k = most_basis * (k * (k + 1) / 2)

-- the minutes of the longest day: 01, "ended minutes 0 to 1,320"
abbrev pub most_minutes : ℕ
most_minutes = 1320

-- a sum within its limit, with a minute of the day still to end, and a basis of prices
pub record Accrues (S : ℤ) (k : ℕ) (basis : ℤ) : Type 0 where
  pub sum : nat_abs S ≤ weighted_limit k
  pub count : k < most_minutes
  pub size : nat_abs basis ≤ most_basis
