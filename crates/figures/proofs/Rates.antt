-- The size of the rate that a fix finds.
--     rate_size     at most the clamp
-- Assumes nothing.
use Prim.Native.Nat.{◌≤◌}
use native.Mathlib.Omega.{arith}
use lib.IntN.{nat_abs}
use Rattle.funding.specs.Terms.{clamp}
use Rattle.settlement.specs.Fixing.{rate_of}
use Rattle.settlement.proofs.Bounds.{clamped_size}
use Rattle.figures.specs.declared.Figures.{Figures}
use Rattle.figures.specs.Figures.{terms_on}
use Rattle.figures.specs.Fixing.{fix_rate}

pub rate_size : (f : Figures) → nat_abs (fix_rate f) ≤ clamp
rate_size f = clamped_size (terms_on f) (rate_of f.day.minutes.valid f.day.minutes.weighted) clamp (omega arith) (omega arith)
