-- The spread test at the limit 0.005 is document 01's. Assumes nothing.
use mathlib.Core.Path.{ap}
use Prim.Native.Nat.{◌+◌, ◌-◌, ◌*◌}
use native.Mathlib.Omega.{arith}
use Rattle.funding.specs.Minute.{SpreadTest}
use Rattle.integers.proofs.Tests.{leb_same}

pub spread_test : SpreadTest
spread_test t b a e = leb_same (20000 * (a - b)) (t.spread * (a + b)) (400 * (a - b)) (a + b) (λ h. omega (arith, ap (λ s. s * (a + b)) e)) (λ h. omega (arith, ap (λ s. s * (a + b)) e))
