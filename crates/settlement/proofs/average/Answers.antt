-- `settlement::average` returns a number that fits 32 bits: the average of prices is no larger than the largest.
use mathlib.Core.Path.{◌≡◌, ◌∙◌, ap₂}
use Prim.Native.Nat.{◌<◌, ◌^◌}
use native.Mathlib.Omega.{arith}
use lib.IntN.{pos, nat_abs}
use mir.Syntax.{w64}
use mir.Val.{to_z, of_z}
use mir.Facts.{to_z-of_z, to_z_pos}
use Rattle.integers.specs.declared.Tie.TheVariants.{Even}
use Rattle.integers.specs.Rounding.{nearest, half_even}
use Rattle.integers.proofs.Rounding.{nearest_le}
use Rattle.prices.specs.Price.{largest_price}
use Rattle.settlement.proofs.average.Goals as goal
use Rattle.settlement.proofs.average.Goals.{After-half_even}

module _ (c : After-half_even) where
  sum_fits : c.args.sum < 2 ^ 63
  sum_fits = omega (arith, c.requires)

  average_is : to_z w64 (of_z w64 c.half_even.result) ≡ pos (nearest Even c.args.sum c.args.count)
  average_is =
      to_z-of_z {w = w64} (record { sfits = c.half_even.type_inv }) ∙ c.half_even.ensures ∙ ap₂ (λ x d. half_even x (nat_abs d)) (to_z_pos w64 sum_fits) (to_z-of_z {w = w64} (record { sfits = c.from.type_inv }) ∙ c.from.ensures)

pub overflow_cast-result : goal.overflow_cast-result
overflow_cast-result c =
    let a = c.args in
    rw (average_is c) (tt, record { fits = omega (arith, nearest_le Even a.sum a.count largest_price c.requires.0 c.requires.1) })
