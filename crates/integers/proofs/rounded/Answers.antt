-- `integers::rounded` meets its contract: one law of proofs/Rounding.antt, and one of proofs/Dividing.antt. Assumes nothing.
use native.Mathlib.Omega.{arith}
use Prim.Native.Nat.{◌*◌, ◌≤◌}
use lib.IntN.{nat_abs}
use mir.Syntax.{w64}
use mir.Val.{SFits}
use mir.Facts.{to_z-of_z}
use borrow.Author.Differences.{fits_out}
use Rattle.std.proofs.Common.{rules}
use Rattle.integers.specs.Dividing.{IsDivision}
use Rattle.integers.proofs.Sizes.{size, apart}
use Rattle.integers.proofs.Dividing.{quotient_half}
use Rattle.integers.proofs.Rounding.{from_division}
use Rattle.integers.proofs.rounded.Goals as goal

pub with_step-requires : goal.with_step-requires
with_step-requires c =
    let x = c.args.x in
    let d = c.args.d in
    let p = c.divided-quotient.result in
    let q : SFits w64 p.quotient = search rules in
    let r : SFits w64 p.remainder = search rules in
    let P : IsDivision x d p = rw (to_z-of_z c.ranges.x, to_z-of_z c.ranges.d) at c.divided-quotient.ensures in
    rw (to_z-of_z q) (λ e.
    let half : nat_abs d ≤ 2 * nat_abs p.remainder = grind (arith, to_z-of_z, c.goes_on.ensures) in
    omega (arith, quotient_half x d p c.requires P half, size x, apart x, fits_out w64 _ c.ranges.x))

pub returns : goal.returns
returns c = grind (arith, to_z-of_z, from_division)
