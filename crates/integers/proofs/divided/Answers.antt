-- `integers::divided` meets its contract: what the machine gives, in the numbers as it has them. Assumes nothing.
use mir.Syntax.{w64}
use Rattle.std.proofs.lemmas.Int.{quot_fits, quot_is, rem_is}
use Rattle.integers.proofs.Dividing.{machine_is_division}
use Rattle.integers.proofs.divided.Goals as goal

pub returns : goal.returns
returns c =
    let x = c.args.x in
    let d = c.args.d in
    let quotient = quot_is w64 x d c.ranges.x c.ranges.d (quot_fits w64 x d c.ranges.x c.requires) in
    let remainder = rem_is w64 x d c.ranges.x c.ranges.d in
    search (quotient, remainder, machine_is_division x d c.requires)
