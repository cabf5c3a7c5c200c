-- `settlement::dime_price` meets its contract: the dimes of a value that is no larger than a price fit.
use native.Mathlib.Omega.{arith}
use Rattle.settlement.proofs.Bounds.{dimes_most}
use Rattle.settlement.proofs.dime_price.Goals as goal

pub overflow_mul-result : goal.overflow_mul-result
overflow_mul-result c = omega (arith, c.average.ensures, dimes_most c.from.result (omega (arith, c.from.ensures, c.requires)))
