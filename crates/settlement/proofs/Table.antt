-- Document 01's table holds, by computation. Assumes nothing.
use mathlib.Core.Path.{refl}
use Rattle.integers.specs.Rounding.{nearest}
use Rattle.funding.specs.Minute.{weighted_sum}
use Rattle.settlement.specs.Table.{TableHolds}

pub table_holds : TableHolds
unfolding nearest weighted_sum
table_holds = (refl, (refl, (refl, (refl, (refl, (refl, (refl, (refl, (refl, (refl, (refl, (refl, (refl, (refl, tt))))))))))))))
