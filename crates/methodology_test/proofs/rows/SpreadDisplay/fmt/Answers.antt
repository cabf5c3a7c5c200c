-- The scale of at most seven places is at most 10,000,000. Assumes nothing.
use Rattle.std.proofs.Common.{arith}
use Rattle.std.proofs.Math.Nat.{pow-le-pow_right}
use Rattle.methodology_test.proofs.rows.SpreadDisplay.fmt.Goals as goal

pub normalized_spread-spread-requires : goal.normalized_spread-spread-requires
normalized_spread-spread-requires g c =
    let row = c.args.self.now in
    rw c.pow.ensures (row.bid_present, pow-le-pow_right (omega arith) row.few_places)
