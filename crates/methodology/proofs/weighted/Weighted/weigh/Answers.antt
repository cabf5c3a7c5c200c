-- `methodology::weighted::Weighted::weigh` meets its contract: the basis keeps the weighted sum within its limit. Assumes nothing.
use Rattle.std.proofs.Common.{w64, SFits, to_z-of_z, rules}
use Rattle.funding.proofs.Bounds.{accrued_size}
use Rattle.methodology.proofs.weighted.Weighted.weigh.Goals as goal

pub accrue-sum-requires : goal.accrue-sum-requires
accrue-sum-requires c =
    let sum : SFits w64 c.args.self.sum = search rules in
    let basis : SFits w64 c.args.basis = search rules in
    rw (to_z-of_z sum, to_z-of_z basis) c.requires

pub invariant_of-result : goal.invariant_of-result
invariant_of-result c =
    let day = c.args.self in
    let sum : SFits w64 day.sum = search rules in
    let basis : SFits w64 c.args.basis = search rules in
    let more : SFits w64 c.accrue-sum.result = record { sfits = c.accrue-sum.type_inv } in
    record {
      within = rw (to_z-of_z more, c.accrue-sum.ensures, to_z-of_z sum, to_z-of_z basis) (accrued_size day.sum day.count c.args.basis c.requires);
    }
