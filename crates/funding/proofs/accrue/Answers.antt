-- `funding::accrue` meets its contract: a day's sum and one more weighted basis stay below 2 ^ 63. Assumes nothing.
use mathlib.Core.List.{◌∷◌, []}
use Prim.Native.Nat.{ℕ, ◌≤◌}
use native.Mathlib.Nat.{mul-le-mul_left, mul-le-mul_right}
use native.Mathlib.Omega.{arith}
use lib.IntN.{ℤ, pos, nat_abs}
use Rattle.integers.proofs.Overflow.{Op, arg, lit, add, mul, val, Within, ◌▹◌, done, safe, runs}
use Rattle.funding.specs.Minute.{most_basis, weighted_limit, most_minutes, Accrues}
use Rattle.funding.proofs.accrue.Goals as goal

module _ {S : ℤ} {k : ℕ} {basis : ℤ} (p : Accrues S k basis) where
  count_small : k ≤ most_minutes
  count_small = omega (arith, p.count)

  sum_small : nat_abs S ≤ weighted_limit most_minutes
  sum_small = omega (arith, p.sum, count_small, mul-le-mul_left k count_small, mul-le-mul_right most_minutes count_small)

  within : Within (val S ∷ val (pos k) ∷ val basis ∷ []) (weighted_limit most_minutes ∷ most_minutes ∷ most_basis ∷ [])
  within = sum_small ▹ count_small ▹ p.size ▹ done

abbrev weight : Op
weight = add (arg 1) (lit (pos 1))

abbrev weighted : Op
weighted = mul weight (arg 2)

pub returns : goal.returns
returns c = rw c.from.ensures (runs (within c.requires) (add (arg 0) weighted) tt)

pub overflow_add-result : goal.overflow_add-result
overflow_add-result c = rw c.from.ensures (safe (within c.requires) weight tt)

pub overflow_mul-result : goal.overflow_mul-result
overflow_mul-result c = rw c.from.ensures (safe (within c.requires) weighted tt)

pub overflow_add-result-2 : goal.overflow_add-result-2
overflow_add-result-2 c = rw c.from.ensures (safe (within c.requires) (add (arg 0) weighted) tt)
