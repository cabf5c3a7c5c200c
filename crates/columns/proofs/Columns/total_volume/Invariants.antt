use mathlib.Core.Path.{◌≡◌}
use Prim.Native.Nat.{◌*◌, ◌^◌, ◌≤◌}
use Rattle.columns.specs.Columns.{count_at, sum_below}
use Rattle.columns.proofs.Columns.total_volume.Given as goal

abbrev pub invariant-loop-volume : goal.invariant-loop-volume
invariant-loop-volume l = (l.total ≤ l.volume-index * 2 ^ 32) × (l.total ≡ sum_below l.volume-index (count_at l.self.volume))
