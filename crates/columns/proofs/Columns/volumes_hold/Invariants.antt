use mathlib.Core.Path.{◌≡◌}
use mathlib.Core.Bool.{true}
use Rattle.columns.specs.Limits.{volumes_hold}
use Rattle.columns.proofs.Columns.volumes_hold.Given as goal

abbrev pub invariant-loop-i : goal.invariant-loop-i
invariant-loop-i l = volumes_hold l.i l.self.volume ≡ true
