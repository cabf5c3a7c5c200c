use mathlib.Core.Path.{◌≡◌}
use mathlib.Core.Bool.{true}
use Rattle.columns.specs.Limits.{positions_hold}
use Rattle.columns.proofs.Columns.positions_hold.Given as goal

abbrev pub invariant-loop-i : goal.invariant-loop-i
invariant-loop-i l = positions_hold l.i l.self.position ≡ true
