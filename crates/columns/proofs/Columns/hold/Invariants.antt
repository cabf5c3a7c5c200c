use mathlib.Core.Path.{◌≡◌}
use mathlib.Core.Bool.{true}
use Rattle.columns.specs.Columns.{all_below}
use Rattle.columns.specs.Limits.{holds_at}
use Rattle.columns.proofs.Columns.hold.Given as goal

abbrev pub invariant-loop-i : goal.invariant-loop-i
invariant-loop-i l = all_below l.i (holds_at l.closed l.self) ≡ true
