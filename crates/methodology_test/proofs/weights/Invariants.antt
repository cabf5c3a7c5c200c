-- Each minute so far counts as 1 at most.
use Rattle.std.proofs.Common.{◌≤◌}
use Rattle.methodology_test.proofs.weights.Given as goal

abbrev pub invariant-loop-minute : goal.invariant-loop-minute
invariant-loop-minute g l = l.day.count ≤ l.minute-index
