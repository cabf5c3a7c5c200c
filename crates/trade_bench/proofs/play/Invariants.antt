-- Each trade so far counts as 1 at most.
use Rattle.std.proofs.Common.{◌≤◌}
use Rattle.trade_bench.proofs.play.Given as goal

abbrev pub invariant-loop-place : goal.invariant-loop-place
invariant-loop-place l = l.accepted ≤ l.place
