-- Each set so far counts as 1 at most.
use Rattle.std.proofs.Common.{◌≤◌}
use Rattle.trade_bench.proofs.play_sets.Given as goal

abbrev pub invariant-loop : goal.invariant-loop
invariant-loop l = l.accepted ≤ l.counter
