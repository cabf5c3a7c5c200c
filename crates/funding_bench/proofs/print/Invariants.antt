-- Each part starts where the text that is written already ends.
use Rattle.std.proofs.Common.{◌-◌, ◌≤◌, length, take}
use Rattle.std.specs.Io.KnownBytes.{Appends}
use Rattle.printout.specs.Printout.{printout}
use Rattle.funding_bench.proofs.print.Given as goal

abbrev pub invariant-loop-out : goal.invariant-loop-out
invariant-loop-out g l = record {
  within : l.from ≤ length (printout l.input);
  written : Appends (g.W.Write.contents l.initial.out) (g.W.Write.contents l.out) (take l.from (printout l.input));
}

abbrev pub decreases-loop-out : goal.decreases-loop-out
decreases-loop-out g l = length (printout l.input) - l.from
