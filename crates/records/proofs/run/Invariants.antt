-- What is left of the file gets shorter.
use Prim.Native.Nat.{◌-◌}
use lib.ListN.{length}
use Rattle.records.specs.Run.{Running}
use Rattle.records.proofs.run.Given as goal

abbrev pub invariant-loop-read : goal.invariant-loop-read
invariant-loop-read l = Running l.file l.initial.book.book 0 0 l.book.book l.progress.accepted l.progress.at

abbrev pub decreases-loop-read : goal.decreases-loop-read
decreases-loop-read l = length l.file - l.progress.at
