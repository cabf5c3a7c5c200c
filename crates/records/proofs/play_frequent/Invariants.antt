-- What is left of the file gets shorter.
use Prim.Native.Nat.{◌-◌}
use lib.ListN.{length}
use Rattle.records.specs.Run.{Running}
use Rattle.records.proofs.play_frequent.Given as goal

abbrev pub invariant-loop-progress : goal.invariant-loop-progress
invariant-loop-progress l = Running l.file l.initial.book.book l.initial.progress.accepted l.initial.progress.at l.book.book l.progress.accepted l.progress.at

abbrev pub decreases-loop-progress : goal.decreases-loop-progress
decreases-loop-progress l = length l.file - l.progress.at
