-- A record of the tag stands at the place, and what is left of the file gets shorter.
use mathlib.Core.Path.{◌≡◌}
use mathlib.Core.Bool.{true}
use Prim.Native.Nat.{◌-◌}
use lib.ListN.{length}
use Rattle.dayfile.specs.Record.{is_record_at}
use Rattle.records.specs.Run.{Running}
use Rattle.records.proofs.play_all.Given as goal

abbrev pub invariant-loop-accepted : goal.invariant-loop-accepted
invariant-loop-accepted g l =
    Running l.file l.initial.book.book l.initial.accepted l.initial.at l.book.book l.accepted l.at × (is_record_at l.file l.at g.F.Frequent.tag ≡ true)

abbrev pub decreases-loop-accepted : goal.decreases-loop-accepted
decreases-loop-accepted g l = length l.file - l.at
