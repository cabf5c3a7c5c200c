use Prim.Native.Nat.{◌+◌, ◌-◌, ◌≤◌}
use lib.ListN as lists
use Rattle.text.specs.declared.Window.{Window}
use Rattle.text.specs.Text.{Puts}
use Rattle.printout.proofs.Records.{lines_left}
use Rattle.printout.proofs.put_records.Given as goal

-- with the lines from the next record on, the lines of all are put
abbrev pub invariant-loop-read : goal.invariant-loop-read
invariant-loop-read l =
    (l.start ≤ lists.length l.file)
    × (l.place ≤ l.start + 1)
    × ((last : Window) → Puts l.window (lines_left l.file l.book.book l.start l.place) last
    → Puts l.initial.window (lines_left l.file l.initial.book.book l.initial.start l.initial.place) last)

abbrev pub decreases-loop-read : goal.decreases-loop-read
decreases-loop-read l = lists.length l.file - l.start
