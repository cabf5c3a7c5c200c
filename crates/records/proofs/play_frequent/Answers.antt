-- `records::play_frequent` meets its contract.
use native.Mathlib.Omega.{arith}
use Rattle.records.proofs.Running.{started, joined}
use Rattle.records.proofs.play_frequent.Goals as goal

pub loop-progress-init : goal.loop-progress-init
loop-progress-init c = started c.requires.0 c.requires.1

pub play_next-next-requires : goal.play_next-next-requires
play_next-next-requires c = (c.loop-progress.invariant.fewer, c.loop-progress.invariant.inside)

pub returns-then-next-progress : goal.returns-then-next-progress
returns-then-next-progress c = joined c.loop-progress.invariant c.play_next-next.ensures

pub loop-progress-smaller : goal.loop-progress-smaller
loop-progress-smaller c = omega (arith, c.if-next-progress.false, c.play_next-next.ensures.onward, c.play_next-next.ensures.inside)

pub loop-progress-preserved : goal.loop-progress-preserved
loop-progress-preserved c = joined c.loop-progress.invariant c.play_next-next.ensures
