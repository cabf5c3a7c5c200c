-- `records::run` meets its contract.
use mathlib.Core.Path.{sym, ◌∙◌}
use native.Mathlib.Omega.{arith}
use Rattle.dayfile.proofs.Forward.{further_to}
use Rattle.records.proofs.Running.{goes_on, joined, ends}
use Rattle.records.proofs.run.Goals as goal

pub play_frequent-progress-requires : goal.play_frequent-progress-requires
play_frequent-progress-requires c =
    let r = goes_on c.play.result c.loop-read.invariant c.in-Some.read (sym c.read_record.ensures.record ∙ c.in-Some.is) c.play.ensures c.from.ensures in
    (r.fewer, r.inside)

pub loop-read-smaller : goal.loop-read-smaller
loop-read-smaller c =
    omega (arith, c.play_frequent-progress.ensures.onward, c.play_frequent-progress.ensures.inside, further_to c.args.file.now c.loop-read.progress.at c.in-Some.read (sym c.read_record.ensures.record ∙ c.in-Some.is))

pub loop-read-preserved : goal.loop-read-preserved
loop-read-preserved c =
    joined (goes_on c.play.result c.loop-read.invariant c.in-Some.read (sym c.read_record.ensures.record ∙ c.in-Some.is) c.play.ensures c.from.ensures) c.play_frequent-progress.ensures

pub returns : goal.returns
returns c = ends c.loop-read.invariant (sym c.read_record.ensures.record ∙ c.in_default.is)
