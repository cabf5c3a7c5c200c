-- `input_buffer::read_full` reads on where what was read before ends. Assumes nothing.
use Rattle.std.proofs.Common.{refl, rules}
use Rattle.input_buffer.proofs.Front.{read_more}
use Rattle.input_buffer.proofs.read_full.Goals as goal

pub loop-count-preserved : goal.loop-count-preserved
loop-count-preserved g c =
    let before = c.loop-count.invariant in
    let n = c.in_ok-n.n in
    record {
      within = search rules;
      bytes = read_more _ _ _ c.loop-count.buffer c.read.new.buf c.loop-count.count _ before.bytes before.within n _ refl c.in_ok-n.ensures.bound.0 c.in_ok-n.ensures.bytes.0;
    }
