-- `funding_bench::print` writes the printout: each part lies where the text that is written already ends. Assumes nothing.
use Rattle.std.proofs.Common.{arith}
use Rattle.std.proofs.lemmas.Result.{on_ok_weaker}
use Rattle.printout.specs.Printout.{printout}
use Rattle.funding_bench.proofs.Parts.{last_part, next_part}
use Rattle.funding_bench.proofs.print.Goals as goal

pub returns-then-rest-le65536 : goal.returns-then-rest-le65536
returns-then-rest-le65536 g c =
    on_ok_weaker c.write_all.result
    (last_part _ _ _ (printout c.args.input.now) c.loop-out.part c.write-length.new.out c.loop-out.from c.loop-out.invariant.written c.write-length.ensures.text c.write-length.result c.write-length.ensures.length (omega arith))
    c.write_all.ensures.bytes

pub loop-out-preserved : goal.loop-out-preserved
loop-out-preserved g c = record {
  within = omega arith;
  written = next_part _ _ _ (printout c.args.input.now) c.loop-out.part c.write-length.new.out c.loop-out.from c.loop-out.invariant.written c.write-length.ensures.text 65536 c.loop-out.array_long (omega arith) c.in_ok-write_all.ensures.bytes;
}
