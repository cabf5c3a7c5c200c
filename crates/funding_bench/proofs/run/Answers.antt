-- `funding_bench::run` writes the printout of what the reader has: it reads the bytes that count. Assumes nothing.
use Rattle.std.proofs.Common.{ℕ, List, length, take}
use Rattle.std.proofs.lemmas.Result.{on_ok_weaker}
use Rattle.std.specs.Io.KnownBytes.{Appends}
use Rattle.printout.specs.Printout.{most_input, printout_of_counted}
use Rattle.funding_bench.proofs.Parts.{from_counted}
use Rattle.funding_bench.proofs.run.Goals as goal

pub returns : goal.returns
returns g c =
    let input = c.read_full.new.buffer in
    let Prints : List ℕ → Type 0 = λ counted. Appends (g.W.Write.contents c.args.out.now) (g.W.Write.contents c.print.new.out) (printout_of_counted counted) in
    on_ok_weaker c.print.result
    (from_counted most_input (length input) (g.R.Read.remaining c.args.reader) (take c.in_ok-length.length input) Prints c.read_full.auto.buffer c.in_ok-length.ensures.bytes)
    c.print.ensures
