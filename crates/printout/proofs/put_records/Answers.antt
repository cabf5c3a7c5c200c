-- `printout::put_records` meets its contract.
use mathlib.Core.Path.{◌≡◌, sym, ◌∙◌, ap}
use native.Mathlib.Omega.{arith}
use borrow.Author.Rules.{rules}
use Rattle.std.specs.Prelude.{Some}
use Rattle.text.proofs.Placing.{puts_then, puts_in_words, puts_nothing}
use Rattle.dayfile.specs.Record.{read_at}
use Rattle.dayfile.proofs.Forward.{further_to}
use Rattle.printout.specs.Printout.{Lines}
use Rattle.printout.proofs.Records.{no_lines, played_lines}
use Rattle.printout.proofs.put_records.Goals as goal

pub loop-read-init : goal.loop-read-init
loop-read-init c = (search rules, search rules, λ last p. p)

pub overflow_add-place : goal.overflow_add-place
overflow_add-place c = omega (arith, c.requires, c.loop-read.invariant.0, c.loop-read.invariant.1)

pub loop-read-smaller : goal.loop-read-smaller
loop-read-smaller c =
    omega (arith, further_to c.args.file.now c.loop-read.start c.in-Some.read (sym c.read_record.ensures.record ∙ c.in-Some.is))

pub loop-read-preserved : goal.loop-read-preserved
loop-read-preserved c =
    let l = c.loop-read in
    let file = c.args.file.now in
    let r = c.in-Some.read in
    let read_is : read_at file l.start ≡ Some r = sym c.read_record.ensures.record ∙ c.in-Some.is in
    let on = further_to file l.start r read_is in
    let lines = played_lines file l.book.book l.start l.place r read_is c.play_record-printed.ensures in
    (on.1, omega (arith, on, l.invariant.1), λ last rest. l.invariant.2 last (puts_in_words lines (puts_then c.put_printed.ensures rest)))

pub returns : goal.returns
returns c =
    let l = c.loop-read in
    let none = ap (λ (k : Lines). k.text) (no_lines l.book.book l.place c.args.file.now l.start (sym c.read_record.ensures.record ∙ c.in_default.is)) in
    l.invariant.2 l.window (puts_in_words (sym none) (puts_nothing l.window))
