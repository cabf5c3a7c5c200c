-- `printout::put_printed` meets its contract, for each thing that may be printed.
use borrow.Author.Rules.{rules}
use Rattle.std.proofs.Common.{◌≡◌, sym, ap}
use Rattle.std.specs.Prelude.{Option, None}
use Rattle.text.proofs.Placing.{puts_in_words, puts_nothing}
use Rattle.playing.specs.declared.Printed.{Printed}
use Rattle.printout.specs.Printout.{text_of}
use Rattle.printout.proofs.put_printed.Goals as goal

pub returns-in-None : goal.returns-in-None
returns-in-None c =
    let a = c.args in
    let none : a.printed ≡ None = search rules in
    puts_in_words (ap (λ (p : Option Printed). text_of p a.columns.now) (sym none)) (puts_nothing a.window.now)
