-- An accepted opening has a book within its limits.
use mathlib.Core.Path.{◌≡◌, sym, ◌∙◌, ap}
use Rattle.columns.specs.Columns.{accounts}
use Rattle.figures.specs.Figures.{Outcome, numbered, opened}
use Rattle.ledger.specs.Step.{empty_book, opening}
use Rattle.ledger.proofs.Keeping.{opened_within}
use Rattle.ledger.proofs.checked.CheckedBook.opening.Goals as goal

pub invariant_of-result : goal.invariant_of-result
invariant_of-result c =
    let size = c.args.size in
    let e : numbered c.in_ok-figures.figures 0 ≡ opened size = c.in_ok-figures.ensures in
    let book : c.empty.result ≡ (opening accounts size).book = c.empty.ensures ∙ ap (λ (o : Outcome). empty_book accounts o.figures) e in
    record { within = rw book (opened_within accounts size (sym (ap (λ (o : Outcome). o.code) e))) }
