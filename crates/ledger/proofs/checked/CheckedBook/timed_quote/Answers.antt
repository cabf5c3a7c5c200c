-- `CheckedBook::timed_quote` meets its contract, and leaves a book within its limits.
use mathlib.Core.Path.{refl}
use Rattle.calls.specs.declared.Call.TheVariants as call
use Rattle.columns.specs.Columns.{accounts}
use Rattle.ledger.specs.Effects.{effect}
use Rattle.ledger.proofs.Keeping.{still_within}
use Rattle.ledger.proofs.Lent.{figures_held, on_figures}
use Rattle.ledger.proofs.checked.CheckedBook.timed_quote.Goals as goal

pub timed_quote-requires : goal.timed_quote-requires
timed_quote-requires c = figures_held _ c.args.self.now.within

pub returns : goal.returns
unfolding effect
returns c = on_figures c.args.self.now.within refl _ refl refl c.timed_quote.ensures

pub invariant_of-self : goal.invariant_of-self
unfolding effect
invariant_of-self c =
    let k = c.args.self.now in
    record { within = still_within accounts k.book (call.TimedQuote c.args.quote) k.within _ (on_figures k.within refl c.timed_quote.result refl refl c.timed_quote.ensures) }
