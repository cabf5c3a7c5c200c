-- `CheckedBook::quote` meets its contract, and leaves a book within its limits.
use mathlib.Core.Path.{refl}
use Rattle.calls.specs.declared.Call.TheVariants as call
use Rattle.columns.specs.Columns.{accounts}
use Rattle.ledger.specs.Effects.{effect}
use Rattle.ledger.proofs.Keeping.{still_within}
use Rattle.ledger.proofs.Lent.{on_figures}
use Rattle.ledger.proofs.checked.CheckedBook.quote.Goals as goal

pub returns : goal.returns
unfolding effect
returns c = on_figures c.args.self.now.within refl _ refl refl c.quote.ensures

pub invariant_of-self : goal.invariant_of-self
unfolding effect
invariant_of-self c =
    let k = c.args.self.now in
    record { within = still_within accounts k.book (call.Quote c.args.market) k.within _ (on_figures k.within refl c.quote.result refl refl c.quote.ensures) }
