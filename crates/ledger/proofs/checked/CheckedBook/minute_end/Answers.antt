-- `CheckedBook::minute_end` meets its contract, and leaves a book within its limits.
use mathlib.Core.Path.{refl}
use Rattle.calls.specs.declared.Call.TheVariants as call
use Rattle.columns.specs.Columns.{accounts}
use Rattle.ledger.specs.Effects.{effect}
use Rattle.ledger.proofs.Keeping.{still_within}
use Rattle.ledger.proofs.Lent.{figures_held, on_figures}
use Rattle.ledger.proofs.checked.CheckedBook.minute_end.Goals as goal

pub minute_end-requires : goal.minute_end-requires
minute_end-requires c = figures_held _ c.args.self.now.within

pub returns : goal.returns
unfolding effect
returns c = on_figures c.args.self.now.within refl _ refl refl c.minute_end.ensures

pub invariant_of-self : goal.invariant_of-self
unfolding effect
invariant_of-self c =
    let k = c.args.self.now in
    record { within = still_within accounts k.book (call.MinuteEnd c.args.index) k.within _ (on_figures k.within refl c.minute_end.result refl refl c.minute_end.ensures) }
