-- `CheckedBook::trade` meets its contract, and leaves a book within its limits.
use mathlib.Core.Path.{refl}
use Rattle.calls.specs.declared.Call.TheVariants as call
use Rattle.columns.specs.Columns.{accounts}
use Rattle.ledger.proofs.Keeping.{still_within}
use Rattle.ledger.proofs.Lent.{tradable, trade-answered}
use Rattle.ledger.proofs.checked.CheckedBook.trade.Goals as goal

pub trade-requires : goal.trade-requires
trade-requires c = let k = c.args.self.now in tradable k.book k.within c.args.trade

pub returns : goal.returns
returns c = trade-answered c.args.self.now.within refl c.trade.ensures

pub invariant_of-self : goal.invariant_of-self
invariant_of-self c =
    let k = c.args.self.now in
    record { within = still_within accounts k.book (call.Trade c.args.trade) k.within _ (trade-answered k.within refl c.trade.ensures) }
