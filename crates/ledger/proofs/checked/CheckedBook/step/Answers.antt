-- A call on a book within its limits leaves such a book.
use Rattle.columns.specs.Columns.{accounts}
use Rattle.ledger.proofs.Keeping.{still_within}
use Rattle.ledger.proofs.checked.CheckedBook.step.Goals as goal

pub invariant_of-self : goal.invariant_of-self
invariant_of-self c = record { within = still_within accounts c.args.self.now.book c.args.call c.args.self.now.within _ c.step.ensures }
