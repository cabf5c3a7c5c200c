use Rattle.columns.specs.Columns.{accounts}
use Rattle.ledger.proofs.Booking.{Walked}
use Rattle.ledger.proofs.set.book_trades.Given as goal

abbrev pub invariant-loop-t : goal.invariant-loop-t
invariant-loop-t l = Walked accounts l.initial.book l.trades l.t-index l.book
