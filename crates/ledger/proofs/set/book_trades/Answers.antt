-- `set::book_trades` meets its contract.
use mathlib.Core.Path.{◌≡◌, refl, ap}
use borrow.Author.Rules.{rules}
use Rattle.refusals.specs.Refusals.{number_of}
use Rattle.columns.specs.Columns.{accounts}
use Rattle.ledger.proofs.Booking.{starts, tradable_here, booked_on, stops, ends}
use Rattle.ledger.proofs.set.book_trades.Goals as goal

pub loop-t-init : goal.loop-t-init
loop-t-init c = starts accounts c.args.book.now c.args.trades.now c.requires

pub trade_in_set-requires : goal.trade_in_set-requires
trade_in_set-requires c = tradable_here c.loop-t.invariant _ c.loop-t-test.true

pub returns-in_err-trade_in_set : goal.returns-in_err-trade_in_set
returns-in_err-trade_in_set c =
    let same : c.from_residual.result ≡ c.trade_in_set.result = search rules in
    rw same (stops c.loop-t.invariant _ c.loop-t-test.true c.trade_in_set.ensures c.in_err-trade_in_set.field-0.0 c.in_err-trade_in_set.was _)

pub loop-t-preserved : goal.loop-t-preserved
loop-t-preserved c = booked_on c.loop-t.invariant _ c.loop-t-test.true c.trade_in_set.ensures (ap number_of c.in_ok-trade_in_set.was)

pub returns : goal.returns
returns c = ends c.loop-t.invariant c.loop-t-test.false _ refl
