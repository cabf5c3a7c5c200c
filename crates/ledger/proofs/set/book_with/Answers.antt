-- `set::book_with` meets its contract: the set as a whole, its trades and the accounts at its end are looked at in this order.
use mathlib.Core.Path.{◌≡◌, sym, ◌∙◌, ap}
use borrow.Author.Rules.{rules}
use Rattle.std.specs.Prelude.{Err}
use Rattle.refusals.specs.Refusals.{first_met, number_of}
use Rattle.refusals.proofs.Numbers.{not_zero}
use Rattle.columns.specs.Columns.{accounts}
use Rattle.ledger.specs.declared.Book.{Book}
use Rattle.ledger.specs.Inner.{WithinLimits}
use Rattle.ledger.specs.Sets.{sentences_after_trades}
use Rattle.ledger.proofs.Booking.{has_room}
use Rattle.ledger.proofs.SetRefusal.{by_parts, refused, accepted, opened}
use Rattle.ledger.proofs.set.book_with.Goals as goal

pub returns-in_err-test_set : goal.returns-in_err-test_set
returns-in_err-test_set c =
    let a = c.args in
    let e = c.in_err-test_set.field-0.0 in
    let same : c.from_residual.result ≡ Err e = search rules in
    let number = sym (ap number_of c.in_err-test_set.was) ∙ c.test_set.ensures in
    rw same (refused accounts a.book a.trades.now e (sym (by_parts accounts a.book a.trades.now ∙ rw (← number, not_zero e))))

pub book_trades-requires : goal.book_trades-requires
book_trades-requires c =
    let a = c.args in
    let o = opened accounts a.book a.trades.now (sym c.test_set.ensures ∙ ap number_of c.in_ok-test_set.was) in
    let w : WithinLimits accounts a.book = record { shaped = search rules; within = o.limits } in
    has_room a.book w _ o.few

pub returns-in_err-book_trades : goal.returns-in_err-book_trades
returns-in_err-book_trades c =
    let a = c.args in
    let e = c.in_err-book_trades.field-0.0 in
    let same : c.from_residual-in_err-book_trades.result ≡ Err e = search rules in
    let set = sym c.test_set.ensures ∙ ap number_of c.in_ok-test_set.was in
    let number = sym (ap number_of c.in_err-book_trades.was) ∙ c.book_trades.ensures.code in
    rw same (refused accounts a.book a.trades.now e (sym (by_parts accounts a.book a.trades.now ∙ rw (set, ← number, not_zero e))))

pub returns-in_err-test_accounts : goal.returns-in_err-test_accounts
returns-in_err-test_accounts c =
    let a = c.args in
    let e = c.in_err-test_accounts.field-0.0 in
    let same : c.from_residual-in_err-test_accounts.result ≡ Err e = search rules in
    let set = sym c.test_set.ensures ∙ ap number_of c.in_ok-test_set.was in
    let none = ap number_of c.in_ok-book_trades.was in
    let trades = sym c.book_trades.ensures.code ∙ none in
    let number = sym (ap number_of c.in_err-test_accounts.was) ∙ c.test_accounts.ensures ∙ ap (λ (b : Book). first_met (sentences_after_trades accounts b.columns)) (c.book_trades.ensures.book none) in
    rw same (refused accounts a.book a.trades.now e (sym (by_parts accounts a.book a.trades.now ∙ rw (set, trades, ← number))))

pub returns : goal.returns
returns c =
    let a = c.args in
    let set = sym c.test_set.ensures ∙ ap number_of c.in_ok-test_set.was in
    let none = ap number_of c.in_ok-book_trades.was in
    let trades = sym c.book_trades.ensures.code ∙ none in
    let book = c.book_trades.ensures.book none in
    let number = sym (ap (λ (b : Book). first_met (sentences_after_trades accounts b.columns)) book) ∙ sym c.test_accounts.ensures ∙ ap number_of c.in_ok-test_accounts.was in
    accepted accounts a.book a.trades.now c.book_trades.new.book (by_parts accounts a.book a.trades.now ∙ rw (set, trades, number)) book
