-- `Book::is_within_limits` meets its contract: the accounts are looked at where the figures hold, and what they traded where
-- the accounts do.
use mathlib.Core.Path.{◌≡◌, sym, ◌∙◌}
use mathlib.Core.Bool.{true}
use mathlib.Core.List.{◌∷◌, []}
use lib.Dec.{leb}
use borrow.Author.Tests.{leb-true}
use Rattle.prices.specs.Price.{none_or_price}
use Rattle.figures.specs.Figures.{is_size, figures_hold}
use Rattle.refusals.specs.Refusals.{most_days}
use Rattle.day.specs.Limits.{day_holds}
use Rattle.integers.proofs.Tests.{each}
use Rattle.ledger.specs.Refusals.{within_limits}
use Rattle.ledger.proofs.Book.is_within_limits.Goals as goal

pub returns-then-not-holds : goal.returns-then-not-holds
unfolding within_limits
returns-then-not-holds c = rw (← c.holds.ensures, c.if-not-holds.true)

pub hold-requires : goal.hold-requires
unfolding figures_hold
hold-requires c =
    let f = c.args.self.now.figures in
    let h : figures_hold f ≡ true = sym c.holds.ensures ∙ c.if-not-holds.false in
    leb-true f.closed most_days (each (is_size f.size) (leb f.closed most_days ∷ none_or_price f.previous.price ∷ none_or_price f.previous.index ∷ day_holds f.day ∷ []) h 1)

pub returns-then-not-hold : goal.returns-then-not-hold
unfolding within_limits
returns-then-not-hold c = rw (← c.holds.ensures, c.if-not-holds.false, ← c.hold.ensures, c.if-not-hold.true)

pub returns : goal.returns
unfolding within_limits
returns c = rw (← c.holds.ensures, c.if-not-holds.false, ← c.hold.ensures, c.if-not-hold.false, c.final_holds.ensures, c.total_volume-volume.ensures)
