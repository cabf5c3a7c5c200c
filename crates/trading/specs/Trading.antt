-- The number of a trade, and what an accepted one does to the columns.
use mathlib.Core.{Bool.Bool, Bool.not, List.List, List.[], List.◌∷◌}
use Rattle.std.specs.Prelude.{ℕ, ◌*◌}
use Rattle.calls.specs.declared.Call.TheVariants as call
use Rattle.calls.specs.{declared.Trade.Trade, Trade.trade_outside}
use Rattle.refusals.specs.Refusals.{first_met}
use Rattle.figures.specs.declared.Figures.{Figures}
use Rattle.outcomes.specs.Outcome.{sentences_on}
use Rattle.columns.specs.declared.Columns.{Columns}
use Rattle.counterparties.specs.Counterparties.{are_accounts, accounts_of, counted, exchanged}

-- the number of a trade's refusal by a book within its limits, 0 where there is none
abbrev pub trade_refusal : ℕ → Figures → Columns → Trade → ℕ
trade_refusal n f c t = first_met (sentences_on f (call.Trade t) (accounts_of n c.position c.volume t))

-- what a trade of a set can be refused for by itself: 02-6, "Each trade must pass the halt, field and account checks by itself", of which the halt is the set's
abbrev pub own_sentences : ℕ → Trade → List (ℕ × Bool)
own_sentences n t = (5, trade_outside t) ∷ (12, not (are_accounts n t)) ∷ []

-- the columns after a trade
abbrev pub traded_columns : Columns → Trade → Columns
traded_columns c t = record {
  opening = c.opening;
  position = exchanged c.position t t.quantity;
  cost = exchanged c.cost t (t.quantity * t.price);
  volume = counted c.volume t;
  cash = c.cash;
}
