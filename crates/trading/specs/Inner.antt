-- What the functions of this crate require, which a book within its limits has, and what a trade comes to. A reader of the promises can skip this file.
use mathlib.Core.{Bool.cond, Path.◌≡◌}
use Rattle.std.specs.Prelude.{ℕ, ◌+◌, ◌*◌, ◌<◌, ◌^◌, Result}
use lib.Dec.{eqb}
use Rattle.prices.specs.Price.{largest_price}
use Rattle.calls.specs.declared.Call.TheVariants as call
use Rattle.calls.specs.{declared.Trade.Trade, Trade.most_quantity}
use Rattle.refusals.specs.{declared.Refusal.Refusal, Refusals.first_met, Refusals.number_of}
use Rattle.figures.specs.{declared.Figures.Figures, declared.Found.Found, Figures.outcome_of}
use Rattle.outcomes.specs.{Effects.figures_after, Outcome.outcome_by}
use Rattle.columns.specs.declared.Columns.{Columns}
use Rattle.counterparties.specs.Inner.{most_entry, Exchangeable, Countable}
use Rattle.trading.specs.Trading.{trade_refusal, own_sentences, traded_columns}

-- the entries of both accounts are within bounds, those of positions within the bound given; an account that isn't there has 0. n and the gross have room for the trade
pub record Tradable (f : Figures) (c : Columns) (t : Trade) (bound : ℕ) : Type 0 where
  pub positions : Exchangeable c.position t bound
  pub costs : Exchangeable c.cost t most_entry
  pub volumes : Countable c.volume t
  pub contracts : f.day.trades.settling.contracts + most_quantity < 2 ^ 32
  pub gross : f.day.trades.settling.gross + most_quantity * largest_price < 2 ^ 64

-- no sentence of the trade's own is met
abbrev pub Passes : ℕ → Trade → Type 0
Passes n t = first_met (own_sentences n t) ≡ 0

-- figures and columns after an accepted trade
pub record Traded (f : Figures) (c : Columns) (t : Trade) (f' : Figures) (c' : Columns) : Type 0 where
  pub figures : f' ≡ figures_after f (call.Trade t)
  pub columns : c' ≡ traded_columns c t

-- what a trade of a set comes to: a refused one leaves both
pub record SetTradeAnswered (n : ℕ) (f : Figures) (c : Columns) (t : Trade) (r : Result Unit Refusal) (f' : Figures) (c' : Columns) : Type 0 where
  pub code : number_of r ≡ first_met (own_sentences n t)
  pub figures : f' ≡ cond (eqb (number_of r) 0) (figures_after f (call.Trade t)) f
  pub columns : c' ≡ cond (eqb (number_of r) 0) (traded_columns c t) c

-- what a trade comes to, and the columns after it, which a refused one leaves
pub record TradeAnswered (n : ℕ) (f : Figures) (c : Columns) (t : Trade) (r : Result Found Refusal) (f' : Figures) (c' : Columns) : Type 0 where
  pub outcome : outcome_of r f' ≡ outcome_by (trade_refusal n f c t) f (call.Trade t)
  pub columns : c' ≡ cond (eqb (number_of r) 0) (traded_columns c t) c
