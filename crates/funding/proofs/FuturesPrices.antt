-- The record of specs/FuturesPrices.antt, by computing. Assumes nothing.
use mathlib.Core.Path.{refl}
use Rattle.funding.specs.FuturesPrices.{FuturesPrices}

pub futures_prices : FuturesPrices
futures_prices = record { no_trade = refl; below_bid = refl; at_bid = refl; at_offer = refl; above_offer = refl }
