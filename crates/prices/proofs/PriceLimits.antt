-- The record of specs/PriceLimits.antt, by computing. Assumes nothing.
use mathlib.Core.Path.{refl}
use Rattle.prices.specs.PriceLimits.{PriceLimits}

pub price_limits : PriceLimits
price_limits = record { below = refl; least = refl; largest = refl; above = refl; ticked = refl; unticked = refl }
