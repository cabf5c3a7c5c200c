-- The records of specs/PriceRules.antt, by computing. Assumes nothing.
use mathlib.Core.Path.{refl}
use Rattle.integers.specs.Rounding.{nearest}
use Rattle.settlement.specs.PriceRules.{PriceRules, MidpointRule, Dimes}

pub price_rules : PriceRules
unfolding nearest
price_rules = record {
  set_price = refl;
  average = refl;
  tie_up = refl;
  tie_down = refl;
  by_index = refl;
  no_index = refl;
  no_previous_price = refl;
  no_previous_index = refl;
  negative = refl;
  below_least = refl;
  at_least = refl;
  at_largest = refl;
  above_largest = refl;
}

pub midpoint_rule : MidpointRule
unfolding nearest
midpoint_rule = record { after_set_price = refl; after_trades = refl; before_index = refl; one_millisecond = refl; midpoint_tie_up = refl; midpoint_tie_down = refl }

pub dimes : Dimes
unfolding nearest
dimes = record { whole = refl; below_half = refl; tie_down = refl; above_half = refl; tie_up = refl; below_dime = refl; least = refl; near_largest = refl }
