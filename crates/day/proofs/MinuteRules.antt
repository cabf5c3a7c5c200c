-- The records of specs/MinuteRules.antt, by computing. Assumes nothing.
use mathlib.Core.Path.{refl}
use Rattle.day.specs.MinuteRules.{Validity, LastMinute, MinuteMarkets}

pub validity : Validity
validity = record { valid = refl; halted = refl; without_market = refl; no_bid = refl; no_offer = refl; no_sample = refl; too_wide = refl }

pub the_last_minute : LastMinute
the_last_minute = record { minute_before = refl; last_minute = refl; day_over = refl; spread_trade = refl; block_trade = refl; short_before = refl; short_last = refl; short_over = refl; final_before = refl; final_last = refl; final_over = refl }

pub minute_markets : MinuteMarkets
minute_markets = record { both_sides = refl; turned_one_sided = refl; the_next_minute = refl }
