-- The records of specs/MarketTimes.antt, by computing. Assumes nothing.
use mathlib.Core.Path.{refl}
use Rattle.integers.specs.Lists.{sum_count}
use Rattle.history.specs.History.{market}
use Rattle.history.specs.LastMinute.{latest, minute_markets, stood}
use Rattle.history.specs.MarketTimes.{Times, Markets, Weights}

pub times : Times
unfolding latest
times = record { none_yet = refl; given = refl; after_quote = refl; after_halt = refl; after_fix = refl; after_minute = refl; after_close = refl }

pub markets : Markets
unfolding latest market minute_markets
markets = record { at_start = refl; own_time = refl; latest_time = refl; halted = refl }

pub weights : Weights
unfolding stood sum_count
weights = record { whole_minute = refl; replaced = refl; one_sided = refl; removed = refl; no_time = refl; one_millisecond = refl }
