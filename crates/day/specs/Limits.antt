-- The limits on a day, in document 01's order.
use Rattle.std.specs.Prelude.{Bool, not, cond, ◌&&◌, ◌||◌, ℕ, ◌+◌, ◌*◌, leb, ltb, eqb}
use Rattle.integers.specs.Size.{within}
use Rattle.prices.specs.Price.{none_or_price, is_price_sum}
use Rattle.funding.specs.Minute.{weighted_limit}
use Rattle.settlement.specs.declared.FinalMinute.{FinalMinute}
use Rattle.funding.specs.{Market.market_holds, Market.minute_market_holds}
use Rattle.calls.specs.{Length.full_day, Length.is_length, Time.most_time, Time.minute_length}
use Rattle.day.specs.{declared.Day.Day, Day.day_length, Day.in_last_minute, Day.is_fixed, declared.Markets.Markets}

-- 02-1: "A book's length is one of the two", or the third of 02-7, "its ended minutes within it"; 01: "valid count k at most the ended minutes; weighted sum S at most 9,999 × 10^9 × k(k+1)/2 in size"
abbrev pub minutes_hold : Day → Bool
minutes_hold d =
    is_length (day_length d) && leb d.minutes.ended (day_length d) && leb d.minutes.valid d.minutes.ended
    && within d.minutes.weighted (weighted_limit d.minutes.valid)

abbrev pub markets_hold : Markets → Bool
markets_hold m = market_holds m.standing && minute_market_holds m.minute

-- 01: "last trade, … the day's index and fixed price 0 or a price; fixed amount within ±10,000"
abbrev pub most_amount : ℕ
most_amount = 10000

abbrev pub prices_hold : Day → Bool
prices_hold d = none_or_price d.trades.last && none_or_price d.minutes.index && none_or_price d.fixed.price && within d.fixed.amount most_amount

-- 01: "final-minute contracts n at most half the sum of all accounts' v (below), their gross between 5,000n and 50,000,000n"
abbrev pub final_holds : FinalMinute → ℕ → Bool
final_holds m v = leb (2 * m.contracts) v && is_price_sum m.contracts m.gross

-- 01: "a fixed day has" all its minutes ended
abbrev pub fix_holds : Day → Bool
fix_holds d = not (is_fixed d) || eqb d.minutes.ended (day_length d)

-- 02-1: "while no such call or record has come, it is 1,320 and they are 0"
abbrev pub start_holds : Day → Bool
start_holds d = d.session.begun || (eqb (day_length d) full_day && eqb d.minutes.ended 0)

-- 02-4: "its total is 0 before the last minute, at most that time within it, at most 60,000 after"
abbrev pub most_total : Day → ℕ
most_total d = cond (ltb (d.minutes.ended + 1) (day_length d)) 0 (cond (in_last_minute (day_length d) d.minutes.ended) d.timing.latest minute_length)

-- 02-4: "A book's latest time is at most 59,999; its total" as above, "and its sum between 5,000 and 50,000,000 times the total"
abbrev pub timing_holds : Day → Bool
timing_holds d =
    leb d.timing.latest most_time && leb d.timing.midpoints.total (most_total d) && is_price_sum d.timing.midpoints.total d.timing.midpoints.sum

unfoldable pub day_holds : Day → Bool
day_holds d = minutes_hold d && markets_hold d.markets && prices_hold d && fix_holds d && start_holds d && timing_holds d
