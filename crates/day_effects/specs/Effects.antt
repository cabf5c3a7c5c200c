-- What quotes, timed or not, trades, minute ends and a length do to the day: document 01, "A trade date, call by call".
use Rattle.std.specs.Prelude.{Bool, true, cond, ℕ, ◌+◌, ◌-◌, ℤ}
use Rattle.funding.specs.Minute.{basis_of, accrued}
use Rattle.funding.specs.{declared.market.Market.Market, Market.no_market, Market.as_minute}
use Rattle.settlement.specs.declared.Midpoints.{Midpoints}
use Rattle.calls.specs.{declared.Trade.Trade, Trade.is_simple, Time.minute_length}
use Rattle.day.specs.{declared.Minutes.Minutes, declared.Markets.Markets, declared.Trades.Trades, declared.Fixed.Fixed, declared.Session.Session, declared.Timing.Timing, declared.Day.Day, Day.day_length, Day.in_last_minute, Day.is_final, Day.with_trade, Day.with_market, Day.minute_of}

-- ---- a part of a day, changed

abbrev pub with_markets : Day → Markets → Day
with_markets d m = record { markets = m; minutes = d.minutes; trades = d.trades; fixed = d.fixed; session = d.session; timing = d.timing }

abbrev pub with_minutes : Day → Minutes → Day
with_minutes d m = record { markets = d.markets; minutes = m; trades = d.trades; fixed = d.fixed; session = d.session; timing = d.timing }

abbrev pub with_trades : Day → Trades → Day
with_trades d t = record { markets = d.markets; minutes = d.minutes; trades = t; fixed = d.fixed; session = d.session; timing = d.timing }

abbrev pub with_fixed : Day → Fixed → Day
with_fixed d x = record { markets = d.markets; minutes = d.minutes; trades = d.trades; fixed = x; session = d.session; timing = d.timing }

abbrev pub with_session : Day → Session → Day
with_session d s = record { markets = d.markets; minutes = d.minutes; trades = d.trades; fixed = d.fixed; session = s; timing = d.timing }

abbrev pub with_timing : Day → Timing → Day
with_timing d t = record { markets = d.markets; minutes = d.minutes; trades = d.trades; fixed = d.fixed; session = d.session; timing = t }

-- ---- the date

-- 02-1: "The book keeps … whether such a call or record has come": one has
abbrev pub begun : Day → Day
begun d = with_session d (record { length = d.session.length; begun = true })

-- 02-1: a length of day "sets 1,320 or 1,140"; 02-7: a tag 11 "makes the date final with length 1,020"
abbrev pub with_length : Day → ℕ → Day
with_length d minutes = with_session d (record { length = minutes; begun = d.session.begun })

-- ---- quotes, trades and minute ends

-- 01: "becomes the market. If both stand, it is also the minute's market"
abbrev pub quoted : Markets → Market → Markets
quoted m q = record { standing = q; minute = as_minute q m.minute }

-- 02-4: "Over the last minute, each two-sided market weighs its midpoint by the milliseconds it stood, from minute start or its own time": the
-- standing market, which has stood since the latest time, up to this one. "Nothing after the last minute end adds time"
abbrev pub stood_until : Day → ℕ → Midpoints
stood_until d time =
    cond (in_last_minute (day_length d) d.minutes.ended) (with_market d.timing.midpoints d.markets.standing (time - d.timing.latest)) d.timing.midpoints

-- 02-4: a timed quote: the market is "replaced", and its time is the latest
abbrev pub timing_after_quote : Day → ℕ → Timing
timing_after_quote d time = record { latest = time; midpoints = stood_until d time }

-- 02-4: "each minute end … sets that time to 0"; the standing market stood "until … 60,000"
abbrev pub timing_after_minute : Day → Timing
timing_after_minute d = record { latest = 0; midpoints = stood_until d minute_length }

-- 02-2: "only simple trades as the last trade price"; 01: a kind 0 trade of the last minute counts towards the settlement price
abbrev pub traded : Day → Trade → Trades
traded d t = record {
  last = cond (is_simple t.kind) t.price d.trades.last;
  settling = cond (is_final (day_length d) d.minutes.ended t) (with_trade d.trades.settling t) d.trades.settling;
}

-- S after a minute with this index
abbrev pub weighted_after : Day → Bool → ℕ → ℤ
weighted_after d valid u =
    cond valid (accrued d.minutes.weighted d.minutes.valid (basis_of (minute_of d.markets.minute d.trades.last u).F u)) d.minutes.weighted

-- 01: "k rises by 1; S rises by k × basis. An invalid minute changes neither. Ended minutes rise by 1 in both cases. … The u of" the last minute "is the day's index"
abbrev pub minute_ended : Day → Bool → ℕ → Minutes
minute_ended d valid u = record {
  ended = d.minutes.ended + 1;
  valid = cond valid (d.minutes.valid + 1) d.minutes.valid;
  weighted = weighted_after d valid u;
  index = cond (in_last_minute (day_length d) d.minutes.ended) u d.minutes.index;
}

-- 01: "The next minute's market is the standing market if two-sided, else none"
abbrev pub next_minute : Markets → Markets
next_minute m = record { standing = m.standing; minute = as_minute m.standing no_market }
