-- What the functions of this crate require, which figures within their limits have, and what they promise each other. A reader of the promises can skip this file.
use mathlib.Core.{Path.◌≡◌, Bool.Bool, Bool.true, Bool.cond}
use Rattle.std.specs.Prelude.{ℕ, ◌+◌, ◌-◌, ◌*◌, ◌<◌, ◌≤◌, ◌^◌}
use Rattle.funding.specs.Minute.{basis_of, most_minutes, Accrues}
use Rattle.funding.specs.Market.{midpoint}
use Rattle.settlement.specs.declared.FinalMinute.{FinalMinute}
use Rattle.calls.specs.{declared.Trade.Trade, Time.minute_length}
use Rattle.day.specs.{declared.Day.Day, Day.day_length, Day.in_last_minute, Day.minute_of}
use Rattle.day_effects.specs.Effects.{with_minutes, with_timing, stood_until}

-- n and the gross have room for a trade
pub record RoomForTrade (m : FinalMinute) (t : Trade) : Type 0 where
  pub contracts : m.contracts + t.quantity < 2 ^ 32
  pub gross : m.gross + t.quantity * t.price < 2 ^ 64

-- the standing market has stood up to this time, for which the total and the sum have room
pub record RoomForTime (d : Day) (time : ℕ) : Type 0 where
  pub forward : d.timing.latest ≤ time
  pub total : d.timing.midpoints.total + (time - d.timing.latest) < 2 ^ 32
  pub sum : d.timing.midpoints.sum + midpoint d.markets.standing * (time - d.timing.latest) < 2 ^ 64

-- a minute may end: k and S have room for it, a valid one has an index, and the standing market has stood up to its end
pub record Endable (d : Day) (valid : Bool) (u : ℕ) : Type 0 where
  pub ended : d.minutes.ended < most_minutes
  pub count : d.minutes.valid ≤ most_minutes
  pub present : valid ≡ true → 0 < u
  pub time : RoomForTime d minute_length
  pub accrues : valid ≡ true → Accrues d.minutes.weighted d.minutes.valid (basis_of (minute_of d.markets.minute d.trades.last u).F u)

-- a day as a minute ends, but for k, S, the ended minutes and the markets: its index and its midpoints change with the last minute alone
abbrev pub at_minute_end : Day → ℕ → Day
at_minute_end d u =
    with_timing (with_minutes d (record { ended = d.minutes.ended; valid = d.minutes.valid; weighted = d.minutes.weighted; index = cond (in_last_minute (day_length d) d.minutes.ended) u d.minutes.index }))
    (record { latest = d.timing.latest; midpoints = stood_until d minute_length })
