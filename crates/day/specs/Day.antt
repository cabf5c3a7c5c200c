-- A trade date by its parts, the numbers in force on it, and the rules of its minutes.
use Rattle.std.specs.Prelude.{Bool, false, not, cond, ◌&&◌, ◌||◌, ℕ, ◌+◌, ◌*◌}
use lib.{Dec.leb, Dec.ltb, Dec.eqb, IntN.pos}
use Rattle.prices.specs.Price.{is_present}
use Rattle.funding.specs.Minute.{Minute, futures_price}
use Rattle.settlement.specs.declared.{FinalMinute.FinalMinute, Midpoints.Midpoints}
use Rattle.funding.specs.{declared.market.Market.Market, Market.no_market, Market.two_sided, Market.midpoint}
use Rattle.calls.specs.{declared.Trade.Trade, Trade.is_simple, Length.full_day, Length.final_day}
use Rattle.day.specs.declared.{Day.Day, Markets.Markets}

-- its minutes: 02-1, "the last minute in document 01 is the day's own everywhere"
abbrev pub day_length : Day → ℕ
day_length d = d.session.length

-- whether it is a final date: 02-7, "a third length, which a book holds exactly on a final date"
abbrev pub is_final_date : Day → Bool
is_final_date d = eqb (day_length d) final_day

-- ---- its parts

abbrev pub no_markets : Markets
no_markets = record { standing = no_market; minute = no_market }

abbrev pub no_trades : FinalMinute
no_trades = record { contracts = 0; gross = 0 }

abbrev pub no_midpoints : Midpoints
no_midpoints = record { total = 0; sum = 0 }

-- 01: "the day's figures …, market and last trade start empty"; 02-1: "Without it the day has 1,320"; 02-4: a close "sets that time to 0"
abbrev pub empty_day : Day
empty_day = record {
  markets = no_markets;
  minutes = record { ended = 0; valid = 0; weighted = pos 0; index = 0 };
  trades = record { last = 0; settling = no_trades };
  fixed = record { price = 0; amount = pos 0 };
  session = record { length = full_day; begun = false };
  timing = record { latest = 0; midpoints = no_midpoints };
}

-- 01: "A fixed price is nonzero exactly when the day is fixed"
abbrev pub is_fixed : Day → Bool
is_fixed d = is_present d.fixed.price

-- ---- the rules of its minutes

-- after so many ended minutes the last one of a day of this length is running
abbrev pub in_last_minute : ℕ → ℕ → Bool
in_last_minute length ended = eqb (ended + 1) length

-- 01: "A kind 0 trade after minute end 1,319 and before 1,320", on a full day
abbrev pub is_final : ℕ → ℕ → Trade → Bool
is_final length ended t = in_last_minute length ended && is_simple t.kind

-- 01: "adds its quantity to n and quantity × price to the gross"
abbrev pub with_trade : FinalMinute → Trade → FinalMinute
with_trade m t = record { contracts = m.contracts + t.quantity; gross = m.gross + t.quantity * t.price }

-- 02-4: "each two-sided market weighs its midpoint by the milliseconds it stood"
abbrev pub with_market : Midpoints → Market → ℕ → Midpoints
with_market m market milliseconds =
    cond (two_sided market) (record { total = m.total + milliseconds; sum = m.sum + midpoint market * milliseconds }) m

-- the minute that ends with this market, last trade and index
abbrev pub minute_of : Market → ℕ → ℕ → Minute
minute_of m last u = record { F = futures_price m.bid m.offer last; u = u }

-- 3: "a minute end after" the last "or after a fix; a fix before" it "or twice"
abbrev pub forbids_minute_end : Day → Bool
forbids_minute_end d = leb (day_length d) d.minutes.ended || is_fixed d

abbrev pub forbids_any_fix : Day → Bool
forbids_any_fix d = ltb d.minutes.ended (day_length d) || is_fixed d

-- 3: 02-7, "a fix of the wrong kind", tag 12 being "the only fix on" a final date
abbrev pub forbids_fix : Day → Bool
forbids_fix d = is_final_date d || forbids_any_fix d

abbrev pub forbids_final_fix : Day → Bool
forbids_final_fix d = not (is_final_date d) || forbids_any_fix d

-- 3: 02-1, "a late or second record": the date has begun; 02-7, "a tag 11 out of place", which "may come where tag 8 may, one of the two per date"
abbrev pub forbids_length : Day → Bool
forbids_length d = d.session.begun
