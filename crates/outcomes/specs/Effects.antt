-- What an accepted call does to the figures: document 01, "A trade date, call by call".
use Rattle.std.specs.Prelude.{Bool, true, false, ℕ, ◌+◌, Option, None, Some}
use Rattle.day.specs.{declared.Fixed.Fixed, declared.Day.Day, Day.is_final_date, Day.no_markets, Day.empty_day}
use Rattle.day_effects.specs.Effects.{with_markets, with_minutes, with_trades, with_fixed, with_timing, quoted, timing_after_quote, traded, minute_ended, timing_after_minute, next_minute, begun, with_length}
use Rattle.figures.specs.{declared.Figures.Figures, declared.Fixing.Fixing, Figures.terms_on, Fixing.ordinary_fixing, Fixing.final_fixing}
use Rattle.calls.specs.declared.Call.TheVariants as call
use Rattle.funding.specs.Market.{is_valid}
use Rattle.expiry.specs.Table.{last_friday}
use Rattle.calls.specs.{declared.Call.Call, Calls.on_fix, Calls.on_final_date, Calls.on_final_fix, Length.final_day}

abbrev pub with_day : Figures → Bool → Day → Figures
with_day f halted d = record { size = f.size; closed = f.closed; halted = halted; expired = f.expired; previous = f.previous; day = d }

-- 02-1: with "a date's first accepted quote, trade, halt, resume or minute end", with a length of day, and with a final date, the date has begun
abbrev pub with_begun_day : Figures → Bool → Day → Figures
with_begun_day f halted d = with_day f halted (begun d)

-- ---- a fix and a close

-- 01: "The day is then fixed, with P as its fixed price and this as its fixed amount"
abbrev pub fixed_at : Fixing → Fixed
fixed_at x = record { price = x.price; amount = x.amount }

-- 01: "P and the day's index become the previous ones, … closed days rise by 1, and the day's figures … start empty. A halt carries over";
-- 02-7: after the final close "the book then accepts reports only"
abbrev pub closed_figures : Figures → Figures
closed_figures f = record {
  size = f.size;
  closed = f.closed + 1;
  halted = f.halted;
  expired = is_final_date f.day;
  previous = record { price = f.day.fixed.price; index = f.day.minutes.index };
  day = empty_day;
}

-- ---- the figures after an accepted call

-- 01: "a halt removes the market and the minute's market. Resuming restores neither"
unfoldable pub figures_after : Figures → Call → Figures
figures_after f (call.Quote m) = with_begun_day f f.halted (with_markets f.day (quoted f.day.markets m))
figures_after f (call.Trade t) = with_begun_day f f.halted (with_trades f.day (traded f.day t))
figures_after f call.Halt = with_begun_day f true (with_markets f.day no_markets)
figures_after f call.Resume = with_begun_day f false f.day
figures_after f (call.MinuteEnd u) =
    let valid = is_valid (terms_on f) f.halted f.day.markets.minute u in
    with_begun_day f f.halted (with_timing (with_minutes (with_markets f.day (next_minute f.day.markets)) (minute_ended f.day valid u)) (timing_after_minute f.day))
figures_after f (call.Fix set) = with_day f f.halted (with_fixed f.day (fixed_at (ordinary_fixing f set)))
figures_after f call.Close = closed_figures f
figures_after f (call.DayLength l) = with_begun_day f f.halted (with_length f.day l)
figures_after f (call.TimedQuote q) = with_begun_day f f.halted (with_timing (with_markets f.day (quoted f.day.markets q.market)) (timing_after_quote f.day q.time))
figures_after f (call.FinalDate m) = with_begun_day f f.halted (with_length f.day final_day)
figures_after f (call.FinalFix v) = with_day f f.halted (with_fixed f.day (fixed_at (final_fixing f v)))

-- the fix in what an accepted call found
unfoldable pub fixing_of : Figures → Call → Option Fixing
fixing_of f c = on_fix (λ set. Some (ordinary_fixing f set)) (on_final_fix (λ v. Some (final_fixing f v)) None c) c

-- 02-7: "prints `final` and the Friday's day", which only a final date does
abbrev pub friday_of : Call → Option ℕ
friday_of = on_final_date (λ m. Some (last_friday m)) None
