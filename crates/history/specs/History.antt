-- Demand 3's figures, from the accepted calls alone: the market, the days, and each day's trades, minutes and fixes.
-- A history is the accepted calls with the latest first: `c ∷ h` is the call c after those of h. The trades of an accepted set are trades among them. Nothing here
-- reads a book.
use mathlib.Core.{Bool.Bool, Bool.true, Bool.false, Bool.cond, List.List, List.[], List.◌∷◌}
use Rattle.std.specs.Prelude.{ℕ, length, eqb}
use Rattle.integers.specs.{declared.Tie.Tie, declared.Tie.TheVariants.Even, Lists.keep_if}
use Rattle.funding.specs.{declared.Terms.Terms, Terms.standard_terms, Minute.Minute, declared.market.Market.Market, Market.no_market, Market.as_minute, Market.is_valid}
use Rattle.calls.specs.{declared.Trade.Trade, Trade.is_simple, declared.Call.Call, Calls.on_quote, Calls.on_trade, Calls.on_halt, Calls.on_resume, Calls.by_call, Calls.on_minute_end, Calls.on_fix, Calls.on_close, Calls.on_day_length, Calls.on_final_date, Calls.on_final_fix, Length.full_day, Length.final_day}
use Rattle.day.specs.Day.{in_last_minute, is_final, minute_of}

abbrev pub History : Type 0
History = List Call

-- ---- the open day's date

-- 02-1: a length of day "sets 1,320 or 1,140. Without it the day has 1,320"; 02-7: tag 11 "makes the date final with length 1,020"
unfoldable pub length_of : History → ℕ
length_of [] = full_day
length_of (c ∷ h) = on_day_length (λ l. l) (on_final_date (λ m. final_day) (on_close full_day (length_of h) c) c) c

-- 02-1: "whether such a call or record has come": a "quote, trade, halt, resume or minute end", a length of day, or a final date
unfoldable pub begun : History → Bool
begun [] = false
begun (c ∷ h) = by_call (λ m. true) (λ t. true) true true (λ u. true) (λ set. begun h) false (λ l. true) (λ q. true) (λ m. true) (λ v. begun h) c

-- whether the open day is a final date
abbrev pub is_final_date_on : History → Bool
is_final_date_on h = eqb (length_of h) final_day

-- 02-7: whether the final close has come
unfoldable pub expired : History → Bool
expired [] = false
expired (c ∷ h) = on_close (is_final_date_on h) (expired h) c

-- ---- the numbers in force on the open day: document 01's on every day

abbrev pub terms_of : History → Terms
terms_of h = standard_terms

abbrev pub tie_of : History → Tie
tie_of h = Even

-- ---- the market

-- 01: "a fresh book holds … no halt"; "A halt carries over"
unfoldable pub halted : History → Bool
halted [] = false
halted (c ∷ h) = on_halt true (on_resume false (halted h) c) c

-- 01: a quote "becomes the market"; "a halt removes the market"; at a close it starts empty
unfoldable pub market : History → Market
market [] = no_market
market (c ∷ h) = on_quote (λ m. m) (on_halt no_market (on_close no_market (market h) c) c) c

-- 01: "If both stand, it is also the minute's market"; a halt removes it; "The next minute's market is the standing market if two-sided, else none"
unfoldable pub minute_market : History → Market
minute_market [] = no_market
minute_market (c ∷ h) =
    on_quote (λ m. as_minute m (minute_market h)) (on_minute_end (λ u. as_minute (market h) no_market) (on_halt no_market (on_close no_market (minute_market h) c) c) c) c

-- 02-2: "only simple trades as the last trade price"; 0 without one today
unfoldable pub last : History → ℕ
last [] = 0
last (c ∷ h) = on_trade (λ t. cond (is_simple t.kind) t.price (last h)) (on_close 0 (last h) c) c

-- ---- the days

-- the closed days, the latest first: each is the history from the start up to its close, that close left off
unfoldable pub closings : History → List History
closings [] = []
closings (c ∷ h) = on_close (h ∷ closings h) (closings h) c

-- 01: "those after the last one are the open day's"
unfoldable pub today : History → History
today [] = []
today (c ∷ h) = on_close [] (c ∷ today h) c

-- the closed days' calls: the history up to the last close
unfoldable pub closed_part : List History → History
closed_part [] = []
closed_part (d ∷ ds) = d

-- ---- their trades, minutes and fixes

-- all trades from the start
unfoldable pub trades : History → List Trade
trades [] = []
trades (c ∷ h) = on_trade (λ t. t ∷ trades h) (trades h) c

-- the moment of a call: the value that it gives, and the calls before it
pub record Moment : Type 0 where
  pub value : ℕ
  pub before : History

-- the open day's minute ends, with their indexes
unfoldable pub minute_ends : History → List Moment
minute_ends [] = []
minute_ends (c ∷ h) = on_minute_end (λ u. record { value = u; before = h } ∷ minute_ends h) (on_close [] (minute_ends h) c) c

-- a fix: whether it is that of a final date, the set price or the hourly index value that it gives, and the calls before it
pub record FixMoment : Type 0 where
  pub final : Bool
  pub value : ℕ
  pub before : History

-- the open day's fixes
unfoldable pub fixes : History → List FixMoment
fixes [] = []
fixes (c ∷ h) =
    on_fix (λ set. record { final = false; value = set; before = h } ∷ fixes h)
    (on_final_fix (λ v. record { final = true; value = v; before = h } ∷ fixes h) (on_close [] (fixes h) c) c) c

-- the open day's ended minutes
abbrev pub minutes : History → ℕ
minutes h = length (minute_ends h)

-- f of the day's last minute end, `none` before it
unfoldable pub at_last_end : {A : Type 0} → A → (Moment → A) → List Moment → A
at_last_end none f [] = none
at_last_end none f (m ∷ ms) = cond (in_last_minute (length_of m.before) (length ms)) (f m) (at_last_end none f ms)

-- 01: "the minute is valid when the book isn't halted, the minute's market (b, a) exists, u is not 0, and" its spread is within the limit
abbrev pub ends_valid : Moment → Bool
ends_valid m = is_valid (terms_of m.before) (halted m.before) (minute_market m.before) m.value

-- the valid ones of these minute ends: their futures prices and indexes
unfoldable pub valid_of : List Moment → List Minute
valid_of [] = []
valid_of (m ∷ ms) = keep_if (ends_valid m) (minute_of (minute_market m.before) (last m.before) m.value) (valid_of ms)

-- the open day's valid minutes
abbrev pub valid_minutes : History → List Minute
valid_minutes h = valid_of (minute_ends h)

-- 01: the open day's "final-minute kind 0 trades"
unfoldable pub final_trades : History → List Trade
final_trades [] = []
final_trades (c ∷ h) = on_trade (λ t. keep_if (is_final (length_of h) (minutes h) t) t (final_trades h)) (on_close [] (final_trades h) c) c
