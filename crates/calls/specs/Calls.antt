-- What is said of calls of one kind, and `other` of all others.
use Rattle.std.specs.Prelude.{ℕ}
use Rattle.funding.specs.declared.market.Market.{Market}
use Rattle.expiry.specs.declared.Month.{Month}
use Rattle.calls.specs.declared.{Trade.Trade, TimedQuote.TimedQuote, Call.Call}
use Rattle.calls.specs.declared.Call.TheVariants as call

module _ {A : Type 0} where
  -- one function of all kinds; the others are it with `other` in every place but one
  abbrev pub by_call : (Market → A) → (Trade → A) → A → A → (ℕ → A) → (ℕ → A) → A → (ℕ → A) → (TimedQuote → A) → (Month → A) → (ℕ → A) → Call → A
  by_call quote trade halt resume minute fix close length timed date final (call.Quote m) = quote m
  by_call quote trade halt resume minute fix close length timed date final (call.Trade t) = trade t
  by_call quote trade halt resume minute fix close length timed date final call.Halt = halt
  by_call quote trade halt resume minute fix close length timed date final call.Resume = resume
  by_call quote trade halt resume minute fix close length timed date final (call.MinuteEnd u) = minute u
  by_call quote trade halt resume minute fix close length timed date final (call.Fix set) = fix set
  by_call quote trade halt resume minute fix close length timed date final call.Close = close
  by_call quote trade halt resume minute fix close length timed date final (call.DayLength l) = length l
  by_call quote trade halt resume minute fix close length timed date final (call.TimedQuote q) = timed q
  by_call quote trade halt resume minute fix close length timed date final (call.FinalDate m) = date m
  by_call quote trade halt resume minute fix close length timed date final (call.FinalFix v) = final v

  -- a timed quote is a quote too
  abbrev pub on_quote : (Market → A) → A → Call → A
  on_quote f other = by_call f (λ t. other) other other (λ u. other) (λ set. other) other (λ l. other) (λ q. f q.market) (λ m. other) (λ v. other)

  abbrev pub on_trade : (Trade → A) → A → Call → A
  on_trade f other = by_call (λ m. other) f other other (λ u. other) (λ set. other) other (λ l. other) (λ q. other) (λ m. other) (λ v. other)

  abbrev pub on_halt : A → A → Call → A
  on_halt x other = by_call (λ m. other) (λ t. other) x other (λ u. other) (λ set. other) other (λ l. other) (λ q. other) (λ m. other) (λ v. other)

  abbrev pub on_resume : A → A → Call → A
  on_resume x other = by_call (λ m. other) (λ t. other) other x (λ u. other) (λ set. other) other (λ l. other) (λ q. other) (λ m. other) (λ v. other)

  abbrev pub on_minute_end : (ℕ → A) → A → Call → A
  on_minute_end f other = by_call (λ m. other) (λ t. other) other other f (λ set. other) other (λ l. other) (λ q. other) (λ m. other) (λ v. other)

  abbrev pub on_fix : (ℕ → A) → A → Call → A
  on_fix f other = by_call (λ m. other) (λ t. other) other other (λ u. other) f other (λ l. other) (λ q. other) (λ m. other) (λ v. other)

  abbrev pub on_close : A → A → Call → A
  on_close x other = by_call (λ m. other) (λ t. other) other other (λ u. other) (λ set. other) x (λ l. other) (λ q. other) (λ m. other) (λ v. other)

  abbrev pub on_day_length : (ℕ → A) → A → Call → A
  on_day_length f other = by_call (λ m. other) (λ t. other) other other (λ u. other) (λ set. other) other f (λ q. other) (λ m. other) (λ v. other)

  abbrev pub on_timed_quote : (TimedQuote → A) → A → Call → A
  on_timed_quote f other = by_call (λ m. other) (λ t. other) other other (λ u. other) (λ set. other) other (λ l. other) f (λ m. other) (λ v. other)

  abbrev pub on_final_date : (Month → A) → A → Call → A
  on_final_date f other = by_call (λ m. other) (λ t. other) other other (λ u. other) (λ set. other) other (λ l. other) (λ q. other) f (λ v. other)

  abbrev pub on_final_fix : (ℕ → A) → A → Call → A
  on_final_fix f other = by_call (λ m. other) (λ t. other) other other (λ u. other) (λ set. other) other (λ l. other) (λ q. other) (λ m. other) f
