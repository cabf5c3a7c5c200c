-- The number of each refusal; refusals 3 to 9, 11, 12 and 14 of a call, in checking order: a number comes if its sentence is met, and only then.
use mathlib.Core.{Path.◌≡◌, Bool.Bool, Bool.false, Bool.not, Bool.cond, Bool.◌&&◌, Bool.◌||◌, List.List, List.[], List.◌∷◌}
use Rattle.std.specs.Prelude.{ℕ, ltb, Result, Ok, Err}
use Rattle.prices.specs.Price.{is_present, is_price, none_or_price, none_or_ticked}
use Rattle.expiry.specs.Table.{is_in_table}
use Rattle.refusals.specs.declared.Refusal.{Refusal}
use Rattle.refusals.specs.declared.Refusal.TheVariants as refusal
use Rattle.funding.specs.{declared.market.Market.Market, Market.uncrossed}
use Rattle.calls.specs.{declared.Call.Call, declared.TimedQuote.TimedQuote, Calls.on_quote, Calls.on_trade, Calls.on_halt, Calls.on_resume, Calls.on_minute_end, Calls.on_fix, Calls.on_day_length, Calls.on_timed_quote, Calls.on_final_date, Calls.on_final_fix, Length.is_ordinary_length, Time.most_time, Trade.trade_outside}

-- the number of each refusal in documents 01 and 02
abbrev pub number : Refusal → ℕ
number refusal.Record = 1
number refusal.Limits = 2
number refusal.Day = 3
number refusal.Halt = 4
number refusal.Field = 5
number refusal.Crossed = 6
number refusal.Volume = 7
number refusal.Position = 8
number refusal.Unpriced = 9
number refusal.Lists = 10
number refusal.Time = 11
number refusal.Account = 12
number refusal.SetLength = 13
number refusal.Month = 14

-- no two refusals have one number, so that a number says which one it is: proved in proofs/Numbers.antt
abbrev pub OwnNumbers : Type 0
OwnNumbers = (r s : Refusal) → number r ≡ number s → r ≡ s

-- the number that an answer stands for: 01, "A refused call returns its number", 0 where it is accepted
abbrev pub number_of : {A : Type 0} → Result A Refusal → ℕ
number_of (Ok a) = 0
number_of (Err r) = number r

-- 01: "closed days 0 to 2,600"
abbrev pub most_days : ℕ
most_days = 2600

-- 4: "A trade, quote or halt comes while halted, or a resume while not"
abbrev pub halt_forbids : Bool → Call → Bool
halt_forbids halted c = on_trade (λ t. halted) (on_quote (λ m. halted) (on_halt halted (on_resume (not halted) false c) c) c) c

-- 14: 02-7, "A month outside the table"
abbrev pub outside_table : Call → Bool
outside_table = on_final_date (λ m. not (is_in_table m)) false

-- 5: "a nonzero quote side … not ticked"
abbrev pub sides_outside : Market → Bool
sides_outside m = not (none_or_ticked m.bid && none_or_ticked m.offer)

-- 02-4: "A time above 59,999 is refused by 5"
abbrev pub timed_quote_outside : TimedQuote → Bool
timed_quote_outside q = ltb most_time q.time || sides_outside q.market

-- 5: "A value is outside its field: …; an index or set price neither 0 nor a price"; 02-1: "Any other length is refused by 5"; 02-7:
-- "an hourly value that is no price is 5"
abbrev pub outside_field : Call → Bool
outside_field c =
    on_timed_quote timed_quote_outside
    (on_quote sides_outside
    (on_trade trade_outside
    (on_minute_end (λ u. not (none_or_price u)) (on_fix (λ set. not (none_or_price set)) (on_day_length (λ l. not (is_ordinary_length l)) (on_final_fix (λ v. not (is_price v)) false c) c) c) c) c) c) c

-- 11: 02-4, a time "that runs back within its minute (all after the last minute end is one)", where this is the latest time given in it
abbrev pub runs_back : ℕ → Call → Bool
runs_back latest = on_timed_quote (λ q. ltb q.time latest) false

-- 6: "Both quote sides stand and the bid isn't below the offer"
abbrev pub crossed : Call → Bool
crossed = on_quote (λ m. not (uncrossed m)) false

-- 9: "At a fix, no rule gives a settlement price": the price that it finds is 0. 02-4: "9 now means that all four rules gave none"
abbrev pub unpriced : ℕ → Call → Bool
unpriced price = on_fix (λ set. not (is_present price)) false

-- what the account columns say of a call: whether it names an account that isn't there, and sentences 7 and 8
pub record Accounts : Type 0 where
  pub missing : Bool
  pub volume : Bool
  pub position : Bool

abbrev pub no_accounts : Accounts
no_accounts = record { missing = false; volume = false; position = false }

-- The sentences in checking order, each with its number, by whether the day doesn't allow the call, the halt, the latest time given in
-- the minute, the price that a fix finds, and the accounts. 02-4: 11 is "checked right after 5"; 02-5: "An account above 1,023 meets
-- the new refusal 12, checked just before 7"; 02-7: 14 is "checked after 4".
abbrev pub sentences : Bool → Bool → ℕ → ℕ → Call → Accounts → List (ℕ × Bool)
sentences forbidden halted latest price c a =
    (3, forbidden)
    ∷ (4, halt_forbids halted c)
    ∷ (14, outside_table c)
    ∷ (5, outside_field c)
    ∷ (11, runs_back latest c)
    ∷ (6, crossed c)
    ∷ (12, a.missing)
    ∷ (7, a.volume)
    ∷ (8, a.position)
    ∷ (9, unpriced price c)
    ∷ []

-- the number of the first sentence of a list that is met, 0 without one
abbrev pub first_met : List (ℕ × Bool) → ℕ
first_met [] = 0
first_met (s ∷ rest) = cond s.1 s.0 (first_met rest)

-- the number of a call's refusal where its accounts give none
abbrev pub refusal_by : Bool → Bool → ℕ → ℕ → Call → ℕ
refusal_by forbidden halted latest price c = first_met (sentences forbidden halted latest price c no_accounts)

-- ---- what the private function promises: the sentences that calls of most kinds can meet
abbrev pub first_sentences : Bool → Bool → Bool → Result Unit Refusal
first_sentences forbidden stopped outside = cond forbidden (Err refusal.Day) (cond stopped (Err refusal.Halt) (cond outside (Err refusal.Field) (Ok tt)))
