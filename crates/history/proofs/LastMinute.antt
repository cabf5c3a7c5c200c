-- The midpoints of a book, and those of its history: what each call adds.
--     midpoints_from          a book's midpoints
--     after_quote, after_halt     a quote without a time and a halt add nothing
--     after_timed             a timed quote adds what the standing market stood since the latest time
--     after_minute            a minute's end adds what it stood up to 60,000
--     after_length, after_final_date     a length of day and a final date come before the last minute
--     at_fix_time             after the last minute, the book's midpoints are those of the whole of it
-- Assumes nothing.
use mathlib.Core.Path.{◌≡◌, refl, sym, ◌∙◌, ap}
use mathlib.Core.Bool.{Bool, true, false, cond}
use mathlib.Core.List.{List, [], ◌∷◌}
use Prim.Native.Nat.{ℕ, suc, ◌+◌, ◌-◌, ◌*◌, ◌<◌, ◌≤◌}
use native.Mathlib.Omega.{arith}
use lib.Dec.{leb, eqb}
use lib.ListN.{length}
use borrow.Author.Tests.{eqb-true, eqb-false, le-leb, lt-leb}
use Rattle.integers.specs.Lists.{keep_if, sum_count}
use Rattle.integers.proofs.Tests.{tests, either}
use Rattle.funding.specs.declared.market.Market.{Market}
use Rattle.funding.specs.Market.{two_sided, midpoint}
use Rattle.settlement.specs.declared.Midpoints.{Midpoints}
use Rattle.calls.specs.declared.Call.TheVariants as call
use Rattle.expiry.specs.declared.Month.{Month}
use Rattle.calls.specs.declared.TimedQuote.{TimedQuote}
use Rattle.calls.specs.Length.{full_day, short_day, final_day, is_ordinary_length, is_length}
use Rattle.calls.specs.Time.{minute_length}
use Rattle.day.specs.Day.{in_last_minute, no_midpoints, with_market}
use Rattle.history.specs.History.{History, length_of, market, minutes, minute_ends, at_last_end}
use Rattle.history.specs.LastMinute.{latest, MarketFrom, minute_markets, MarketTime, stood, weighed, midpoints_on}

-- ---- markets that stood

-- one market more
weighed_more : (m : Market) (t : ℕ) (xs : List MarketTime) → weighed (keep_if (two_sided m) (record { market = m; milliseconds = t }) xs) ≡ with_market (weighed xs) m t
unfolding sum_count
weighed_more m t xs = go (two_sided m)
  where
    go : (b : Bool) → weighed (keep_if b (record { market = m; milliseconds = t }) xs) ≡ cond b (record { total = (weighed xs).total + t; sum = (weighed xs).sum + midpoint m * t }) (weighed xs)
    go true = refl
    go false = refl

-- a market that stood from a time up to that time
no_time : (x : Midpoints) (m : Market) (t : ℕ) → with_market x m (t - t) ≡ x
no_time x m t = go (two_sided m) (t - t) (omega arith)
  where
    go : (b : Bool) (z : ℕ) → z ≡ 0 → cond b (record { total = x.total + z; sum = x.sum + midpoint m * z }) x ≡ x
    go true z e =
        let total : x.total + z ≡ x.total = omega (arith, e) in
        let sum : x.sum + midpoint m * z ≡ x.sum = rw e (omega arith) in
        λ i. record { total = total i; sum = sum i }
    go false z e = refl

-- the standing market is the latest of the minute's, from the latest time
record Head (h : History) : Type 0 where
  rest : List MarketFrom
  is : minute_markets h ≡ record { market = market h; from = latest h } ∷ rest

head : (h : History) → Head h
unfolding minute_markets market latest
head [] = record { rest = []; is = refl }
head (call.Quote m ∷ h) = record { rest = minute_markets h; is = refl }
head (call.Trade t ∷ h) = record { rest = (head h).rest; is = (head h).is }
head (call.Halt ∷ h) = record { rest = minute_markets h; is = refl }
head (call.Resume ∷ h) = record { rest = (head h).rest; is = (head h).is }
head (call.MinuteEnd u ∷ h) = record { rest = []; is = refl }
head (call.Fix set ∷ h) = record { rest = (head h).rest; is = (head h).is }
head (call.Close ∷ h) = record { rest = []; is = refl }
head (call.DayLength l ∷ h) = record { rest = (head h).rest; is = (head h).is }
head (call.TimedQuote q ∷ h) = record { rest = minute_markets h; is = refl }
head (call.FinalDate m ∷ h) = record { rest = (head h).rest; is = (head h).is }
head (call.FinalFix v ∷ h) = record { rest = (head h).rest; is = (head h).is }

-- the minute's midpoints up to the latest time
abbrev running : History → Midpoints
running h = weighed (stood (latest h) (minute_markets h))

-- and up to a later one
up_to : (h : History) (until : ℕ) → weighed (stood until (minute_markets h)) ≡ with_market (running h) (market h) (until - latest h)
unfolding stood
up_to h until =
    let earlier = stood (latest h) (head h).rest in
    let from-here : (t : ℕ) → weighed (stood t (minute_markets h)) ≡ with_market (weighed earlier) (market h) (t - latest h) =
    λ t. ap (λ (l : List MarketFrom). weighed (stood t l)) (head h).is ∙ weighed_more (market h) (t - latest h) earlier in
    let before : running h ≡ weighed earlier = from-here (latest h) ∙ no_time (weighed earlier) (market h) (latest h) in
    from-here until ∙ ap (λ x. with_market x (market h) (until - latest h)) (sym before)

-- ---- a book's midpoints

-- those of a whole last minute, none before its end
abbrev whole_minute : History → Midpoints
whole_minute h = cond (leb (length_of h) (minutes h)) (midpoints_on h) no_midpoints

-- those of the last minute, up to the latest time while it runs and up to its end after it
abbrev pub midpoints_from : History → Midpoints
midpoints_from h = cond (in_last_minute (length_of h) (minutes h)) (running h) (whole_minute h)

-- what the standing market adds up to a time, in the last minute
abbrev pub stood_to : History → ℕ → Midpoints
stood_to h time = cond (in_last_minute (length_of h) (minutes h)) (with_market (midpoints_from h) (market h) (time - latest h)) (midpoints_from h)

pub after_quote : (h : History) (m : Market) → midpoints_from h ≡ midpoints_from (call.Quote m ∷ h)
unfolding length_of minute_ends latest minute_markets stood
after_quote h m =
    ap (λ v. cond (in_last_minute (length_of h) (minutes h)) v (whole_minute h))
    (sym (weighed_more m (latest h - latest h) (stood (latest h) (minute_markets h)) ∙ no_time (running h) m (latest h)))

pub after_halt : (h : History) → midpoints_from h ≡ midpoints_from (call.Halt ∷ h)
unfolding length_of minute_ends latest minute_markets stood
after_halt h = refl

pub after_timed : (h : History) (q : TimedQuote) → stood_to h q.time ≡ midpoints_from (call.TimedQuote q ∷ h)
unfolding length_of minute_ends latest minute_markets stood
after_timed h q = go (in_last_minute (length_of h) (minutes h))
  where
    added : with_market (running h) (market h) (q.time - latest h) ≡ running (call.TimedQuote q ∷ h)
    added = sym (weighed_more q.market (q.time - q.time) (stood q.time (minute_markets h)) ∙ no_time (weighed (stood q.time (minute_markets h))) q.market q.time ∙ up_to h q.time)

    go : (b : Bool) → cond b (with_market (cond b (running h) (whole_minute h)) (market h) (q.time - latest h)) (cond b (running h) (whole_minute h)) ≡ cond b (running (call.TimedQuote q ∷ h)) (whole_minute h)
    go true = added
    go false = refl

pub after_minute : (h : History) (u : ℕ) → minutes h < length_of h → stood_to h minute_length ≡ midpoints_from (call.MinuteEnd u ∷ h)
unfolding length_of minute_ends latest minute_markets stood at_last_end sum_count
after_minute h u before = go (in_last_minute (length_of h) (minutes h)) refl (in_last_minute (length_of h) (suc (minutes h))) (leb (length_of h) (suc (minutes h))) refl refl
  where
    new : running (call.MinuteEnd u ∷ h) ≡ no_midpoints
    new = weighed_more (market h) 0 [] ∙ no_time no_midpoints (market h) 0

    -- no minute that has ended is the last
    none : whole_minute h ≡ no_midpoints
    none = ap (λ (over : Bool). cond over (midpoints_on h) no_midpoints) (lt-leb (length_of h) (minutes h) before)

    go : (last : Bool) → in_last_minute (length_of h) (minutes h) ≡ last
        → (next over : Bool) → in_last_minute (length_of h) (suc (minutes h)) ≡ next → leb (length_of h) (suc (minutes h)) ≡ over
        → let b = cond last (running h) (whole_minute h) in
        cond last (with_market b (market h) (minute_length - latest h)) b
        ≡ cond next (running (call.MinuteEnd u ∷ h)) (cond over (weighed (cond last (stood minute_length (minute_markets h)) (at_last_end [] (λ m. stood minute_length (minute_markets m.before)) (minute_ends h)))) no_midpoints)
    go true l true over n o = absurd (omega tests)
    go true l false true n o = sym (up_to h minute_length)
    go true l false false n o = absurd (omega tests)
    go false l next true n o = absurd (eqb-false _ _ l (omega tests))
    go false l true false n o = none ∙ sym new
    go false l false false n o = none

-- where no minute has ended, there are none
before_any : (h : History) → is_length (length_of h) ≡ true → minutes h ≡ 0 → midpoints_from h ≡ no_midpoints
before_any h l e =
    either (is_ordinary_length (length_of h)) (eqb (length_of h) final_day) l
    (λ o. either (eqb (length_of h) full_day) (eqb (length_of h) short_day) o (λ k. by full_day (eqb-true _ _ k) refl refl) (λ k. by short_day (eqb-true _ _ k) refl refl))
    (λ k. by final_day (eqb-true _ _ k) refl refl)
  where
    by : (length : ℕ) → length_of h ≡ length → in_last_minute length 0 ≡ false → leb length 0 ≡ false → midpoints_from h ≡ no_midpoints
    by length k last over = rw (k, e, last, over)

pub after_length : (h : History) (l : ℕ) → is_length (length_of h) ≡ true → is_length l ≡ true → minutes h ≡ 0 → midpoints_from h ≡ midpoints_from (call.DayLength l ∷ h)
unfolding length_of minute_ends
after_length h l before after e = before_any h before e ∙ sym (before_any (call.DayLength l ∷ h) after e)

pub after_final_date : (h : History) (m : Month) → is_length (length_of h) ≡ true → minutes h ≡ 0 → midpoints_from h ≡ midpoints_from (call.FinalDate m ∷ h)
unfolding length_of minute_ends
after_final_date h m before e = before_any h before e ∙ sym (before_any (call.FinalDate m ∷ h) refl e)

pub at_fix_time : (h : History) → length_of h ≤ minutes h → midpoints_from h ≡ midpoints_on h
at_fix_time h over = go (in_last_minute (length_of h) (minutes h)) refl
  where
    go : (last : Bool) → in_last_minute (length_of h) (minutes h) ≡ last → cond last (running h) (whole_minute h) ≡ midpoints_on h
    go true l = absurd (omega tests)
    go false l = ap (λ (o : Bool). cond o (midpoints_on h) no_midpoints) (le-leb (length_of h) (minutes h) over)
