-- What a call leaves of a day within its limits, by the parts of the day.
--     markets_hold-each, minute_market_holds-as_minute     the markets
--     held-with_markets           a quote, a halt and a resume, with which the date has begun
--     held-timed                  a timed quote, likewise
--     held-with_fixed             a fix
--     held-with_length            a length of day, before the date has begun
--     trade_fields                what refusal 5 leaves of a trade's values
--     held-traded                 a trade, with which the date has begun
--     accrues                     what the weighted sum of a valid minute requires
--     held-minute_ended           a minute's end, with which the date has begun
-- Assumes nothing.
use mathlib.Core.Path.{◌≡◌, refl, ◌∙◌, ap}
use mathlib.Core.Bool.{Bool, true, false, not, cond, ◌&&◌, ◌||◌, or-true}
use mathlib.Core.List.{[], ◌∷◌}
use Prim.Native.Nat.{ℕ, ◌+◌, ◌*◌, ◌<◌, ◌≤◌}
use native.Mathlib.Nat.{mul-le-mul_left}
use native.Mathlib.Omega.{arith}
use lib.Dec.{ltb, eqb}
use lib.IntN.{nat_abs}
use borrow.Author.Tests.{eqb-true, eq-eqb, not-false}
use Rattle.std.proofs.lemmas.Bool.{and_parts, cond_both}
use Rattle.integers.proofs.Tests.{tests, either, ◌and◌, each, none}
use Rattle.prices.specs.Price.{least_price, largest_price, is_price, is_present, none_or_price}
use Rattle.funding.specs.Minute.{within_spread, futures_price, basis_of, accrued, weighted_limit, Accrues}
use Rattle.funding.specs.declared.Terms.{Terms}
use Rattle.prices.proofs.Prices.{none_or_price-price, price_to, the_price}
use Rattle.funding.proofs.Bounds.{basis_size, futures_is_price, accrued_size}
use Rattle.funding.specs.declared.market.Market.{Market}
use Rattle.calls.specs.declared.Trade.{Trade}
use Rattle.funding.specs.Market.{no_market, two_sided, as_minute, is_valid, market_holds, minute_market_holds}
use Rattle.calls.specs.Length.{full_day, is_length}
use Rattle.calls.specs.Time.{most_time, minute_length}
use Rattle.calls.specs.Trade.{most_quantity, is_simple, kind_outside, trade_outside}
use Rattle.day.specs.declared.Markets.{Markets}
use Rattle.day.specs.declared.Trades.{Trades}
use Rattle.day.specs.declared.Fixed.{Fixed}
use Rattle.day.specs.declared.Day.{Day}
use Rattle.day.specs.Day.{day_length, is_fixed, forbids_length, in_last_minute, minute_of}
use Rattle.day_effects.specs.Effects.{with_markets, with_minutes, with_trades, with_fixed, with_timing, begun, with_length, stood_until, timing_after_quote, timing_after_minute, traded, minute_ended, next_minute}
use Rattle.day_effects.proofs.Timing.{total_by, total_before, total_most, stood_total, stood_sum}
use Rattle.day.specs.Limits.{most_amount, markets_hold}
use Rattle.day.proofs.Held.{HeldDay, day_most, held_minute}

-- ---- the parts of a day

pub markets_hold-each : (standing minute : Market) → market_holds standing ≡ true → minute_market_holds minute ≡ true → markets_hold (record { standing = standing; minute = minute }) ≡ true
markets_hold-each standing minute s m = s and m

pub minute_market_holds-as_minute : (m other : Market) → market_holds m ≡ true → minute_market_holds other ≡ true → minute_market_holds (as_minute m other) ≡ true
minute_market_holds-as_minute m other hm ho =
    cond_both (two_sided m) _ _ (λ x. minute_market_holds x ≡ true) (λ e. hm and ap (λ t. t || (eqb m.bid 0 && eqb m.offer 0)) e) (λ e. ho)

-- a quote, a halt, a resume and a trade change no more than these, and with them the date has begun
held-begun : (d : Day) → HeldDay d → (m : Markets) → markets_hold m ≡ true → (t : Trades) → none_or_price t.last ≡ true → HeldDay (begun (with_trades (with_markets d m) t))
held-begun d h m hm t ht =
    record { length = h.length; ended = h.ended; valid = h.valid; weighted = h.weighted; markets = hm; last = ht; index = h.index; price = h.price; amount = h.amount; fix = h.fix; start = refl; latest = h.latest; total = h.total; sum = h.sum }

pub held-with_markets : (d : Day) → HeldDay d → (m : Markets) → markets_hold m ≡ true → HeldDay (begun (with_markets d m))
held-with_markets d h m hm = held-begun d h m hm d.trades h.last

pub held-with_fixed : (d : Day) → HeldDay d → (x : Fixed) → day_length d ≤ d.minutes.ended → none_or_price x.price ≡ true → nat_abs x.amount ≤ most_amount → HeldDay (with_fixed d x)
held-with_fixed d h x ended price amount =
    record {
      length = h.length;
      ended = h.ended;
      valid = h.valid;
      weighted = h.weighted;
      markets = h.markets;
      last = h.last;
      index = h.index;
      price = price;
      amount = amount;
      fix = ap (λ t. not (is_present x.price) || t) (eq-eqb d.minutes.ended (day_length d) (omega (arith, h.ended))) ∙ or-true (not (is_present x.price));
      start = h.start;
      latest = h.latest;
      total = h.total;
      sum = h.sum;
    }

-- no minute has ended, so that any length will do, and the day is not fixed
pub held-with_length : (d : Day) → HeldDay d → (l : ℕ) → forbids_length d ≡ false → is_length l ≡ true → HeldDay (begun (with_length d l))
held-with_length d h l late hl =
    let first = and_parts (eqb (day_length d) full_day) (eqb d.minutes.ended 0) (rw late at h.start) in
    let full : day_length d ≡ full_day = eqb-true (day_length d) full_day first.0 in
    let none-ended : d.minutes.ended ≡ 0 = eqb-true d.minutes.ended 0 first.1 in
    let none-yet : d.timing.midpoints.total ≤ 0 = total_before d h (omega arith) in
    let unfixed : not (is_fixed d) ≡ true = either (not (is_fixed d)) (eqb d.minutes.ended (day_length d)) h.fix (λ e. e) (λ e. absurd (omega tests)) in
    record {
      length = hl;
      ended = omega arith;
      valid = h.valid;
      weighted = h.weighted;
      markets = h.markets;
      last = h.last;
      index = h.index;
      price = h.price;
      amount = h.amount;
      fix = ap (λ x. x || eqb d.minutes.ended l) unfixed;
      start = refl;
      latest = h.latest;
      total = total_by (begun (with_length d l)) d.timing.midpoints.total (λ e. none-yet) (λ e. omega (arith, none-yet)) (omega (arith, none-yet));
      sum = h.sum;
    }

-- ---- a timed quote

module _ (d : Day) (h : HeldDay d) (m : Markets) (hm : markets_hold m ≡ true) (time : ℕ) (forward : d.timing.latest ≤ time) (most : time ≤ most_time) where
  pub held-timed : HeldDay (begun (with_timing (with_markets d m) (timing_after_quote d time)))
  held-timed =
      let after = begun (with_timing (with_markets d m) (timing_after_quote d time)) in
      let enough : time ≤ minute_length = omega arith in
      record {
        length = h.length;
        ended = h.ended;
        valid = h.valid;
        weighted = h.weighted;
        markets = hm;
        last = h.last;
        index = h.index;
        price = h.price;
        amount = h.amount;
        fix = h.fix;
        start = refl;
        latest = most;
        total = total_by after (stood_until d time).total
            (λ b. stood_total d h time forward enough 0 (λ w. absurd (omega arith)) (λ o. total_before d h b))
            (λ w. stood_total d h time forward enough time (λ w. omega arith) (λ o. absurd (o w)))
            (stood_total d h time forward enough minute_length (λ w. enough) (λ o. total_most d h));
        sum = stood_sum d h time forward enough;
      }

-- ---- a trade's values

pub record TradeFields (t : Trade) : Type 0 where
  pub quantity : t.quantity ≤ most_quantity
  pub price : is_price t.price ≡ true
  -- quantity × price
  pub low : least_price * t.quantity ≤ t.quantity * t.price
  pub high : t.quantity * t.price ≤ t.quantity * largest_price

pub trade_fields : (t : Trade) → trade_outside t ≡ false → TradeFields t
trade_fields t h =
    let v =
    none (eqb t.quantity 0) (ltb most_quantity t.quantity ∷ not (is_price t.price) ∷ kind_outside t.kind t ∷ []) h in
    let price = not-false (is_price t.price) (v 2) in
    let p = price_to t.price price in
    record { quantity = omega (tests, v 1); price = price; low = omega (arith, mul-le-mul_left t.quantity p.0); high = mul-le-mul_left t.quantity p.1 }

-- the last trade is the one before, or a price
pub held-traded : (d : Day) → HeldDay d → (t : Trade) → trade_outside t ≡ false → HeldDay (begun (with_trades d (traded d t)))
held-traded d h t field =
    let price = none_or_price-price t.price (trade_fields t field).price in
    let last = cond_both (is_simple t.kind) t.price d.trades.last (λ p. none_or_price p ≡ true) (λ e. price) (λ e. h.last) in
    held-begun d h d.markets h.markets (traded d t) last

-- ---- a minute's end

module _ (d : Day) (h : HeldDay d) (t : Terms) (halted : Bool) (u : ℕ) (before : d.minutes.ended < day_length d) (hu : none_or_price u ≡ true) where
  -- the minute's basis, and whether it is valid
  abbrev valid : Bool
  valid = is_valid t halted d.markets.minute u

  pub accrues : valid ≡ true → Accrues d.minutes.weighted d.minutes.valid (basis_of (minute_of d.markets.minute d.trades.last u).F u)
  accrues e =
      let m = d.markets.minute in
      let F = futures_price m.bid m.offer d.trades.last in
      let v = each (not halted) (two_sided m ∷ is_present u ∷ within_spread t m.bid m.offer ∷ []) e in
      let s = each (is_present m.bid) (is_present m.offer ∷ []) (v 1) in
      let sides = held_minute m (each (market_holds d.markets.standing) (minute_market_holds m ∷ []) h.markets 1) in
      let f = price_to F (futures_is_price m.bid m.offer d.trades.last (the_price m.bid (s 0) sides.bid) (the_price m.offer (s 1) sides.offer) h.last) in
      let i = price_to u (the_price u (v 2) hu) in
      record { sum = h.weighted; count = omega (arith, h.valid, day_most d h); size = basis_size F u i.0 i.1 f.0 f.1 }

  abbrev ended_day : Day
  ended_day = begun (with_timing (with_minutes (with_markets d (next_minute d.markets)) (minute_ended d valid u)) (timing_after_minute d))

  pub held-minute_ended : is_fixed d ≡ false → HeldDay ended_day
  held-minute_ended unfixed =
      let standing = each (market_holds d.markets.standing) (minute_market_holds d.markets.minute ∷ []) h.markets 0 in
      record {
        length = h.length;
        ended = omega arith;
        valid = (sums valid refl).0;
        weighted = (sums valid refl).1;
        markets = markets_hold-each d.markets.standing (as_minute d.markets.standing no_market) standing (minute_market_holds-as_minute d.markets.standing no_market standing refl);
        last = h.last;
        index = cond_both (in_last_minute (day_length d) d.minutes.ended) _ _ (λ p. none_or_price p ≡ true) (λ e. hu) (λ e. h.index);
        price = h.price;
        amount = h.amount;
        fix = ap (λ x. not x || eqb (d.minutes.ended + 1) (day_length d)) unfixed;
        start = refl;
        latest = omega arith;
        total = total_by ended_day (stood_until d minute_length).total
            (λ b. stood_total d h minute_length forward (omega arith) 0 (λ w. absurd (omega arith)) (λ o. total_before d h (omega arith)))
            (λ w. stood_total d h minute_length forward (omega arith) 0 (λ w'. absurd (omega arith)) (λ o. total_before d h (omega arith)))
            (stood_total d h minute_length forward (omega arith) minute_length (λ w. omega arith) (λ o. total_most d h));
        sum = stood_sum d h minute_length forward (omega arith);
      }
    where
      forward : d.timing.latest ≤ minute_length
      forward = omega (arith, h.latest)

      sums : (v : Bool) → valid ≡ v → (cond v (d.minutes.valid + 1) d.minutes.valid ≤ d.minutes.ended + 1) × (nat_abs (cond v (accrued d.minutes.weighted d.minutes.valid (basis_of (minute_of d.markets.minute d.trades.last u).F u)) d.minutes.weighted) ≤ weighted_limit (cond v (d.minutes.valid + 1) d.minutes.valid))
      sums true e = (omega (arith, h.valid), accrued_size d.minutes.weighted d.minutes.valid (basis_of (minute_of d.markets.minute d.trades.last u).F u) (accrues e))
      sums false e = (omega (arith, h.valid), h.weighted)
