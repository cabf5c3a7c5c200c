-- What a day within its limits holds, as facts that `omega` reads, and back: a day that holds no more is within its limits.
--     held_day, day_holds-held         likewise for a final minute
--     empty_day-held                   a new day
--     day_most                    its minutes
--     held_market                 a market's sides
-- Assumes nothing.
use mathlib.Core.Path.{◌≡◌, refl}
use mathlib.Core.Bool.{true, ◌&&◌, ◌||◌}
use mathlib.Core.List.{[], ◌∷◌}
use Prim.Native.Nat.{ℕ, ◌*◌, ◌≤◌}
use lib.Dec.{leb, eqb}
use lib.IntN.{nat_abs}
use borrow.Author.Tests.{le-leb}
use Rattle.integers.specs.Size.{within}
use Rattle.std.proofs.lemmas.Bool.{and_parts}
use Rattle.integers.proofs.Tests.{tests, ◌and◌, each}
use Rattle.settlement.specs.declared.FinalMinute.{FinalMinute}
use Rattle.prices.specs.Price.{none_or_price, none_or_ticked, is_price_sum}
use Rattle.funding.specs.Minute.{weighted_limit, most_minutes}
use Rattle.prices.proofs.Prices.{ticked_price, PriceSum, price_sum, is_price_sum-held}
use Rattle.funding.specs.declared.market.Market.{Market}
use Rattle.funding.specs.Market.{two_sided, uncrossed, market_holds, minute_market_holds}
use Rattle.calls.specs.Length.{is_length}
use Rattle.calls.specs.Time.{most_time}
use Rattle.calls.proofs.Length.{length_most}
use Rattle.day.specs.declared.Day.{Day}
use Rattle.day.specs.Day.{day_length, empty_day}
use Rattle.day.specs.Limits.{minutes_hold, markets_hold, most_amount, prices_hold, fix_holds, start_holds, final_holds, most_total, timing_holds, day_holds}

-- ---- what is held

pub record HeldDay (d : Day) : Type 0 where
  pub length : is_length (day_length d) ≡ true
  pub ended : d.minutes.ended ≤ day_length d
  pub valid : d.minutes.valid ≤ d.minutes.ended
  pub weighted : nat_abs d.minutes.weighted ≤ weighted_limit d.minutes.valid
  pub markets : markets_hold d.markets ≡ true
  pub last : none_or_price d.trades.last ≡ true
  pub index : none_or_price d.minutes.index ≡ true
  pub price : none_or_price d.fixed.price ≡ true
  pub amount : nat_abs d.fixed.amount ≤ most_amount
  pub fix : fix_holds d ≡ true
  pub start : start_holds d ≡ true
  pub latest : d.timing.latest ≤ most_time
  pub total : d.timing.midpoints.total ≤ most_total d
  pub sum : PriceSum d.timing.midpoints.total d.timing.midpoints.sum

-- the final minute's trades, where the accounts' v add up to so much
pub record HeldFinal (m : FinalMinute) (volume : ℕ) : Type 0 where
  pub contracts : 2 * m.contracts ≤ volume
  pub gross : PriceSum m.contracts m.gross

-- ---- from the limits

pub held_day : (d : Day) → day_holds d ≡ true → HeldDay d
unfolding day_holds
held_day d h =
    let t = each (minutes_hold d) (markets_hold d.markets ∷ prices_hold d ∷ fix_holds d ∷ start_holds d ∷ timing_holds d ∷ []) h in
    let m =
    each (is_length (day_length d))
    (leb d.minutes.ended (day_length d) ∷ leb d.minutes.valid d.minutes.ended ∷ within d.minutes.weighted (weighted_limit d.minutes.valid) ∷ []) (t 0) in
    let p =
    each (none_or_price d.trades.last)
    (none_or_price d.minutes.index ∷ none_or_price d.fixed.price ∷ within d.fixed.amount most_amount ∷ []) (t 2) in
    let q =
    each (leb d.timing.latest most_time)
    (leb d.timing.midpoints.total (most_total d) ∷ is_price_sum d.timing.midpoints.total d.timing.midpoints.sum ∷ []) (t 5) in
    record {
      length = m 0;
      ended = omega (tests, m 1);
      valid = omega (tests, m 2);
      weighted = omega (tests, m 3);
      markets = t 1;
      last = p 0;
      index = p 1;
      price = p 2;
      amount = omega (tests, p 3);
      fix = t 3;
      start = t 4;
      latest = omega (tests, q 0);
      total = omega (tests, q 1);
      sum = price_sum _ _ (q 2);
    }

pub held_final : (m : FinalMinute) (volume : ℕ) → final_holds m volume ≡ true → HeldFinal m volume
held_final m volume h =
    let t = each (leb (2 * m.contracts) volume) (is_price_sum m.contracts m.gross ∷ []) h in
    record { contracts = omega (tests, t 0); gross = price_sum _ _ (t 1) }

-- ---- and back

pub day_holds-held : (d : Day) → HeldDay d → day_holds d ≡ true
unfolding day_holds
day_holds-held d h =
    (h.length and le-leb _ _ h.ended and le-leb _ _ h.valid and le-leb _ _ h.weighted)
    and h.markets
    and (h.last and h.index and h.price and le-leb _ _ h.amount)
    and h.fix
    and h.start
    and (le-leb _ _ h.latest and le-leb _ _ h.total and is_price_sum-held _ _ h.sum)

pub final_holds-held : (m : FinalMinute) (volume : ℕ) → HeldFinal m volume → final_holds m volume ≡ true
final_holds-held m volume h = le-leb _ _ h.contracts and is_price_sum-held _ _ h.gross

-- ---- what follows

pub empty_day-held : HeldDay empty_day
unfolding day_holds
empty_day-held = held_day empty_day refl

pub day_most : (d : Day) → HeldDay d → day_length d ≤ most_minutes
day_most d h = length_most (day_length d) h.length

-- the sides of a market, where there may be none
pub record HeldMarket (m : Market) : Type 0 where
  pub bid : none_or_price m.bid ≡ true
  pub offer : none_or_price m.offer ≡ true

pub held_market : (m : Market) → market_holds m ≡ true → HeldMarket m
held_market m h =
    let t = each (none_or_ticked m.bid) (none_or_ticked m.offer ∷ uncrossed m ∷ []) h in
    record { bid = ticked_price m.bid (t 0); offer = ticked_price m.offer (t 1) }

pub held_minute : (m : Market) → minute_market_holds m ≡ true → HeldMarket m
held_minute m h = held_market m (and_parts (market_holds m) (two_sided m || (eqb m.bid 0 && eqb m.offer 0)) h).0
