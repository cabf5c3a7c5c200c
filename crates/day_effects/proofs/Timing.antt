-- What times leave of a day within its limits.
--     total_before, total_within, total_most     the total before the last minute, within it, and at most
--     total_by                    and back
--     room                        the total and the sum have room for a time
--     stood_sum                   the midpoints of a market that stood on are prices
--     stood_total                 their total
-- Assumes nothing.
use mathlib.Core.Path.{◌≡◌}
use mathlib.Core.Bool.{Bool, true}
use mathlib.Core.List.{[], ◌∷◌}
use Prim.Native.Nat.{ℕ, ◌+◌, ◌-◌, ◌*◌, ◌<◌, ◌≤◌}
use native.Mathlib.Nat.{mul-le-mul}
use native.Mathlib.Omega.{arith}
use lib.Dec.{ltb}
use borrow.Author.Tests.{eqb-false}
use Rattle.std.proofs.lemmas.Bool.{cond_both}
use Rattle.integers.proofs.Tests.{tests, each}
use Rattle.prices.specs.Price.{least_price, largest_price, is_present}
use Rattle.prices.proofs.Prices.{PriceSum, the_price, price_to, price_most}
use Rattle.funding.specs.Market.{two_sided, midpoint, market_holds, minute_market_holds}
use Rattle.settlement.specs.declared.Midpoints.{Midpoints}
use Rattle.calls.specs.Time.{minute_length}
use Rattle.day.specs.declared.Day.{Day}
use Rattle.day.specs.Day.{day_length, in_last_minute}
use Rattle.day.specs.Limits.{most_total}
use Rattle.day.proofs.Held.{HeldDay, held_market}
use Rattle.day_effects.specs.Effects.{stood_until}
use Rattle.day_effects.specs.Inner.{RoomForTime}

-- ---- the total

module _ (d : Day) where
  abbrev before : Bool
  before = ltb (d.minutes.ended + 1) (day_length d)

  abbrev last : Bool
  last = in_last_minute (day_length d) d.minutes.ended

  pub total_by : (n : ℕ) → (d.minutes.ended + 1 < day_length d → n ≤ 0) → (d.minutes.ended + 1 ≡ day_length d → n ≤ d.timing.latest) → n ≤ minute_length → n ≤ most_total d
  total_by n early within most =
      cond_both before _ _ (λ m. n ≤ m)
      (λ e. early (omega tests))
      (λ e. cond_both last _ _ (λ m. n ≤ m) (λ l. within (omega tests)) (λ l. most))

  module _ (h : HeldDay d) where
    abbrev total : ℕ
    total = d.timing.midpoints.total

    pub total_before : d.minutes.ended + 1 < day_length d → total ≤ 0
    total_before b = cond_both before _ _ (λ m. total ≤ m → total ≤ 0) (λ e k. k) (λ e k. absurd (omega tests)) h.total

    pub total_within : d.minutes.ended + 1 ≡ day_length d → total ≤ d.timing.latest
    total_within w =
        cond_both before _ _ (λ m. total ≤ m → total ≤ d.timing.latest) (λ e k. omega arith)
        (λ e. cond_both last _ _ (λ m. total ≤ m → total ≤ d.timing.latest) (λ l k. k) (λ l k. absurd (eqb-false _ _ l w)))
        h.total

    pub total_most : total ≤ minute_length
    total_most =
        cond_both before _ _ (λ m. total ≤ m → total ≤ minute_length) (λ e k. omega arith)
        (λ e. cond_both last _ _ (λ m. total ≤ m → total ≤ minute_length) (λ l k. omega (arith, h.latest)) (λ l k. k))
        h.total

-- ---- a time

module _ (d : Day) (h : HeldDay d) (time : ℕ) (forward : d.timing.latest ≤ time) (most : time ≤ minute_length) where
  abbrev stood : ℕ
  stood = time - d.timing.latest

  standing_holds : market_holds d.markets.standing ≡ true
  standing_holds = each (market_holds d.markets.standing) (minute_market_holds d.markets.minute ∷ []) h.markets 0

  pub room : RoomForTime d time
  room =
      let sides = held_market d.markets.standing standing_holds in
      let middle : midpoint d.markets.standing ≤ largest_price = omega (arith, price_most d.markets.standing.bid sides.bid, price_most d.markets.standing.offer sides.offer) in
      let since : stood ≤ minute_length = omega arith in
      let product : midpoint d.markets.standing * stood ≤ largest_price * minute_length = mul-le-mul middle since in
      record { forward = forward; total = omega (arith, total_most d h); sum = omega (arith, product, h.sum.high, total_most d h) }

  -- the midpoint of a two-sided market is a price
  midpoint_price : two_sided d.markets.standing ≡ true → (least_price ≤ midpoint d.markets.standing) × (midpoint d.markets.standing ≤ largest_price)
  midpoint_price two =
      let m = d.markets.standing in
      let sides = held_market m standing_holds in
      let s = each (is_present m.bid) (is_present m.offer ∷ []) two in
      let bid = price_to m.bid (the_price m.bid (s 0) sides.bid) in
      let offer = price_to m.offer (the_price m.offer (s 1) sides.offer) in
      (omega (arith, bid.0, offer.0), omega (arith, bid.1, offer.1))

  pub stood_sum : PriceSum (stood_until d time).total (stood_until d time).sum
  stood_sum =
      cond_both (last d) _ _ (λ (m : Midpoints). PriceSum m.total m.sum)
      (λ l. cond_both (two_sided d.markets.standing) _ _ (λ (m : Midpoints). PriceSum m.total m.sum)
      (λ two.
      let p = midpoint_price two in
      let same : stood ≤ stood = omega arith in
      let low : least_price * stood ≤ midpoint d.markets.standing * stood = mul-le-mul p.0 same in
      let high : midpoint d.markets.standing * stood ≤ largest_price * stood = mul-le-mul p.1 same in
      record { low = omega (arith, low, h.sum.low); high = omega (arith, high, h.sum.high) })
      (λ one. h.sum))
      (λ l. h.sum)

  -- of a time in the last minute, at most the time
  pub stood_total : (n : ℕ) → (d.minutes.ended + 1 ≡ day_length d → time ≤ n) → ((d.minutes.ended + 1 ≡ day_length d → ⊥) → d.timing.midpoints.total ≤ n) → (stood_until d time).total ≤ n
  stood_total n within other =
      cond_both (last d) _ _ (λ (m : Midpoints). m.total ≤ n)
      (λ l. let w : d.minutes.ended + 1 ≡ day_length d = omega tests in
      cond_both (two_sided d.markets.standing) _ _ (λ (m : Midpoints). m.total ≤ n)
      (λ two. omega (arith, within w, total_within d h w))
      (λ one. omega (arith, within w, total_within d h w)))
      (λ l. other (eqb-false _ _ l))
