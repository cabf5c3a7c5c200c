-- An accepted call leaves figures within their limits: the statement of specs/Outcome.antt.
--     fix_price-held, fix_amount-held     the price of a fix, and its amount at any price
--     trade_kept              a trade, from its fields
--     held_after              every call, from what it passed
--     figures_kept            the same, from the tests
-- Assumes nothing.
use mathlib.Core.Path.{◌≡◌, refl, ap}
use mathlib.Core.Bool.{true, false, not, ◌&&◌, ◌||◌}
use mathlib.Core.List.{[], ◌∷◌}
use Prim.Native.Nat.{ℕ, ◌≤◌}
use native.Mathlib.Omega.{arith}
use lib.Dec.{leb, ltb, eqb}
use lib.IntN.{nat_abs}
use borrow.Author.Tests.{not-false}
use Rattle.std.proofs.lemmas.Bool.{or_parts}
use Rattle.integers.proofs.Tests.{tests, ◌and◌, each, none}
use Rattle.prices.specs.Price.{largest_price, is_price, none_or_price, none_or_ticked}
use Rattle.funding.specs.Terms.{clamp}
use Rattle.prices.proofs.Prices.{price_most, none_or_price-price}
use Rattle.settlement.specs.Fixing.{dime_price}
use Rattle.settlement.proofs.Bounds.{amount_size, settlement_is_price, dime_is_price}
use Rattle.day.specs.declared.Day.{Day}
use Rattle.figures.specs.declared.Figures.{Figures}
use Rattle.calls.specs.declared.Call.TheVariants as call
use Rattle.funding.specs.declared.market.Market.{Market}
use Rattle.calls.specs.declared.Trade.{Trade}
use Rattle.calls.specs.declared.TimedQuote.{TimedQuote}
use Rattle.calls.specs.declared.Call.{Call}
use Rattle.funding.specs.Market.{as_minute, uncrossed, market_holds, minute_market_holds}
use Rattle.calls.specs.Trade.{trade_outside}
use Rattle.calls.specs.Length.{final_day, is_ordinary_length, is_length}
use Rattle.day.specs.Day.{no_markets, day_length, is_final_date, is_fixed, forbids_length, forbids_any_fix}
use Rattle.figures.specs.Figures.{terms_on, tie_on, tenth}
use Rattle.day_effects.specs.Effects.{quoted, with_fixed, with_length}
use Rattle.outcomes.specs.Effects.{with_day, with_begun_day, fixed_at, figures_after}
use Rattle.figures.specs.Fixing.{fix_price, fix_rate, fix_amount, fixing_at}
use Rattle.day.specs.Limits.{most_amount, markets_hold}
use Rattle.refusals.specs.Refusals.{most_days, no_accounts, Accounts, sides_outside}
use Rattle.outcomes.specs.Outcome.{FiguresKept}
use Rattle.day.proofs.Held.{HeldDay, HeldFinal, held_final, empty_day-held}
use Rattle.figures.proofs.Rates.{rate_size}
use Rattle.figures.proofs.Held.{HeldFigures, held_figures, figures_hold-held, size_most}
use Rattle.outcomes.proofs.Passed.{PassedFigures, passed_figures, passed_day, passed_time}
use Rattle.day_effects.proofs.Keeping.{minute_market_holds-as_minute, markets_hold-each, held-with_markets, held-timed, held-with_fixed, held-with_length, held-traded, held-minute_ended}

-- ---- a fix

module _ (f : Figures) (h : HeldFigures f) (volume : ℕ) (final : HeldFinal f.day.trades.settling volume) (set : ℕ) (hs : none_or_price set ≡ true) where
  pub fix_price-held : none_or_price (fix_price f set) ≡ true
  fix_price-held = settlement_is_price set f.day.trades.settling f.day.timing.midpoints f.day.minutes.index f.previous hs final.gross h.day.sum

-- at a price or none
pub fix_amount-held : (f : Figures) → HeldFigures f → (P : ℕ) → none_or_price P ≡ true → nat_abs (fix_amount f P) ≤ most_amount
fix_amount-held f h P hP = amount_size (fix_rate f) P f.size clamp largest_price tenth (rate_size f) (price_most P hP) (size_most f.size h.size) (tie_on f) most_amount (omega arith)

-- ---- the calls

-- with another day
held-with_day : {f x : Figures} → HeldFigures f → x.size ≡ f.size → x.closed ≡ f.closed → x.previous ≡ f.previous → HeldDay x.day → HeldFigures x
held-with_day h size closed previous day = record { size = rw size h.size; closed = rw closed h.closed; price = rw previous h.price; index = rw previous h.index; day = day }

pub trade_kept : (f : Figures) → HeldFigures f → (t : Trade) → trade_outside t ≡ false → HeldFigures (figures_after f (call.Trade t))
unfolding figures_after
trade_kept f h t field = held-with_day h refl refl refl (held-traded f.day h.day t field)

module _ (f : Figures) (a : Accounts) (h : HeldFigures f) where
  abbrev d : Day
  d = f.day

  -- the markets after a quote
  quoted_holds : (m : Market) → sides_outside m ≡ false → not (uncrossed m) ≡ false → markets_hold (quoted d.markets m) ≡ true
  quoted_holds m outside crossed =
      let sides : market_holds m ≡ true = not-false (none_or_ticked m.bid && none_or_ticked m.offer) outside and not-false (uncrossed m) crossed in
      let minute = each (market_holds d.markets.standing) (minute_market_holds d.markets.minute ∷ []) h.day.markets 1 in
      markets_hold-each m (as_minute m d.markets.minute) sides (minute_market_holds-as_minute m d.markets.minute sides minute)

  quote_kept : (m : Market) → PassedFigures f (call.Quote m) a → HeldFigures (figures_after f (call.Quote m))
  unfolding figures_after
  quote_kept m p = held-with_day h refl refl refl (held-with_markets d h.day (quoted d.markets m) (quoted_holds m p.field p.market))

  timed_quote_kept : (q : TimedQuote) → PassedFigures f (call.TimedQuote q) a → HeldFigures (figures_after f (call.TimedQuote q))
  unfolding figures_after
  timed_quote_kept q p =
      let t = passed_time f q a p in
      held-with_day h refl refl refl (held-timed d h.day (quoted d.markets q.market) (quoted_holds q.market t.sides p.market) q.time t.forward t.most)

  minute_end_kept : (u : ℕ) → PassedFigures f (call.MinuteEnd u) a → HeldFigures (figures_after f (call.MinuteEnd u))
  unfolding figures_after
  minute_end_kept u p =
      let t = none (leb (day_length d) d.minutes.ended) (is_fixed d ∷ []) (passed_day f (call.MinuteEnd u) a p).0 in
      held-with_day h refl refl refl (held-minute_ended d h.day (terms_on f) f.halted u (omega (tests, t 0)) (not-false (none_or_price u) p.field) (t 1))

  -- a fix of either kind
  fixed_kept : (P : ℕ) → forbids_any_fix d ≡ false → none_or_price P ≡ true → HeldFigures (with_day f f.halted (with_fixed d (fixed_at (fixing_at f P))))
  fixed_kept P allowed hP =
      let t = or_parts (ltb d.minutes.ended (day_length d)) (is_fixed d) allowed in
      held-with_day h refl refl refl (held-with_fixed d h.day (fixed_at (fixing_at f P)) (omega (tests, t.0)) hP (fix_amount-held f h P hP))

  fix_kept : (volume set : ℕ) → HeldFinal d.trades.settling volume → PassedFigures f (call.Fix set) a → HeldFigures (figures_after f (call.Fix set))
  unfolding figures_after
  fix_kept volume set final p =
      let t = or_parts (is_final_date d) (forbids_any_fix d) (passed_day f (call.Fix set) a p).0 in
      fixed_kept (fix_price f set) t.1 (fix_price-held f h volume final set (not-false (none_or_price set) p.field))

  final_fix_kept : (v : ℕ) → PassedFigures f (call.FinalFix v) a → HeldFigures (figures_after f (call.FinalFix v))
  unfolding figures_after
  final_fix_kept v p =
      let t = or_parts (not (is_final_date d)) (forbids_any_fix d) (passed_day f (call.FinalFix v) a p).0 in
      fixed_kept (dime_price v) t.1 (none_or_price-price (dime_price v) (dime_is_price v (not-false (is_price v) p.field)))

  close_kept : PassedFigures f call.Close a → HeldFigures (figures_after f call.Close)
  unfolding figures_after
  close_kept p =
      let over = or_parts (leb most_days f.closed) f.expired (passed_day f call.Close a p).1 in
      record { size = h.size; closed = omega (tests, over.0); price = h.day.price; index = h.day.index; day = empty_day-held }

  -- a length of day, and a final date
  length_kept : (l : ℕ) → forbids_length d ≡ false → is_length l ≡ true → HeldFigures (with_begun_day f f.halted (with_length d l))
  length_kept l late hl = held-with_day h refl refl refl (held-with_length d h.day l late hl)

  pub held_after : (c : Call) (volume : ℕ) → HeldFinal d.trades.settling volume → PassedFigures f c a → HeldFigures (figures_after f c)
  unfolding figures_after
  held_after (call.Quote m) volume final p = quote_kept m p
  held_after (call.Trade t) volume final p = trade_kept f h t p.field
  held_after call.Halt volume final p = held-with_day h refl refl refl (held-with_markets d h.day no_markets refl)
  held_after call.Resume volume final p = held-with_day h refl refl refl (held-with_markets d h.day d.markets h.day.markets)
  held_after (call.MinuteEnd u) volume final p = minute_end_kept u p
  held_after (call.Fix set) volume final p = fix_kept volume set final p
  held_after call.Close volume final p = close_kept p
  held_after (call.DayLength l) volume final p =
      length_kept l (passed_day f (call.DayLength l) a p).0 (ap (λ t. t || eqb l final_day) (not-false (is_ordinary_length l) p.field))
  held_after (call.TimedQuote q) volume final p = timed_quote_kept q p
  held_after (call.FinalDate m) volume final p = length_kept final_day (passed_day f (call.FinalDate m) a p).0 refl
  held_after (call.FinalFix v) volume final p = final_fix_kept v p

pub figures_kept : FiguresKept
figures_kept f c v h final r =
    figures_hold-held (figures_after f c) (held_after f no_accounts (held_figures f h) c v (held_final f.day.trades.settling v final) (passed_figures f c no_accounts r))
