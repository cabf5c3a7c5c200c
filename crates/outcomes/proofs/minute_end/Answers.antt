-- What `day_effects::minute_ended` requires: the minute was refused by no sentence.
use mathlib.Core.Path.{◌≡◌, refl, sym, ◌∙◌}
use mathlib.Core.Bool.{true, not}
use mathlib.Core.List.{◌∷◌, []}
use Prim.Native.Nat.{ℕ, zero, suc, ◌<◌}
use native.Mathlib.Omega.{arith}
use lib.Dec.{leb, eqb}
use borrow.Author.Tests.{not-false, not-true, eqb-false}
use Rattle.integers.proofs.Tests.{tests, each, none}
use Rattle.funding.specs.Minute.{within_spread}
use Rattle.prices.specs.Price.{is_present, none_or_price}
use Rattle.day.specs.Day.{day_length, is_fixed}
use Rattle.figures.specs.Figures.{terms_on}
use Rattle.refusals.specs.Refusals.{no_accounts}
use Rattle.figures.specs.declared.Figures.{Figures}
use Rattle.outcomes.specs.Outcome.{figures_refusal}
use Rattle.calls.specs.declared.Call.TheVariants as call
use Rattle.funding.specs.Market.{two_sided, is_valid}
use Rattle.figures.proofs.Held.{held_figures}
use Rattle.outcomes.proofs.Passed.{passed_figures, passed_day}
use Rattle.day.proofs.Held.{day_most}
use Rattle.calls.specs.Time.{minute_length}
use Rattle.day_effects.proofs.Keeping.{accrues}
use Rattle.day_effects.proofs.Timing.{room}
use Rattle.outcomes.proofs.minute_end.Goals as goal

-- a valid minute has an index
present : (f : Figures) (u : ℕ) → is_valid (terms_on f) f.halted f.day.markets.minute u ≡ true → 0 < u
present f u v =
    let m = f.day.markets.minute in
    let e = each (not f.halted) (two_sided m ∷ is_present u ∷ within_spread (terms_on f) m.bid m.offer ∷ []) v 2 in
    some u (eqb-false u 0 (not-true (eqb u 0) e))
  where
    some : (u : ℕ) → (u ≡ 0 → ⊥) → 0 < u
    some zero h = absurd (h refl)
    some (suc u) h = omega arith

pub minute_ended-requires : goal.minute_ended-requires
minute_ended-requires c =
    let f = c.args.figures.now in
    let d = f.day in
    let u = c.args.index in
    let k = call.MinuteEnd u in
    let h = held_figures f c.requires in
    let code : 0 ≡ figures_refusal f k = c.in_ok-minute_end.ensures ∙ rw (c.forbids_minute_end.ensures, c.is_over.ensures) in
    let p = passed_figures f k no_accounts (sym code) in
    let before : d.minutes.ended < day_length d = omega (tests, none (leb (day_length d) d.minutes.ended) (is_fixed d ∷ []) (passed_day f k no_accounts p).0 0) in
    let valid : c.is_valid-valid.result ≡ true → is_valid (terms_on f) f.halted d.markets.minute u ≡ true = λ e. sym (c.is_valid-valid.ensures ∙ rw c.terms.ensures) ∙ e in
    record {
      ended = omega (arith, day_most d h.day);
      count = omega (arith, h.day.ended, h.day.valid, day_most d h.day);
      present = λ e. present f u (valid e);
      time = room d h.day minute_length (omega (arith, h.day.latest)) (omega arith);
      accrues = λ e. accrues d h.day (terms_on f) f.halted u before (not-false (none_or_price u) p.field) (valid e);
    }
