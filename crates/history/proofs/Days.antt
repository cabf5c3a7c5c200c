-- The days of a history: every call is in one of them, each closed day's close was accepted, and a closed day is whole. Assumes nothing.
use mathlib.Core.Path.{◌≡◌, refl, sym, ◌∙◌, ap}
use mathlib.Core.Bool.{Bool, true, false, not, cond, ◌||◌}
use mathlib.Core.List.{List, [], ◌∷◌, ◌++◌}
use Prim.Native.Nat.{ℕ, suc}
use lib.Dec.{ltb, eqb}
use lib.ListN.{length}
use native.Mathlib.Omega.{arith}
use native.Mathlib.Nat.{suc-ne-zero}
use borrow.Author.Tests.{eqb-true, not-false, not-true}
use Rattle.integers.specs.Lists.{Every}
use Rattle.std.proofs.lemmas.Bool.{and_parts, or_parts, ne_eqb}
use Rattle.integers.proofs.Tests.{tests, either}
use Rattle.prices.specs.Price.{is_price, is_present}
use Rattle.prices.proofs.Prices.{price_to}
use Rattle.settlement.specs.Fixing.{dime_price}
use Rattle.settlement.proofs.Bounds.{dime_is_price}
use Rattle.calls.specs.Length.{full_day}
use Rattle.day.specs.Day.{forbids_any_fix}
use Rattle.calls.specs.declared.Call.TheVariants as call
use Rattle.calls.specs.declared.Call.{Call}
use Rattle.calls.specs.Calls.{on_close}
use Rattle.calls.proofs.Calls.{FixOr, CloseOr, fix, final_fix, close, fix_or, close_or, on_close_is}
use Rattle.figures.specs.Fixing.{fix_price}
use Rattle.calls.proofs.Calls as calls
use Rattle.ledger.proofs.Allowed.{Allowed}
use Rattle.history.specs.History.{History, FixMoment, length_of, begun, is_final_date_on, closings, today, fixes, minutes}
use Rattle.history.specs.Cash.{at_fix, price_on}
use Rattle.history.specs.Demand3.{calls_of_days, Whole}
use Rattle.history.proofs.Kept.{day_from, figures_from, book_from, day_allows, none_ended, fix_price-price_at}
use Rattle.history.proofs.Accepted.{AllAllowed}

-- ---- every call is in one day

pub days_and_today : (h : History) → h ≡ today h ++ calls_of_days (closings h)
unfolding closings today calls_of_days
days_and_today [] = refl
days_and_today (c ∷ h) = by (days_and_today h) (close_or c)
  where
    by : h ≡ today h ++ calls_of_days (closings h) → CloseOr c → c ∷ h ≡ today (c ∷ h) ++ calls_of_days (closings (c ∷ h))
    by rest (close e) = rw e (ap {B = History} (λ l. call.Close ∷ l) rest)
    by rest (calls.CloseOr.other o) = rw (o History [] (c ∷ today h), o (List History) (h ∷ closings h) (closings h)) (ap {B = History} (λ l. c ∷ l) rest)

-- each closed day's close was accepted
pub closes_allowed : (n s : ℕ) (h : History) → AllAllowed n s h → Every (λ d. AllAllowed n s (call.Close ∷ d)) (closings h)
unfolding closings
closes_allowed n s [] a = tt
closes_allowed n s (c ∷ h) a =
    let rest = closes_allowed n s h a.1 in
    on_close_is (λ ds. Every (λ d. AllAllowed n s (call.Close ∷ d)) ds) (h ∷ closings h) (closings h) c
    (λ e. (rw e at a, rest)) rest

-- ---- a closed day is whole

-- a dime's price is there
dime_present : (v : ℕ) → is_price v ≡ true → is_present (dime_price v) ≡ true
dime_present v h =
    let least = (price_to (dime_price v) (dime_is_price v h)).0 in
    ap not (ne_eqb (dime_price v) 0 (λ e. omega (arith, least, e)))

-- a day has one fix once P stands, and none before
one_fix : (n s : ℕ) (h : History) → AllAllowed n s h → length (fixes h) ≡ cond (is_present (price_on h)) 1 0
unfolding closings fixes at_fix
one_fix n s [] a = refl
one_fix n s (c ∷ h) a = by (one_fix n s h a.1) (fix_or c) (close_or c)
  where
    fixes-fix : (set : ℕ) → length (fixes h) ≡ cond (is_present (price_on h)) 1 0 → Allowed n (book_from n s h) (call.Fix set) → suc (length (fixes h)) ≡ cond (is_present (price_on (call.Fix set ∷ h))) 1 0
    fixes-fix set rest p =
        let any = (or_parts (is_final_date_on h) (forbids_any_fix (day_from s h)) (day_allows n s h (call.Fix set) p)).1 in
        let day = or_parts (ltb (minutes h) (length_of h)) (is_present (price_on h)) any in
        ap suc (rest ∙ ap (λ (x : Bool). cond x 1 0) day.1)
        ∙ sym (ap (λ (x : Bool). cond x 1 0) (not-false (is_present (fix_price (figures_from s h) set)) p.sentences.price))
        ∙ ap (λ P. cond (is_present P) 1 0) (fix_price-price_at s h set (omega (tests, day.0)))

    fixes-final : (v : ℕ) → length (fixes h) ≡ cond (is_present (price_on h)) 1 0 → Allowed n (book_from n s h) (call.FinalFix v) → suc (length (fixes h)) ≡ cond (is_present (dime_price v)) 1 0
    fixes-final v rest p =
        let any = (or_parts (not (is_final_date_on h)) (forbids_any_fix (day_from s h)) (day_allows n s h (call.FinalFix v) p)).1 in
        let day = or_parts (ltb (minutes h) (length_of h)) (is_present (price_on h)) any in
        ap suc (rest ∙ ap (λ (x : Bool). cond x 1 0) day.1)
        ∙ sym (ap (λ (x : Bool). cond x 1 0) (dime_present v (not-false (is_price v) p.sentences.field)))

    by : length (fixes h) ≡ cond (is_present (price_on h)) 1 0 → FixOr c → CloseOr c → length (fixes (c ∷ h)) ≡ cond (is_present (price_on (c ∷ h))) 1 0
    by rest (fix set e) k = rw e (fixes-fix set rest (rw e at a.0))
    by rest (final_fix v e) k = rw e (fixes-final v rest (rw e at a.0))
    by rest (calls.FixOr.other o) (close e) = rw e
    by rest (calls.FixOr.other o) (calls.CloseOr.other k) =
        rw (o (List FixMoment) (λ set. record { final = false; value = set; before = h } ∷ fixes h) (λ v. record { final = true; value = v; before = h } ∷ fixes h) (on_close [] (fixes h) c), k (List FixMoment) [] (fixes h), k (List History) (h ∷ closings h) (closings h)) rest

-- none before the date has begun
no_fix : (n s : ℕ) (h : History) (c : Call) → Allowed n (book_from n s h) c → AllAllowed n s h → begun h ≡ false → fixes h ≡ []
no_fix n s h c p a late =
    let d = p.figures.day in
    let full = (and_parts (eqb (length_of h) full_day) (eqb (minutes h) 0) (rw late at d.start)).0 in
    let none = none_ended n s h c p late in
    let unfixed : is_present (price_on h) ≡ false =
    either (not (is_present (price_on h))) (eqb (minutes h) (length_of h)) d.fix (λ e. not-true (is_present (price_on h)) e) (λ e. absurd (omega (tests, full, none))) in
    go (fixes h) (one_fix n s h a ∙ ap (λ (x : Bool). cond x 1 0) unfixed)
  where
    go : (l : List FixMoment) → length l ≡ 0 → l ≡ []
    go [] e = refl
    go (x ∷ l) e = absurd (suc-ne-zero (length l) e)

-- each is of the date's own kind
own_kind : (n s : ℕ) (h : History) → AllAllowed n s h → Every (λ x. x.final ≡ is_final_date_on h) (fixes h)
unfolding fixes length_of
own_kind n s [] a = tt
own_kind n s (call.Quote m ∷ h) a = own_kind n s h a.1
own_kind n s (call.Trade t ∷ h) a = own_kind n s h a.1
own_kind n s (call.Halt ∷ h) a = own_kind n s h a.1
own_kind n s (call.Resume ∷ h) a = own_kind n s h a.1
own_kind n s (call.MinuteEnd u ∷ h) a = own_kind n s h a.1
own_kind n s (call.Fix set ∷ h) a =
    let kind = (or_parts (is_final_date_on h) (forbids_any_fix (day_from s h)) (day_allows n s h (call.Fix set) a.0)).0 in
    (sym kind, own_kind n s h a.1)
own_kind n s (call.Close ∷ h) a = tt
own_kind n s (call.DayLength l ∷ h) a = rw (no_fix n s h (call.DayLength l) a.0 a.1 (day_allows n s h (call.DayLength l) a.0)) tt
own_kind n s (call.TimedQuote q ∷ h) a = own_kind n s h a.1
own_kind n s (call.FinalDate m ∷ h) a = rw (no_fix n s h (call.FinalDate m) a.0 a.1 (day_allows n s h (call.FinalDate m) a.0)) tt
own_kind n s (call.FinalFix v ∷ h) a =
    let kind = (or_parts (not (is_final_date_on h)) (forbids_any_fix (day_from s h)) (day_allows n s h (call.FinalFix v) a.0)).0 in
    (sym (not-false (is_final_date_on h) kind), own_kind n s h a.1)

-- the day that a close is accepted on is fixed
fixed : (n s : ℕ) (d : History) → Allowed n (book_from n s d) call.Close → is_present (price_on d) ≡ true
fixed n s d p = not-false (is_present (price_on d)) (day_allows n s d call.Close p)

-- and within its limits, so that it has all its minutes
all_minutes : (n s : ℕ) (d : History) → Allowed n (book_from n s d) call.Close → minutes d ≡ length_of d
all_minutes n s d p =
    eqb-true (minutes d) (length_of d)
    (go (is_present (price_on d)) (eqb (minutes d) (length_of d)) (fixed n s d p) p.figures.day.fix)
  where
    go : (x y : Bool) → x ≡ true → (not x || y) ≡ true → y ≡ true
    go true y e f = f
    go false y e f = cc

pub whole : (n s : ℕ) (d : History) → AllAllowed n s (call.Close ∷ d) → Whole d
whole n s d a = record { minute_count = all_minutes n s d a.0; one_fix = one_fix n s d a.1 ∙ ap (λ (x : Bool). cond x 1 0) (fixed n s d a.0); own_kind = own_kind n s d a.1 }
