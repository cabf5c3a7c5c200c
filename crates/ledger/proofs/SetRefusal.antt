-- The number of a set's refusal, by the three parts of its sentences, and the answer by that number.
--     by_parts      what the set as a whole gives, else its trades, else the accounts at its end
--     refused, accepted     the answer
--     opened        what is known of a set that is not refused as a whole;  set_passed     and of one that is accepted
--     within_passes_set     on a book within its limits the number is not 2
-- Assumes nothing.
use mathlib.Core.Path.{◌≡◌, refl, sym, ◌∙◌, ap}
use mathlib.Core.Bool.{Bool, true, false, not, cond, true≢false}
use mathlib.Core.List.{List, [], ◌∷◌, ◌++◌}
use Prim.Native.Nat.{ℕ, ◌≤◌}
use lib.Dec.{eqb, leb}
use lib.ListN.{length}
use borrow.Author.Tests.{eqb-true, eq-eqb, not-false}
use Rattle.std.specs.Prelude.{Ok, Err}
use Rattle.integers.specs.Lists.{Every}
use Rattle.integers.proofs.Tests.{tests, each}
use Rattle.calls.specs.Trade.{most_trades, is_set_length}
use Rattle.calls.specs.declared.Trade.{Trade}
use Rattle.refusals.specs.declared.Refusal.{Refusal}
use Rattle.refusals.specs.Refusals.{first_met, number}
use Rattle.refusals.proofs.Numbers.{not_zero}
use Rattle.refusals.specs.Sets.{set_sentences}
use Rattle.refusals.proofs.Passed.{is_none, unmet, never_met, first_of_both, none_of_both}
use Rattle.figures.specs.Figures.{is_over}
use Rattle.columns.specs.Limits.{volumes_hold, positions_hold}
use Rattle.trading.specs.Trading.{own_sentences}
use Rattle.trading.specs.Inner.{Passes}
use Rattle.ledger.specs.declared.Book.{Book}
use Rattle.ledger.specs.Refusals.{within_limits}
use Rattle.ledger.specs.Inner.{set_answer}
use Rattle.ledger.specs.Sets.{set_effect, sentences_before_trades, trade_sentences, sentences_after_trades, set_refusal, trade_set}

pub no_trade_gives : (number : ℕ) (n : ℕ) (ts : List Trade) → ((t : Trade) → is_none number (own_sentences n t) ≡ true) → is_none number (trade_sentences n ts) ≡ true
unfolding trade_sentences
no_trade_gives number n [] h = refl
no_trade_gives number n (t ∷ ts) h = none_of_both number (own_sentences n t) (trade_sentences n ts) (h t) (no_trade_gives number n ts h)

-- ---- by its parts

-- the first number, or else the second
abbrev pub or_else : ℕ → ℕ → ℕ
or_else x y = cond (eqb x 0) y x

module _ (n : ℕ) (b : Book) (ts : List Trade) where
  abbrev pub of_set : ℕ
  of_set = first_met (sentences_before_trades n b (length ts))

  abbrev pub of_trades : ℕ
  of_trades = first_met (trade_sentences n ts)

  abbrev pub of_accounts : ℕ
  of_accounts = first_met (sentences_after_trades n (set_effect n b ts).columns)

  pub by_parts : set_refusal n b ts ≡ or_else of_set (or_else of_trades of_accounts)
  unfolding set_refusal
  by_parts =
      let rest = trade_sentences n ts ++ sentences_after_trades n (set_effect n b ts).columns in
      first_of_both (sentences_before_trades n b (length ts)) rest refl
      ∙ ap (or_else of_set) (first_of_both (trade_sentences n ts) (sentences_after_trades n (set_effect n b ts).columns) (no_trade_gives 0 n ts (λ t. refl)))

  pub refused : (e : Refusal) → number e ≡ set_refusal n b ts → set_answer b (Err e) ≡ trade_set n b ts
  unfolding trade_set
  refused e h = rw (← h, not_zero e)

  pub accepted : (b' : Book) → set_refusal n b ts ≡ 0 → b' ≡ set_effect n b ts → set_answer b (Ok b') ≡ trade_set n b ts
  unfolding trade_set
  accepted b' h e = rw (h, e)

  -- what is known of a set that is not refused as a whole
  pub record Opened : Type 0 where
    pub limits : within_limits n b ≡ true
    pub over : is_over b.figures ≡ false
    pub halted : b.figures.halted ≡ false
    pub few : length ts ≤ most_trades

  pub opened : of_set ≡ 0 → Opened
  opened h =
      let u = unmet (sentences_before_trades n b (length ts)) refl h in
      let trades = each (not (eqb (length ts) 0)) (leb (length ts) most_trades ∷ []) (not-false (is_set_length (length ts)) (u 3)) in
      record {
        limits = not-false (within_limits n b) (u 0);
        over = u 1;
        halted = u 2;
        few = omega (tests, trades 1);
      }

-- ---- a set that no refusal meets

or_none : (x y : ℕ) → or_else x y ≡ 0 → (x ≡ 0) × (y ≡ 0)
or_none x y h = go (eqb x 0) refl h
  where
    go : (t : Bool) → eqb x 0 ≡ t → cond t y x ≡ 0 → (x ≡ 0) × (y ≡ 0)
    go true e h = (eqb-true x 0 e, h)
    go false e h = absurd (true≢false (sym (eq-eqb x 0 h) ∙ e))

all_pass : (n : ℕ) (ts : List Trade) → first_met (trade_sentences n ts) ≡ 0 → Every (Passes n) ts
unfolding trade_sentences
all_pass n [] h = tt
all_pass n (t ∷ ts) h =
    let two = or_none _ _ (sym (first_of_both (own_sentences n t) (trade_sentences n ts) refl) ∙ h) in
    (two.0, all_pass n ts two.1)

pub record SetPassed (n : ℕ) (b : Book) (ts : List Trade) : Type 0 where
  pub opened : Opened n b ts
  pub each : Every (Passes n) ts
  pub volumes : volumes_hold n (set_effect n b ts).columns.volume ≡ true
  pub positions : positions_hold n (set_effect n b ts).columns.position ≡ true

pub set_passed : (n : ℕ) (b : Book) (ts : List Trade) → set_refusal n b ts ≡ 0 → SetPassed n b ts
set_passed n b ts h =
    let parts = or_none _ _ (sym (by_parts n b ts) ∙ h) in
    let rest = or_none _ _ parts.1 in
    let c = (set_effect n b ts).columns in
    let u = unmet (sentences_after_trades n c) refl rest.1 in
    record {
      opened = opened n b ts parts.0;
      each = all_pass n ts rest.0;
      volumes = not-false (volumes_hold n c.volume) (u 0);
      positions = not-false (positions_hold n c.position) (u 1);
    }

-- a set on a book within its limits
pub within_passes_set : (n : ℕ) (b : Book) (ts : List Trade) → within_limits n b ≡ true → set_refusal n b ts ≡ 2 → ⊥
unfolding set_refusal
within_passes_set n b ts w h =
    let c = (set_effect n b ts).columns in
    let rest = trade_sentences n ts ++ sentences_after_trades n c in
    never_met 2 (set_sentences (is_over b.figures) b.figures.halted (length ts) ++ rest)
    (none_of_both 2 (set_sentences (is_over b.figures) b.figures.halted (length ts)) rest refl (none_of_both 2 (trade_sentences n ts) (sentences_after_trades n c) (no_trade_gives 2 n ts (λ t. refl)) refl))
    (rw w at h)

-- ---- and back

none_of_trades : (n : ℕ) (ts : List Trade) → Every (Passes n) ts → first_met (trade_sentences n ts) ≡ 0
unfolding trade_sentences
none_of_trades n [] p = refl
none_of_trades n (t ∷ ts) p = first_of_both (own_sentences n t) (trade_sentences n ts) refl ∙ rw (p.0, none_of_trades n ts p.1)

pub by_passed : (n : ℕ) (b : Book) (ts : List Trade) → within_limits n b ≡ true → is_over b.figures ≡ false → b.figures.halted ≡ false → is_set_length (length ts) ≡ true
    → Every (Passes n) ts → volumes_hold n (set_effect n b ts).columns.volume ≡ true → positions_hold n (set_effect n b ts).columns.position ≡ true
    → set_refusal n b ts ≡ 0
by_passed n b ts limits over halted few own volumes positions = by_parts n b ts ∙ rw (volumes, positions, limits, over, halted, few, none_of_trades n ts own)
