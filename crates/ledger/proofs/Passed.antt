-- What is known of a call that no refusal meets.
--     passed            the book is within its limits, and none of the sentences is met
--     passes_itself     a trade's own sentences
--     within_passes     on a book within its limits the number is not 2
-- Assumes nothing.
use mathlib.Core.Path.{◌≡◌, refl, ap}
use mathlib.Core.Bool.{Bool, true, false, not, cond}
use mathlib.Core.List.{◌∷◌}
use Prim.Native.Nat.{ℕ}
use borrow.Author.Tests.{not-false}
use Rattle.calls.specs.Calls.{on_trade}
use Rattle.calls.specs.declared.Call.TheVariants as call
use Rattle.calls.specs.declared.Trade.{Trade}
use Rattle.calls.specs.declared.Call.{Call}
use Rattle.refusals.specs.Refusals.{no_accounts, first_met}
use Rattle.refusals.proofs.Passed.{unmet, never_met}
use Rattle.outcomes.proofs.Passed.{PassedFigures, passed_figures}
use Rattle.counterparties.specs.Counterparties.{accounts_of}
use Rattle.trading.specs.Inner.{Passes}
use Rattle.ledger.specs.Refusals.{sentences_of, refusal, within_limits}
use Rattle.ledger.specs.declared.Book.{Book}

pub record Passed (n : ℕ) (b : Book) (c : Call) : Type 0 where
  pub limits : within_limits n b ≡ true
  pub sentences : PassedFigures b.figures c (on_trade (accounts_of n b.columns.position b.columns.volume) no_accounts c)

-- a list whose first sentence is not met
rest : (met : Bool) (number : ℕ) (l : _) → met ≡ false → first_met ((number, met) ∷ l) ≡ first_met l
rest met number l e = ap (λ (t : Bool). cond t number (first_met l)) e

pub passed : (n : ℕ) (b : Book) (c : Call) → refusal n b c ≡ 0 → Passed n b c
unfolding refusal
passed n b c h =
    let limits = unmet ((2, not (within_limits n b)) ∷ sentences_of n b c) refl h 0 in
    record { limits = not-false (within_limits n b) limits; sentences = passed_figures b.figures c (on_trade (accounts_of n b.columns.position b.columns.volume) no_accounts c) (rw limits at h) }

-- such a trade passes by itself too
pub passes_itself : (n : ℕ) (b : Book) (t : Trade) → Passed n b (call.Trade t) → Passes n t
passes_itself n b t p = rw (p.sentences.field, p.sentences.accounts)

pub within_passes : (n : ℕ) (b : Book) (c : Call) → within_limits n b ≡ true → refusal n b c ≡ 2 → ⊥
unfolding refusal
within_passes n b c w h = never_met 2 (sentences_of n b c) refl (rw w at h)
