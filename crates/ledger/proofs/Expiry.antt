-- The end of a contract: the statements of specs/Expiry.antt.
--     final_close, after_the_end
-- Assumes nothing.
use mathlib.Core.Path.{◌≡◌, refl, ◌∙◌, ap}
use mathlib.Core.Bool.{Bool, true, false, not, cond, ◌||◌, ◌&&◌, or-true}
use mathlib.Core.List.{List, [], ◌∷◌}
use Prim.Native.Nat.{ℕ}
use lib.Dec.{leb, eqb}
use Rattle.calls.specs.declared.Call.{Call}
use Rattle.refusals.specs.Refusals.{most_days}
use Rattle.figures.specs.Figures.{is_over}
use Rattle.outcomes.specs.Effects.{figures_after}
use Rattle.outcomes.specs.Outcome.{day_forbids, forbids}
use Rattle.ledger.specs.declared.Book.{Book}
use Rattle.ledger.specs.Effects.{effect}
use Rattle.ledger.specs.Refusals.{refusal, within_limits}
use Rattle.ledger.specs.Step.{step}
use Rattle.ledger.specs.Sets.{set_refusal, trade_set}
use Rattle.ledger.specs.Operations.{Operation, answered, run}
use Rattle.ledger.specs.Expiry.{FinalClose, AfterTheEnd}

pub final_close : FinalClose
unfolding effect figures_after
final_close n b final = record { expired = final; opening = rw final; position = rw final }

module _ (n : ℕ) (b : Book) (within : within_limits n b ≡ true) (expired : b.figures.expired ≡ true) where
  over : is_over b.figures ≡ true
  over = ap (λ (x : Bool). leb most_days b.figures.closed || x) expired ∙ or-true (leb most_days b.figures.closed)

  forbidden : (c : Call) → forbids b.figures c ≡ true
  forbidden c = ap (λ (x : Bool). day_forbids b.figures.day c || x) over ∙ or-true (day_forbids b.figures.day c)

  refused : (o : Operation) → (answered n b o).code ≡ 3
  unfolding step refusal trade_set set_refusal
  refused (Operation.Single c) = rw (within, forbidden c)
  refused (Operation.Set ts) = rw (within, over)

  same : (o : Operation) → (answered n b o).book ≡ b
  unfolding step refusal trade_set set_refusal
  same (Operation.Single c) = rw (within, forbidden c)
  same (Operation.Set ts) = rw (within, over)

  unchanged : (os : List Operation) → run n b os ≡ b
  unfolding run
  unchanged [] = refl
  unchanged (o ∷ os) = ap (λ (x : Book). run n x os) (same o) ∙ unchanged os

  reports : (positions cash : Bool) → ◌≡◌ {A = ℕ} (cond (not positions || not cash) 10 0) (cond (positions && cash) 0 10)
  reports true true = refl
  reports true false = refl
  reports false cash = refl

pub after_the_end : AfterTheEnd
after_the_end n b within expired =
    record {
      refused = refused n b within expired;
      unchanged = unchanged n b within expired;
      reports = λ positions cash. rw within (reports n b within expired (eqb positions n) (eqb cash n));
    }
