-- An accepted call on a book within its limits hands back a book within its limits: the statements of specs/Keeping.antt.
--     limits_kept, set_kept           a call, and a set
--     step_kept                       the answer to a call, accepted or refused
--     fresh_within                    a fresh book
--     run_within, never_beyond        a list of calls and sets on an accepted opening
--     opened_within, stays_within, still_within     the same as what is required of a book
--     refused_beyond                  a refused opening
-- Assumes nothing.
use mathlib.Core.Path.{◌≡◌, refl, ◌∙◌}
use mathlib.Core.Bool.{Bool, true, false, cond}
use mathlib.Core.List.{List, [], ◌∷◌}
use Prim.Native.Nat.{ℕ}
use native.Mathlib.Omega.{arith}
use lib.ListN.{set}
use lib.Dec.{eqb}
use borrow.Author.Tests.{eqb-true, not-false}
use Rattle.std.proofs.lemmas.Bool.{cond_both}
use Rattle.calls.specs.declared.Call.TheVariants as call
use Rattle.calls.specs.Calls.{on_trade}
use Rattle.calls.specs.declared.Trade.{Trade}
use Rattle.calls.specs.declared.Call.{Call}
use Rattle.outcomes.specs.Effects.{figures_after}
use Rattle.figures.specs.Figures.{is_size, figures_hold}
use Rattle.refusals.specs.Refusals.{no_accounts}
use Rattle.figures.proofs.Held.{HeldFigures}
use Rattle.outcomes.proofs.Keeping.{held_after}
use Rattle.columns.specs.Columns.{count_at, sum_below}
use Rattle.counterparties.specs.Counterparties.{accounts_of, volume_stays, position_stays}
use Rattle.ledger.specs.Effects.{with_figures, effect}
use Rattle.ledger.specs.Refusals.{refusal, within_limits}
use Rattle.ledger.specs.Inner.{WithinLimits}
use Rattle.ledger.specs.Step.{Answered, step, fresh, opening}
use Rattle.ledger.specs.Sets.{set_effect, set_refusal, trade_set}
use Rattle.ledger.specs.Operations.{Operation, answered, run}
use Rattle.ledger.specs.Keeping.{Shaped, LimitsKept, SetKept, RunWithin, NeverBeyond, RefusedBeyond}
use Rattle.figures.specs.declared.Figures.{Figures}
use Rattle.ledger.specs.declared.Book.{Book}
use Rattle.ledger.proofs.Held.{Held, held, holds}
use Rattle.ledger.proofs.Passed.{Passed, passed, passes_itself, within_passes}
use Rattle.ledger.proofs.SetRefusal.{set_passed, within_passes_set}
use Rattle.ledger.proofs.Shape.{fresh_shaped, shape_kept, shape_kept_by_set}
use Rattle.ledger.proofs.Interim.{interim, held_by, volumes_after, positions_after}
use Rattle.ledger.proofs.KeepingTrade.{own_accounts, interim_traded, interim_set}
use Rattle.ledger.proofs.KeepingClose.{no_trades-held, fresh_held, closed_account}

-- ---- the limits

module _ (n : ℕ) (b : Book) (h : Held n b) where
  -- a call that touches no column, and leaves the closed days and the trades of the final minute
  same_accounts : (f : Figures) → HeldFigures f → f.closed ≡ b.figures.closed → f.day.trades.settling ≡ b.figures.day.trades.settling → Held n (with_figures b f)
  same_accounts f figures closed settling = record { figures = figures; account = λ j l. omega (arith, h.account j l, closed); final = rw settling h.final }

  traded : (t : Trade) → Shaped n b → Passed n b (call.Trade t) → Held n (effect n b (call.Trade t))
  unfolding effect
  traded t s p =
      let own = passes_itself n b t p in
      let range = own_accounts n t own in
      held_by (interim_traded n b t own s (interim h)) (volumes_after n b t h range ∙ not-false (volume_stays b.columns.volume t) p.sentences.volume)
      (positions_after n b t h range ∙ not-false (position_stays b.columns.position t) p.sentences.position)

  kept : (c : Call) → Shaped n b → Passed n b c → Held n (effect n b c)
  unfolding effect figures_after
  kept c s p = by c p (held_after b.figures (on_trade (accounts_of n b.columns.position b.columns.volume) no_accounts c) h.figures c (sum_below n (count_at b.columns.volume)) h.final p.sentences)
    where
      by : (c : Call) → Passed n b c → HeldFigures (figures_after b.figures c) → Held n (effect n b c)
      by (call.Quote m) p f = same_accounts (figures_after b.figures (call.Quote m)) f refl refl
      by (call.Trade t) p f = traded t s p
      by call.Halt p f = same_accounts (figures_after b.figures call.Halt) f refl refl
      by call.Resume p f = same_accounts (figures_after b.figures call.Resume) f refl refl
      by (call.MinuteEnd u) p f = same_accounts (figures_after b.figures (call.MinuteEnd u)) f refl refl
      by (call.Fix set) p f = same_accounts (figures_after b.figures (call.Fix set)) f refl refl
      by call.Close p f = record { figures = f; account = closed_account n b h; final = no_trades-held _ }
      by (call.DayLength l) p f = same_accounts (figures_after b.figures (call.DayLength l)) f refl refl
      by (call.TimedQuote q) p f = same_accounts (figures_after b.figures (call.TimedQuote q)) f refl refl
      by (call.FinalDate m) p f = same_accounts (figures_after b.figures (call.FinalDate m)) f refl refl
      by (call.FinalFix v) p f = same_accounts (figures_after b.figures (call.FinalFix v)) f refl refl

pub limits_kept : LimitsKept
limits_kept n b c s r = let p = passed n b c r in holds n (effect n b c) (kept n b (held n b p.limits) c s p)

pub fresh_within : (n s : ℕ) → is_size s ≡ true → within_limits n (fresh n s) ≡ true
fresh_within n s h = holds n (fresh n s) (fresh_held n s h)

pub set_kept : SetKept
set_kept n b ts s r =
    let p = set_passed n b ts r in
    holds n (set_effect n b ts) (held_by (interim_set n b ts p.each s (interim (held n b p.opened.limits))) p.volumes p.positions)

-- ---- a list of calls and sets

pub step_kept : (n : ℕ) (b : Book) (c : Call) → Shaped n b → within_limits n b ≡ true → Shaped n (step n b c).book × (within_limits n (step n b c).book ≡ true)
unfolding step
step_kept n b c s w =
    cond_both (eqb (refusal n b c) 0) _ _ (λ x. Shaped n x × (within_limits n x ≡ true)) (λ e. (shape_kept n b c s, limits_kept n b c s (eqb-true (refusal n b c) 0 e))) (λ e. (s, w))

answer_kept : (n : ℕ) (b : Book) (o : Operation) → Shaped n b → within_limits n b ≡ true → Shaped n (answered n b o).book × (within_limits n (answered n b o).book ≡ true)
unfolding trade_set
answer_kept n b (Operation.Single c) s w = step_kept n b c s w
answer_kept n b (Operation.Set ts) s w =
    cond_both (eqb (set_refusal n b ts) 0) _ _ (λ x. Shaped n x × (within_limits n x ≡ true))
    (λ e. (shape_kept_by_set n b ts s, set_kept n b ts s (eqb-true (set_refusal n b ts) 0 e))) (λ e. (s, w))

pub run_kept : (n : ℕ) (b : Book) (os : List Operation) → Shaped n b → within_limits n b ≡ true → within_limits n (run n b os) ≡ true
unfolding run
run_kept n b [] s w = w
run_kept n b (o ∷ os) s w = let k = answer_kept n b o s w in run_kept n (answered n b o).book os k.0 k.1

no_refusal : (t : Bool) → ◌≡◌ {A = ℕ} (cond t 0 5) 0 → t ≡ true
no_refusal true h = refl
no_refusal false h = absurd (omega arith)

pub run_within : RunWithin
run_within n s os h = rw (no_refusal (is_size s) h) (run_kept n (fresh n s) os (fresh_shaped n s) (fresh_within n s (no_refusal (is_size s) h)))

-- the book of an accepted opening
pub opened_within : (n s : ℕ) → (opening n s).code ≡ 0 → WithinLimits n (opening n s).book
unfolding run
opened_within n s h = record { shaped = fresh_shaped n (cond (is_size s) s 0); within = run_within n s [] h }

-- a call on a book within its limits
pub stays_within : (n : ℕ) (b : Book) (c : Call) → WithinLimits n b → WithinLimits n (step n b c).book
stays_within n b c w = let k = step_kept n b c w.shaped w.within in record { shaped = k.0; within = k.1 }

pub still_within : (n : ℕ) (b : Book) (c : Call) → WithinLimits n b → (a : Answered) → a ≡ step n b c → WithinLimits n a.book
still_within n b c w a e = rw e (stays_within n b c w)

pub never_beyond : NeverBeyond
unfolding step trade_set
never_beyond n s os (Operation.Single c) h = within_passes n (run n (opening n s).book os) c (run_within n s os h)
never_beyond n s os (Operation.Set ts) h = within_passes_set n (run n (opening n s).book os) ts (run_within n s os h)

-- ---- a refused opening

size_zero : (t : Bool) (s : ℕ) → (◌≡◌ {A = ℕ} (cond t 0 5) 0 → ⊥) → cond t s 0 ≡ 0
size_zero true s h = absurd (h refl)
size_zero false s h = refl

beyond : (n s : ℕ) → ((opening n s).code ≡ 0 → ⊥) → within_limits n (opening n s).book ≡ false
unfolding within_limits figures_hold
beyond n s h = rw (size_zero (is_size s) s h)

pub refused_beyond : RefusedBeyond
unfolding step refusal trade_set set_refusal
refused_beyond n s h = record { operations = any; reports = λ positions cash. rw (beyond n s h) }
  where
    any : (o : Operation) → (answered n (opening n s).book o).code ≡ 2
    any (Operation.Single c) = rw (beyond n s h)
    any (Operation.Set ts) = rw (beyond n s h)
