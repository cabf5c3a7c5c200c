-- The same trades by set or singly: the statements of specs/SetOrSingly.antt.
--     set_or_singly, singly_then_set, set_of_one
-- Assumes nothing.
use mathlib.Core.Path.{◌≡◌, refl, sym, ◌∙◌, ap}
use mathlib.Core.Bool.{Bool, true, false, not, cond, true≢false}
use mathlib.Core.List.{List, [], ◌∷◌, ◌++◌}
use Prim.Native.Nat.{ℕ}
use lib.Dec.{eqb}
use Rattle.std.specs.Prelude.{Option, None}
use Rattle.figures.specs.declared.Fixing.{Fixing}
use Rattle.outcomes.specs.Effects.{fixing_of}
use Rattle.counterparties.proofs.Present.{in_range}
use Rattle.integers.specs.Lists.{Every}
use Rattle.calls.specs.declared.Call.TheVariants as call
use Rattle.calls.specs.declared.Trade.{Trade}
use Rattle.calls.specs.declared.Call.{Call}
use Rattle.counterparties.specs.Counterparties.{are_accounts}
use Rattle.trading.specs.Inner.{Passes}
use Rattle.ledger.specs.declared.Book.{Book}
use Rattle.ledger.specs.Effects.{effect}
use Rattle.ledger.specs.Refusals.{refusal, within_limits}
use Rattle.ledger.specs.Step.{step}
use Rattle.ledger.specs.Sets.{set_effect, trade_sentences, set_refusal, trade_set}
use Rattle.ledger.specs.Operations.{Operation, run, accepted_calls, singles, trade_calls}
use Rattle.ledger.specs.Keeping.{Shaped}
use Rattle.ledger.specs.SetOrSingly.{AllAccepted, SetOrSingly, SinglyThenSet, SetOfOne}
use Rattle.ledger.proofs.Passed.{passed, passes_itself}
use Rattle.ledger.proofs.SetRefusal.{by_passed}
use Rattle.ledger.proofs.Shape.{shape_kept}
use Rattle.ledger.proofs.Held.{Held, held}
use Rattle.ledger.proofs.Interim.{volumes_of, positions_of, volumes_after, positions_after}
use Rattle.ledger.proofs.Keeping.{limits_kept}

-- ---- by set or singly

module _ (n : ℕ) where
  -- accepted trades, one by one, and what follows them
  one_by_one : (b : Book) (ts : List Trade) (os : List Operation) → AllAccepted n b (trade_calls ts) → run n b (singles (trade_calls ts) ++ os) ≡ run n (set_effect n b ts) os
  unfolding run set_effect step
  one_by_one b [] os a = refl
  one_by_one b (t ∷ ts) os a =
      let e : (step n b (call.Trade t)).book ≡ effect n b (call.Trade t) = rw a.0 in
      ap (λ (x : Book). run n x (singles (trade_calls ts) ++ os)) e ∙ one_by_one (effect n b (call.Trade t)) ts os (rw e at a.1)

  calls_one_by_one : (b : Book) (ts : List Trade) (os : List Operation) → AllAccepted n b (trade_calls ts) → accepted_calls n b (singles (trade_calls ts) ++ os) ≡ trade_calls ts ++ accepted_calls n (set_effect n b ts) os
  unfolding accepted_calls set_effect step
  calls_one_by_one b [] os a = refl
  calls_one_by_one b (t ∷ ts) os a =
      let e : (step n b (call.Trade t)).book ≡ effect n b (call.Trade t) = rw a.0 in
      rw a.0 (ap (λ (cs : List Call). call.Trade t ∷ cs) (calls_one_by_one (effect n b (call.Trade t)) ts os (rw e at a.1)))

pub set_or_singly : SetOrSingly
unfolding run accepted_calls trade_set
set_or_singly n b ts os r a =
    record { book = one_by_one n b ts os a ∙ rw r; calls = calls_one_by_one n b ts os a ∙ rw r }

-- ---- trades that are each accepted

each_passes : (n : ℕ) (b : Book) (ts : List Trade) → AllAccepted n b (trade_calls ts) → Every (Passes n) ts
each_passes n b [] a = tt
each_passes n b (t ∷ ts) a = (passes_itself n b t (passed n b (call.Trade t) a.0), each_passes n (step n b (call.Trade t)).book ts a.1)

still_held : (n : ℕ) (b : Book) (ts : List Trade) → Shaped n b → Held n b → AllAccepted n b (trade_calls ts) → Held n (set_effect n b ts)
unfolding set_effect step
still_held n b [] s h a = h
still_held n b (t ∷ ts) s h a =
    let e : (step n b (call.Trade t)).book ≡ effect n b (call.Trade t) = rw a.0 in
    still_held n (effect n b (call.Trade t)) ts (shape_kept n b (call.Trade t) s) (held n (effect n b (call.Trade t)) (limits_kept n b (call.Trade t) s a.0)) (rw e at a.1)

pub singly_then_set : SinglyThenSet
singly_then_set n b [] s few a = absurd (true≢false (sym few))
singly_then_set n b (t ∷ ts) s few a =
    let p = passed n b (call.Trade t) a.0 in
    let h = still_held n b (t ∷ ts) s (held n b p.limits) a in
    by_passed n b (t ∷ ts) p.limits p.sentences.day p.sentences.halt few (each_passes n b (t ∷ ts) a) (volumes_of h) (positions_of h)

-- ---- one trade

module _ (n : ℕ) (b : Book) (t : Trade) where
  same_number : (w m : Bool) → within_limits n b ≡ w → are_accounts n t ≡ m → set_refusal n b (t ∷ []) ≡ refusal n b (call.Trade t)
  unfolding set_refusal refusal trade_sentences set_effect effect
  same_number false m limits range = rw limits
  same_number true false limits range = rw (limits, range)
  same_number true true limits range =
      let h = held n b limits in
      let accounts = in_range n t (ap not range) in
      rw (limits, range, volumes_after n b t h accounts, positions_after n b t h accounts)

  -- a trade finds nothing, accepted or not
  either_way : {A : Type 0} (x : Bool) (nothing : A) → nothing ≡ cond x nothing nothing
  either_way true nothing = refl
  either_way false nothing = refl

pub set_of_one : SetOfOne
unfolding trade_set step set_effect fixing_of
set_of_one n b t =
    let e = same_number n b t (within_limits n b) (are_accounts n t) refl refl in
    let accepted = eqb (refusal n b (call.Trade t)) 0 in
    rw (e, ← either_way n b t {A = Option Fixing} accepted None, ← either_way n b t {A = Option ℕ} accepted None)
