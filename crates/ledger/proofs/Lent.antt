-- What a book within its limits gives the inner layer.
--     position_any, cost_any, volume_any     the entries of any account
--     tradable, figures_held, fixable, closable     what its functions require
--     step_within                                   refusal 2 passes
--     on_figures, trade-answered, close-answered  the answer to a call that touches no account, to a trade and to a close, from its parts;
--                                                   the call is known by an equation, as in an arm of a `match`
-- Assumes nothing.
use mathlib.Core.Path.{◌≡◌, refl, sym, ◌∙◌, ap, subst}
use mathlib.Core.Bool.{Bool, true, false, cond}
use mathlib.Core.List.{List}
use mathlib.Core.Logic.{⊎_elim}
use Prim.Native.Nat.{ℕ, ◌*◌, ◌<◌, ◌≤◌}
use native.Mathlib.Omega.{arith}
use lib.Dec.{eqb}
use lib.IntN.{pos, nat_abs}
use lib.ListN.{length, get_or}
use Rattle.std.proofs.lemmas.Bool.{cases_lt}
use Rattle.std.proofs.lemmas.List.{get_or_past}
use Rattle.prices.specs.Price.{largest_price}
use Rattle.calls.specs.declared.Call.TheVariants as call
use Rattle.calls.specs.declared.Trade.{Trade}
use Rattle.calls.specs.declared.Call.{Call}
use Rattle.outcomes.specs.Effects.{figures_after}
use Rattle.refusals.specs.Refusals.{first_met}
use Rattle.outcomes.specs.Outcome.{figures_refusal, outcome, outcome_by}
use Rattle.figures.specs.Fixing.{Fixable}
use Rattle.figures.proofs.Held.{figures_hold-held, size_most}
use Rattle.columns.specs.Columns.{accounts, count_at, entry}
use Rattle.columns.specs.Limits.{most_position, most_volume}
use Rattle.closing.specs.Closing.{closed_columns}
use Rattle.closing.specs.Inner.{Closable, CloseAnswered}
use Rattle.trading.specs.Trading.{trade_refusal, traded_columns}
use Rattle.trading.specs.Inner.{Tradable, TradeAnswered}
use Rattle.ledger.specs.Effects.{with_figures, effect}
use Rattle.ledger.specs.Refusals.{sentences_of, refusal}
use Rattle.ledger.specs.Step.{Answered, answer_of, answer_by, step}
use Rattle.ledger.specs.Inner.{WithinLimits}
use Rattle.figures.specs.declared.Figures.{Figures}
use Rattle.figures.specs.declared.Found.{Found}
use Rattle.figures.specs.Figures.{Outcome, outcome_of, figures_hold}
use Rattle.columns.specs.declared.Columns.{Columns}
use Rattle.refusals.specs.declared.Refusal.{Refusal}
use Rattle.std.specs.Prelude.{Result}
use Rattle.ledger.specs.declared.Book.{Book}
use Rattle.ledger.proofs.Held.{Held, held, contracts_most}

-- what holds of every entry of a list and of 0 holds at any place of it
at_any : {A : Type 0} (l : List A) (j : ℕ) (zero : A) (P : A → Type 0) → P zero → (j < length l → P (get_or l j zero)) → P (get_or l j zero)
at_any l j zero P past inside = ⊎_elim inside (λ h. subst P (sym (get_or_past l j zero h)) past) (cases_lt j (length l))

abbrev Called : Type 0
Called = Result Found Refusal

module _ (b : Book) (w : WithinLimits accounts b) where
  holds : Held accounts b
  holds = held accounts b w.within

  -- an account's cost is within its contracts at the largest price
  cost_most : (j : ℕ) → j < accounts → nat_abs (entry b.columns.cost j) ≤ most_volume * largest_price
  cost_most j h = let a = holds.account j h in omega (arith, a.cost, a.volume)

  -- the entries of any account: one that isn't there has nothing
  pub position_any : (j : ℕ) → nat_abs (entry b.columns.position j) ≤ most_position
  position_any j =
      at_any b.columns.position j (pos 0) (λ z. nat_abs z ≤ most_position) (omega arith) (λ h. (holds.account j (rw (← w.shaped.position) h)).position)

  pub cost_any : (j : ℕ) → nat_abs (entry b.columns.cost j) ≤ most_volume * largest_price
  cost_any j = at_any b.columns.cost j (pos 0) (λ z. nat_abs z ≤ most_volume * largest_price) (omega arith) (λ h. cost_most j (rw (← w.shaped.cost) h))

  pub volume_any : (j : ℕ) → count_at b.columns.volume j ≤ most_volume
  volume_any j = at_any b.columns.volume j 0 (λ v. v ≤ most_volume) (omega arith) (λ h. (holds.account j (rw (← w.shaped.volume) h)).volume)

  pub tradable : (t : Trade) → Tradable b.figures b.columns t most_position
  tradable t =
      record {
        positions = record { buyer = position_any t.buyer; seller = position_any t.seller };
        costs = record { buyer = omega (arith, cost_any t.buyer); seller = omega (arith, cost_any t.seller) };
        volumes = record { buyer = omega (arith, volume_any t.buyer); seller = omega (arith, volume_any t.seller) };
        contracts = omega (arith, contracts_most accounts b holds);
        gross = omega (arith, contracts_most accounts b holds, holds.final.gross.high);
      }

  pub figures_held : figures_hold b.figures ≡ true
  figures_held = figures_hold-held b.figures holds.figures

  pub fixable : Fixable b.figures
  fixable = record { gross = holds.final.gross.high; midpoints = holds.figures.day.sum.high; size = size_most b.figures.size holds.figures.size }

  pub closable : Closable b.figures b.columns
  closable =
      record {
        figures = figures_held;
        cash_length = w.shaped.cash;
        postable = λ j h. record { figures = figures_held; opening_size = (holds.account j h).opening; position_size = (holds.account j h).position; cost_size = cost_most j h };
        cash_size = λ j h. omega (arith, (holds.account j h).cash, holds.figures.closed);
      }

-- what a call on a book within its limits is answered
abbrev pub answered : ℕ → Book → Call → Answered
answered n b c = answer_by (first_met (sentences_of n b c)) n b c

pub step_within : (n : ℕ) (b : Book) (c : Call) → WithinLimits n b → answered n b c ≡ step n b c
unfolding step refusal
step_within n b c w = rw w.within

-- the answer of an outcome, with these columns
abbrev with_columns : Columns → Outcome → Answered
with_columns columns o = record { code = o.code; fixing = o.fixing; friday = o.friday; book = record { figures = o.figures; columns = columns } }

through : (t : Bool) (f g : Figures) (c d : Columns) → ◌≡◌ {A = Book} (record { figures = cond t f g; columns = cond t c d }) (cond t (record { figures = f; columns = c }) (record { figures = g; columns = d }))
through true f g c d = refl
through false f g c d = refl

same : (t : Bool) (f g : Figures) (c : Columns) → ◌≡◌ {A = Book} (record { figures = cond t f g; columns = c }) (cond t (record { figures = f; columns = c }) (record { figures = g; columns = c }))
same true f g c = refl
same false f g c = refl

module _ {n : ℕ} {b : Book} (w : WithinLimits n b) {c : Call} {f : Figures} where
  pub on_figures : {d : Call} → c ≡ d → (r : Called) → first_met (sentences_of n b d) ≡ figures_refusal b.figures d → effect n b d ≡ with_figures b (figures_after b.figures d) → outcome_of r f ≡ outcome b.figures d → answer_of r (record { figures = f; columns = b.columns }) ≡ step n b c
  on_figures {d} is r number after e = ap (with_columns b.columns) e ∙ by_number ∙ step_within n b d w ∙ ap (step n b) (sym is)
    where
      by_number : with_columns b.columns (outcome b.figures d) ≡ answered n b d
      by_number = rw (number, after, same (eqb (figures_refusal b.figures d) 0) (figures_after b.figures d) b.figures b.columns)

  pub trade-answered : {t : Trade} {r : Called} {columns : Columns} → c ≡ call.Trade t → TradeAnswered n b.figures b.columns t r f columns → answer_of r (record { figures = f; columns = columns }) ≡ step n b c
  unfolding effect
  trade-answered {t} {columns} is a = ap (with_columns columns) a.outcome ∙ by_number ∙ step_within n b (call.Trade t) w ∙ ap (step n b) (sym is)
    where
      by_number : with_columns columns (outcome_by (trade_refusal n b.figures b.columns t) b.figures (call.Trade t)) ≡ answered n b (call.Trade t)
      by_number =
          rw (
            a.columns,
            ap (λ (o : Outcome). o.code) a.outcome,
            through (eqb (trade_refusal n b.figures b.columns t) 0) (figures_after b.figures (call.Trade t)) b.figures (traded_columns b.columns t) b.columns,
          )

  pub close-answered : {r : Called} {columns : Columns} → c ≡ call.Close → CloseAnswered n b.figures b.columns r f columns → answer_of r (record { figures = f; columns = columns }) ≡ step n b c
  unfolding effect
  close-answered {columns} is a = ap (with_columns columns) a.answer ∙ by_number ∙ step_within n b call.Close w ∙ ap (step n b) (sym is)
    where
      by_number : with_columns columns (outcome b.figures call.Close) ≡ answered n b call.Close
      by_number =
          rw (
            a.columns,
            ap (λ (o : Outcome). o.code) a.answer,
            through (eqb (figures_refusal b.figures call.Close) 0) (figures_after b.figures call.Close) b.figures (closed_columns n b.figures b.columns) b.columns,
          )
