-- Each column of a book has an entry for each account: of a fresh one, and after a call or a set.
-- Assumes nothing.
use mathlib.Core.List.{List, [], ◌∷◌}
use Prim.Native.Nat.{ℕ}
use mathlib.Core.Path.{◌≡◌}
use lib.IntN.{ℤ}
use lib.ListN.{length, length-set, length-replicate, set}
use Rattle.std.proofs.lemmas.Bool.{cond_both}
use Rattle.day.specs.Day.{is_final_date}
use Rattle.closing.specs.Closing.{positions_left}
use Rattle.calls.specs.declared.Call.TheVariants as call
use Rattle.calls.specs.declared.Trade.{Trade}
use Rattle.calls.specs.declared.Call.{Call}
use Rattle.outcomes.specs.Effects.{figures_after}
use Rattle.columns.proofs.Accounts.{table_length}
use Rattle.figures.specs.declared.Figures.{Figures}
use Rattle.ledger.specs.declared.Book.{Book}
use Rattle.ledger.specs.Effects.{with_figures, effect}
use Rattle.ledger.specs.Step.{fresh}
use Rattle.ledger.specs.Sets.{set_effect}
use Rattle.ledger.specs.Keeping.{Shaped}

pub fresh_shaped : (n s : ℕ) → Shaped n (fresh n s)
fresh_shaped n s =
    record { opening = length-replicate n _; position = length-replicate n _; cost = length-replicate n _; volume = length-replicate n _; cash = length-replicate n _ }

same_columns : (n : ℕ) (b : Book) (f : Figures) → Shaped n b → Shaped n (with_figures b f)
same_columns n b f s = record { opening = s.opening; position = s.position; cost = s.cost; volume = s.volume; cash = s.cash }

left_length : (n : ℕ) (f : Figures) (position : List ℤ) → length position ≡ n → length (positions_left n f position) ≡ n
left_length n f position h = cond_both (is_final_date f.day) _ _ (λ p. length p ≡ n) (λ e. length-replicate n _) (λ e. h)

pub shape_kept : (n : ℕ) (b : Book) (c : Call) → Shaped n b → Shaped n (effect n b c)
unfolding effect
shape_kept n b (call.Quote m) s = same_columns n b (figures_after b.figures (call.Quote m)) s
shape_kept n b (call.Trade t) s =
    record { opening = s.opening; position = simp length-set s.position; cost = simp length-set s.cost; volume = simp length-set s.volume; cash = s.cash }
shape_kept n b call.Halt s = same_columns n b (figures_after b.figures call.Halt) s
shape_kept n b call.Resume s = same_columns n b (figures_after b.figures call.Resume) s
shape_kept n b (call.MinuteEnd u) s = same_columns n b (figures_after b.figures (call.MinuteEnd u)) s
shape_kept n b (call.Fix set) s = same_columns n b (figures_after b.figures (call.Fix set)) s
shape_kept n b call.Close s =
    let left = left_length n b.figures b.columns.position s.position in
    record { opening = left; position = left; cost = length-replicate n _; volume = length-replicate n _; cash = table_length n _ }
shape_kept n b (call.DayLength l) s = same_columns n b (figures_after b.figures (call.DayLength l)) s
shape_kept n b (call.TimedQuote q) s = same_columns n b (figures_after b.figures (call.TimedQuote q)) s
shape_kept n b (call.FinalDate m) s = same_columns n b (figures_after b.figures (call.FinalDate m)) s
shape_kept n b (call.FinalFix v) s = same_columns n b (figures_after b.figures (call.FinalFix v)) s

pub shape_kept_by_set : (n : ℕ) (b : Book) (ts : List Trade) → Shaped n b → Shaped n (set_effect n b ts)
unfolding set_effect
shape_kept_by_set n b [] s = s
shape_kept_by_set n b (t ∷ ts) s = shape_kept_by_set n (effect n b (call.Trade t)) ts (shape_kept n b (call.Trade t) s)
