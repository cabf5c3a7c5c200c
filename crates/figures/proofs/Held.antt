-- What figures within their limits hold, as facts that `omega` reads, and back: figures that hold no more are within their limits.
--     held_figures, figures_hold-held     both ways
--     size_most                      the size
-- Assumes nothing.
use mathlib.Core.Path.{◌≡◌}
use mathlib.Core.Bool.{true}
use mathlib.Core.List.{[], ◌∷◌}
use Prim.Native.Nat.{ℕ, ◌≤◌}
use lib.Dec.{leb, eqb}
use borrow.Author.Tests.{le-leb}
use Rattle.integers.proofs.Tests.{tests, either, ◌and◌, each}
use Rattle.prices.specs.Price.{none_or_price}
use Rattle.refusals.specs.Refusals.{most_days}
use Rattle.day.specs.Limits.{day_holds}
use Rattle.day.proofs.Held.{HeldDay, held_day, day_holds-held}
use Rattle.figures.specs.declared.Figures.{Figures}
use Rattle.figures.specs.Figures.{hundredth, tenth, is_size, figures_hold}

pub record HeldFigures (f : Figures) : Type 0 where
  pub size : is_size f.size ≡ true
  pub closed : f.closed ≤ most_days
  pub price : none_or_price f.previous.price ≡ true
  pub index : none_or_price f.previous.index ≡ true
  pub day : HeldDay f.day

pub held_figures : (f : Figures) → figures_hold f ≡ true → HeldFigures f
unfolding figures_hold
held_figures f h =
    let t = each (is_size f.size) (leb f.closed most_days ∷ none_or_price f.previous.price ∷ none_or_price f.previous.index ∷ day_holds f.day ∷ []) h in
    record { size = t 0; closed = omega (tests, t 1); price = t 2; index = t 3; day = held_day f.day (t 4) }

pub figures_hold-held : (f : Figures) → HeldFigures f → figures_hold f ≡ true
unfolding figures_hold
figures_hold-held f h = h.size and le-leb _ _ h.closed and h.price and h.index and day_holds-held f.day h.day

pub size_most : (s : ℕ) → is_size s ≡ true → s ≤ tenth
size_most s h = either (eqb s hundredth) (eqb s tenth) h (λ e. omega tests) (λ e. omega tests)
