-- What a book holds while the trades of a set are booked: its limits but those of v and of present positions.
--     interim, held_by     a book within its limits holds it, and back, where every v and every position is within its limit
--     volumes_after, positions_after     those of all accounts after a trade, by those of its two
-- Assumes nothing.
use mathlib.Core.Path.{◌≡◌, refl, sym, ◌∙◌, ap}
use mathlib.Core.Bool.{Bool, true, false, ◌&&◌}
use mathlib.Core.List.{List, [], ◌∷◌}
use Prim.Native.Nat.{ℕ, ◌*◌, ◌<◌, ◌≤◌}
use lib.IntN.{ℤ, pos, nat_abs}
use borrow.Author.Tests.{le-leb}
use Rattle.integers.proofs.Tests.{tests, ◌and◌, each}
use Rattle.prices.specs.Price.{largest_price}
use Rattle.calls.specs.declared.Trade.{Trade}
use Rattle.day.proofs.Held.{HeldFinal}
use Rattle.figures.proofs.Held.{HeldFigures}
use Rattle.columns.specs.Columns.{entry, count_at, all_below, sum_below}
use Rattle.columns.specs.Limits.{most_position, most_posting, volume_holds, position_holds, volumes_hold, positions_hold}
use Rattle.columns.proofs.Accounts.{all_at, all_by}
use Rattle.counterparties.specs.Counterparties.{exchanged, counted, volume_stays, position_stays}
use Rattle.counterparties.proofs.Raised.{untouched, of_each}
use Rattle.ledger.specs.declared.Book.{Book}
use Rattle.ledger.proofs.Held.{Held}

-- whether account j is within its limit of v, and of its position
abbrev volume_at : List ℕ → ℕ → Bool
volume_at volume j = volume_holds (count_at volume j)

abbrev position_at : List ℤ → ℕ → Bool
position_at position j = position_holds (entry position j)

pub record InterimAccount (b : Book) (j : ℕ) : Type 0 where
  pub opening : nat_abs (entry b.columns.opening j) ≤ most_position
  pub cost : nat_abs (entry b.columns.cost j) ≤ count_at b.columns.volume j * largest_price
  pub cash : nat_abs (entry b.columns.cash j) ≤ b.figures.closed * most_posting

pub record Interim (n : ℕ) (b : Book) : Type 0 where
  pub figures : HeldFigures b.figures
  pub account : (j : ℕ) → j < n → InterimAccount b j
  pub final : HeldFinal b.figures.day.trades.settling (sum_below n (count_at b.columns.volume))

module _ {n : ℕ} {b : Book} where
  pub interim : Held n b → Interim n b
  interim h =
      record { figures = h.figures; account = λ j l. let a = h.account j l in record { opening = a.opening; cost = a.cost; cash = a.cash }; final = h.final }

  pub volumes_of : Held n b → volumes_hold n b.columns.volume ≡ true
  volumes_of h = all_by n (volume_at b.columns.volume) (λ j l. le-leb _ _ (h.account j l).volume)

  pub positions_of : Held n b → positions_hold n b.columns.position ≡ true
  positions_of h = all_by n (position_at b.columns.position) (λ j l. le-leb _ _ (h.account j l).position)

  pub held_by : Interim n b → volumes_hold n b.columns.volume ≡ true → positions_hold n b.columns.position ≡ true → Held n b
  held_by i v p =
      record {
        figures = i.figures;
        account = λ j l.
            let a = i.account j l in
            record {
              opening = a.opening;
              position = omega (tests, all_at n (position_at b.columns.position) p j l);
              volume = omega (tests, all_at n (volume_at b.columns.volume) v j l);
              cost = a.cost;
              cash = a.cash;
            };
        final = i.final;
      }

-- ---- after a trade between accounts that are there, what is said of all accounts is said of its two

module _ (n : ℕ) (t : Trade) (range : (t.buyer < n) × (t.seller < n)) (p q : ℕ → Bool) (rest : (j : ℕ) → (j ≡ t.buyer → ⊥) → (j ≡ t.seller → ⊥) → q j ≡ p j) (before : all_below n p ≡ true) where
  by_both : (q t.buyer && q t.seller) ≡ true → all_below n q ≡ true
  by_both h =
      let two = each (q t.buyer) (q t.seller ∷ []) h in
      all_by n q (λ j l. of_each (λ i. q i ≡ true) j t.buyer t.seller (two 0) (two 1) (λ x y. rest j x y ∙ all_at n p before j l))

  of_two : all_below n q ≡ (q t.buyer && q t.seller)
  of_two = go (all_below n q) (q t.buyer && q t.seller) refl refl
    where
      go : (x y : Bool) → all_below n q ≡ x → (q t.buyer && q t.seller) ≡ y → all_below n q ≡ (q t.buyer && q t.seller)
      go true y e f = e ∙ sym (all_at n q e t.buyer range.0 and all_at n q e t.seller range.1)
      go false true e f = by_both f ∙ sym f
      go false false e f = e ∙ sym f

pub volumes_after : (n : ℕ) (b : Book) (t : Trade) → Held n b → (t.buyer < n) × (t.seller < n) → volumes_hold n (counted b.columns.volume t) ≡ volume_stays b.columns.volume t
volumes_after n b t h range =
    of_two n t range (volume_at b.columns.volume) (volume_at (counted b.columns.volume t))
    (λ j x y. ap volume_holds (untouched b.columns.volume t.buyer t.seller j _ _ 0 x y)) (volumes_of h)

pub positions_after : (n : ℕ) (b : Book) (t : Trade) → Held n b → (t.buyer < n) × (t.seller < n) → positions_hold n (exchanged b.columns.position t t.quantity) ≡ position_stays b.columns.position t
positions_after n b t h range =
    of_two n t range (position_at b.columns.position) (position_at (exchanged b.columns.position t t.quantity))
    (λ j x y. ap position_holds (untouched b.columns.position t.buyer t.seller j _ _ (pos 0) x y)) (positions_of h)
