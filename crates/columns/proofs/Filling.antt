-- A column that a loop fills from its first entry on.
--     filling i f l     the column l with its first i entries given by f
--     fill_next         one more entry;  fill_read  the next one is as it was;  fill_end  all of them
--     table_of          a column is the table of its entries
-- Assumes nothing.
use mathlib.Core.Path.{◌≡◌, refl, sym, ◌∙◌, ap}
use mathlib.Core.List.{List, [], ◌∷◌, ◌++◌}
use Prim.Native.Nat.{ℕ, zero, suc, ◌+◌, ◌<◌}
use native.Mathlib.Numerals.{add-one}
use native.Mathlib.Omega.{arith}
use lib.ListN.{length, get_or, set, drop}
use lib.Seq.{drop-cons, set_at, append_snoc}
use Rattle.columns.specs.Columns.{table}
use Rattle.columns.proofs.Accounts.{table_length}

module _ {A : Type 0} where
  abbrev pub filling : ℕ → (ℕ → A) → List A → List A
  filling i f l = table i f ++ drop i l

  table_snoc : (n : ℕ) (f : ℕ → A) → table (suc n) f ≡ table n f ++ (f n ∷ [])
  unfolding table
  table_snoc zero f = refl
  table_snoc (suc n) f = ap {B = List A} (λ l. f 0 ∷ l) (table_snoc n (λ j. f (suc j)))

  pub fill_start : (f : ℕ → A) (l : List A) → l ≡ filling 0 f l
  unfolding table
  fill_start f l = refl

  pub fill_next : (i : ℕ) (f : ℕ → A) (l : List A) (d : A) → i < length l → set (filling i f l) i (f i) ≡ filling (i + 1) f l
  fill_next i f l d h =
      ap (λ (r : List A). set (table i f ++ r) i (f i)) (drop-cons l i d h)
      ∙ set_at (table i f) (get_or l i d) (drop (suc i) l) (f i) i (table_length i f)
      ∙ sym (ap (λ (r : List A). r ++ drop (suc i) l) (table_snoc i f) ∙ append_snoc (table i f) (f i) (drop (suc i) l))
      ∙ ap (λ (k : ℕ). filling k f l) (sym (add-one i))

  pub fill_read : (i : ℕ) (f : ℕ → A) (l : List A) (d : A) → get_or (filling i f l) i d ≡ get_or l i d
  unfolding table
  fill_read zero f l d = refl
  fill_read (suc i) f [] d = past i (λ j. f (suc j))
    where
      past : (i : ℕ) (f : ℕ → A) → get_or (table i f ++ []) i d ≡ d
      past zero f = refl
      past (suc i) f = past i (λ j. f (suc j))
  fill_read (suc i) f (x ∷ l) d = fill_read i (λ j. f (suc j)) l d

  pub fill_end : (n : ℕ) (f : ℕ → A) (l : List A) → length l ≡ n → filling n f l ≡ table n f
  unfolding table
  fill_end zero f [] h = refl
  fill_end zero f (x ∷ l) h = absurd (omega arith)
  fill_end (suc n) f [] h = absurd (omega arith)
  fill_end (suc n) f (x ∷ l) h = ap {B = List A} (λ r. f 0 ∷ r) (fill_end n (λ j. f (suc j)) l (omega arith))

  pub table_of : (n : ℕ) (l : List A) (d : A) → length l ≡ n → table n (λ j. get_or l j d) ≡ l
  unfolding table
  table_of zero [] d h = refl
  table_of zero (x ∷ l) d h = absurd (omega arith)
  table_of (suc n) [] d h = absurd (omega arith)
  table_of (suc n) (x ∷ l) d h = ap {B = List A} (λ r. x ∷ r) (table_of n l d (omega arith))
