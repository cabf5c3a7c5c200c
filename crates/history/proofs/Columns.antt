-- Laws of columns: a table's entries, a column of one value, and a table with one entry written or raised. Assumes nothing.
use mathlib.Core.Path.{◌≡◌, refl, sym, ◌∙◌, ap, ap₂}
use mathlib.Core.Logic.{◌≢◌}
use mathlib.Core.Bool.{Bool, true, false, cond}
use mathlib.Core.List.{List, ◌∷◌}
use Prim.Native.Nat.{ℕ, zero, suc, ◌+◌, ◌<◌}
use native.Mathlib.Omega.{arith}
use native.Mathlib.Nat.{add-zero}
use lib.Dec.{T, eqb, eqb→eq, eqb_refl}
use lib.IntN.{ℤ, pos, ◌+ℤ◌, +ℤ_idr}
use lib.ListN.{get_or, set, replicate}
use Rattle.columns.specs.Columns.{table, raise, raise_count}

module _ {A : Type 0} where
  pub table_ext : (n : ℕ) (f g : ℕ → A) → ((j : ℕ) → j < n → f j ≡ g j) → table n f ≡ table n g
  unfolding table
  table_ext zero f g e = refl
  table_ext (suc n) f g e = ap₂ (λ (x : A) (l : List A). x ∷ l) (e 0 (omega arith)) (table_ext n (λ j. f (suc j)) (λ j. g (suc j)) (λ j h. e (suc j) (omega arith)))

  pub replicate_table : (n : ℕ) (x : A) → replicate n x ≡ table n (λ j. x)
  unfolding table
  replicate_table zero x = refl
  replicate_table (suc n) x = ap (λ (l : List A). x ∷ l) (replicate_table n x)

  -- the entry i written anew from what it was: g is the column after it
  pub write_table : (n i : ℕ) (d : A) (u : A → A) (f g : ℕ → A) → g i ≡ u (f i) → ((j : ℕ) → j ≢ i → g j ≡ f j)
      → set (table n f) i (u (get_or (table n f) i d)) ≡ table n g
  unfolding table
  write_table zero i d u f g same other = refl
  write_table (suc n) zero d u f g same other =
      ap₂ (λ (x : A) (l : List A). x ∷ l) (sym same) (table_ext n (λ j. f (suc j)) (λ j. g (suc j)) (λ j h. sym (other (suc j) (omega arith))))
  write_table (suc n) (suc i) d u f g same other =
      ap₂ (λ (x : A) (l : List A). x ∷ l) (sym (other 0 (omega arith))) (write_table n i d u (λ j. f (suc j)) (λ j. g (suc j)) same (λ j h. other (suc j) (omega arith)))

  -- x for the account i, and y for any other
  pub at_same : (i : ℕ) (x y : A) → cond (eqb i i) x y ≡ x
  at_same i x y = go (eqb i i) (eqb_refl i)
    where
      go : (t : Bool) → T t → cond t x y ≡ x
      go true h = refl
      go false h = absurd h

  pub at_other : (i j : ℕ) (x y : A) → j ≢ i → cond (eqb i j) x y ≡ y
  at_other i j x y n = go (eqb i j) (λ h. n (sym (eqb→eq i j h)))
    where
      go : (t : Bool) → (T t → ⊥) → cond t x y ≡ y
      go true h = absurd (h tt)
      go false h = refl

-- an entry raised
pub raise_table : (n i : ℕ) (z : ℤ) (f : ℕ → ℤ) → raise (table n f) i z ≡ table n (λ j. f j +ℤ cond (eqb i j) z (pos 0))
raise_table n i z f =
    write_table n i (pos 0) (λ x. x +ℤ z) f (λ j. f j +ℤ cond (eqb i j) z (pos 0))
    (ap (λ x. f i +ℤ x) (at_same i z (pos 0))) (λ j k. ap (λ x. f j +ℤ x) (at_other i j z (pos 0) k) ∙ +ℤ_idr (f j))

pub raise_count_table : (n i k : ℕ) (f : ℕ → ℕ) → raise_count (table n f) i k ≡ table n (λ j. f j + cond (eqb i j) k 0)
raise_count_table n i k f =
    write_table n i 0 (λ x. x + k) f (λ j. f j + cond (eqb i j) k 0)
    (ap (λ x. f i + x) (at_same i k 0)) (λ j h. ap (λ x. f j + x) (at_other i j k 0 h) ∙ add-zero (f j))
