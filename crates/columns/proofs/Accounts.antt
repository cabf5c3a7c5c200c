-- Columns of numbers: what is said of every account, sums over the accounts, and a column's entries.
--     all_at, all_by     what holds of every account holds of each, and conversely
--     one_more           what holds of the accounts before one and of it
--     all_not            what doesn't hold of one account
--     sum_most           a sum of numbers with a bound
--     sum_raised         the sum over a column with one entry raised
--     table_length, table_at     a table's length and entries
-- Assumes nothing.
use mathlib.Core.Path.{◌≡◌, refl, sym, ◌∙◌, ap, subst}
use mathlib.Core.Bool.{Bool, true, false, ◌&&◌, true≢false}
use mathlib.Core.List.{List, [], ◌∷◌}
use mathlib.Core.Logic.{◌⊎◌, ⊎_elim}
use Prim.Native.Nat.{ℕ, zero, suc, ◌+◌, ◌*◌, ◌<◌, ◌≤◌}
use native.Mathlib.Nat.{eq-or-lt_of_le}
use native.Mathlib.Numerals.{add-one}
use native.Mathlib.Omega.{arith}
use lib.ListN.{length, get_or}
use lib.Seq.{get_or-set_same, get_or-set_other}
use Rattle.integers.proofs.Tests.{◌and◌, each}
use Rattle.columns.specs.Columns.{count_at, raise_count, table, all_below, sum_below}

-- ---- of every account

pub all_below_zero : (p : ℕ → Bool) → all_below 0 p ≡ true
unfolding all_below
all_below_zero p = refl

pub all_below_suc : (n : ℕ) (p : ℕ → Bool) → all_below (suc n) p ≡ (all_below n p && p n)
unfolding all_below
all_below_suc n p = refl

-- the accounts passed and the next one
pub one_more : (i : ℕ) (p : ℕ → Bool) → all_below i p ≡ true → p i ≡ true → all_below (i + 1) p ≡ true
one_more i p h k = ap (λ (n : ℕ). all_below n p) (add-one i) ∙ all_below_suc i p ∙ (h and k)

-- the last account, or one before it
last_or_before : {i n : ℕ} → i < suc n → (i ≡ n) ⊎ (i < n)
last_or_before h = eq-or-lt_of_le (omega arith)

pub all_at : (n : ℕ) (p : ℕ → Bool) → all_below n p ≡ true → (i : ℕ) → i < n → p i ≡ true
unfolding all_below
all_at zero p h i l = absurd (omega arith)
all_at (suc n) p h i l =
    let t = each (all_below n p) (p n ∷ []) h in
    ⊎_elim (λ e. rw e (t 1)) (λ k. all_at n p (t 0) i k) (last_or_before l)

pub all_by : (n : ℕ) (p : ℕ → Bool) → ((i : ℕ) → i < n → p i ≡ true) → all_below n p ≡ true
unfolding all_below
all_by zero p h = refl
all_by (suc n) p h = all_by n p (λ i l. h i (omega arith)) and h n (omega arith)

-- one account of which it doesn't hold
pub all_not : (n : ℕ) (p : ℕ → Bool) (i : ℕ) → i < n → p i ≡ false → all_below n p ≡ false
all_not n p i l h = not_so (all_below n p) refl
  where
    not_so : (t : Bool) → all_below n p ≡ t → t ≡ false
    not_so true e = absurd (true≢false (sym (all_at n p e i l) ∙ h))
    not_so false e = refl

-- ---- sums over the accounts

pub sum_below_zero : (f : ℕ → ℕ) → sum_below 0 f ≡ 0
unfolding sum_below
sum_below_zero f = refl

pub sum_below_suc : (n : ℕ) (f : ℕ → ℕ) → sum_below (suc n) f ≡ sum_below n f + f n
unfolding sum_below
sum_below_suc n f = refl

-- of numbers with a bound
pub sum_most : (n most : ℕ) (f : ℕ → ℕ) → ((i : ℕ) → i < n → f i ≤ most) → sum_below n f ≤ n * most
unfolding sum_below
sum_most zero most f h = omega arith
sum_most (suc n) most f h = omega (arith, sum_most n most f (λ i l. h i (omega arith)), h n (omega arith))

sum_same : (n : ℕ) (f g : ℕ → ℕ) → ((i : ℕ) → i < n → f i ≡ g i) → sum_below n f ≡ sum_below n g
unfolding sum_below
sum_same zero f g h = refl
sum_same (suc n) f g h = omega (arith, sum_same n f g (λ i l. h i (omega arith)), h n (omega arith))

-- of a column with one entry raised
pub sum_raised : (n : ℕ) (l : List ℕ) (j q : ℕ) → j < n → n ≤ length l → sum_below n (count_at (raise_count l j q)) ≡ sum_below n (count_at l) + q
unfolding sum_below
sum_raised zero l j q h k = absurd (omega arith)
sum_raised (suc n) l j q h k =
    let other : (i : ℕ) → (i ≡ j → ⊥) → count_at (raise_count l j q) i ≡ count_at l i = λ i e. get_or-set_other l j i (count_at l j + q) 0 e in
    ⊎_elim (λ (e : j ≡ n).
    omega (arith, sum_same n (count_at (raise_count l j q)) (count_at l) (λ i m. other i (λ f. omega arith)), subst (λ m. count_at (raise_count l j q) m ≡ count_at l m + q) e (get_or-set_same l j (count_at l j + q) 0 (omega arith))))
    (λ (m : j < n). omega (arith, sum_raised n l j q m (omega arith), other n (λ f. omega arith)))
    (last_or_before h)

-- ---- a table's entries

pub table_length : {A : Type 0} (n : ℕ) (f : ℕ → A) → length (table n f) ≡ n
unfolding table
table_length zero f = refl
table_length (suc n) f = ap suc (table_length n (λ j. f (suc j)))

pub table_at : {A : Type 0} (n : ℕ) (f : ℕ → A) (i : ℕ) (d : A) → i < n → get_or (table n f) i d ≡ f i
unfolding table
table_at zero f i d h = absurd (omega arith)
table_at (suc n) f zero d h = refl
table_at (suc n) f (suc i) d h = table_at n (λ j. f (suc j)) i d (omega arith)
