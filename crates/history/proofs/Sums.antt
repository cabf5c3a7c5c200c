-- Sums over lists and over accounts: their laws, and when a sum over all accounts cancels. Assumes nothing.
use mathlib.Core.Path.{◌≡◌, refl, sym, ◌∙◌, ap, ap₂}
use mathlib.Core.Bool.{cond}
use mathlib.Core.List.{List, [], ◌∷◌}
use Prim.Native.Nat.{ℕ, zero, suc, ◌<◌}
use native.Mathlib.Omega.{arith}
use native.Mathlib.Nat.{not-suc-le-zero, le_of_suc-le-suc}
use lib.Dec.{eqb-suc-suc}
use lib.IntN.{ℤ, pos, ◌+ℤ◌, ◌*ℤ◌, zero-*ℤ, +ℤ_idl, +ℤ_idr}
use Rattle.integers.proofs.Ring.{ring, ◌⊕◌, ◌⊗◌}
use Rattle.integers.specs.Lists.{Every, sum}
use Rattle.columns.specs.Columns.{table}
use Rattle.history.specs.Cash.{of_account}
use Rattle.history.specs.Demand3.{total}
use Rattle.history.proofs.Columns.{table_ext, at_same, at_other}

-- ---- the sum of f over n accounts

abbrev pub over_all : ℕ → (ℕ → ℤ) → ℤ
over_all n f = total (table n f)

pub all_zero : (n : ℕ) → over_all n (λ j. pos 0) ≡ pos 0
unfolding sum table
all_zero zero = refl
all_zero (suc n) = ap (λ z. z +ℤ pos 0) (all_zero n)

pub all_add : (n : ℕ) (f g : ℕ → ℤ) → over_all n (λ j. f j +ℤ g j) ≡ over_all n f +ℤ over_all n g
unfolding sum table
all_add zero f g = refl
all_add (suc n) f g =
    ap (λ z. z +ℤ (f 0 +ℤ g 0)) (all_add n (λ j. f (suc j)) (λ j. g (suc j)))
    ∙ ring 4 (λ a b x y. a ⊕ b ⊕ (x ⊕ y)) (λ a b x y. (a ⊕ x) ⊕ (b ⊕ y)) refl (over_all n (λ j. f (suc j))) (over_all n (λ j. g (suc j))) (f 0) (g 0)

pub all_mul : (n : ℕ) (f : ℕ → ℤ) (c : ℤ) → over_all n (λ j. f j *ℤ c) ≡ over_all n f *ℤ c
unfolding sum table
all_mul zero f c = sym (zero-*ℤ c)
all_mul (suc n) f c =
    ap (λ z. z +ℤ f 0 *ℤ c) (all_mul n (λ j. f (suc j)) c) ∙ ring 3 (λ a x c. a ⊗ c ⊕ x ⊗ c) (λ a x c. (a ⊕ x) ⊗ c) refl (over_all n (λ j. f (suc j))) (f 0) c

-- the one account is counted once
pub all_account : (n i : ℕ) (z : ℤ) → i < n → over_all n (λ j. of_account i j z) ≡ z
unfolding sum table
all_account zero i z h = absurd (not-suc-le-zero h)
all_account (suc n) zero z h =
    ap₂ ◌+ℤ◌ (ap total (table_ext n (λ j. of_account 0 (suc j) z) (λ j. pos 0) (λ j k. at_other 0 (suc j) z (pos 0) (omega arith))) ∙ all_zero n) (at_same 0 z (pos 0))
    ∙ +ℤ_idl z
all_account (suc n) (suc i) z h =
    ap₂ ◌+ℤ◌
    (ap total (table_ext n (λ j. of_account (suc i) (suc j) z) (λ j. of_account i j z) (λ j k. ap (λ t. cond t z (pos 0)) (eqb-suc-suc i j))) ∙ all_account n i z (le_of_suc-le-suc h))
    (at_other (suc i) 0 z (pos 0) (omega arith))
    ∙ +ℤ_idr z

-- ---- what cancels

-- a column that sums to zero, multiplied
pub scaled_cancels : (n : ℕ) (f : ℕ → ℤ) (c : ℤ) → over_all n f ≡ pos 0 → over_all n (λ j. f j *ℤ c) ≡ pos 0
scaled_cancels n f c e = all_mul n f c ∙ ap (λ z. z *ℤ c) e ∙ zero-*ℤ c

-- if what each element of a list gives the accounts cancels, so does what the list gives them
pub sum_cancels : {A : Type 0} (n : ℕ) (f : ℕ → A → ℤ) (xs : List A) → Every (λ x. over_all n (λ j. f j x) ≡ pos 0) xs → over_all n (λ j. sum (f j) xs) ≡ pos 0
unfolding sum
sum_cancels n f [] e = all_zero n
sum_cancels n f (x ∷ xs) e = all_add n (λ j. sum (f j) xs) (λ j. f j x) ∙ ap₂ ◌+ℤ◌ (sum_cancels n f xs e.1) e.0
