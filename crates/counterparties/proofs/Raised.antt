-- Entries of a column after one or two of them are raised.
--     entry_raised, count_raised   how far an entry rises where one is raised
--     exchanged_most, counted_most     and by a trade
--     buyer_entry, seller_entry     those of a trade's two accounts, which may be one
--     untouched      those of the other accounts;  of_each  what holds of all three holds of each
--     cost_raised    a cost within its contracts at the largest price stays so
-- Assumes nothing.
use mathlib.Core.Path.{◌≡◌, refl, sym, ◌∙◌, ap, subst}
use mathlib.Core.Bool.{Bool, true, false, cond}
use mathlib.Core.List.{List, [], ◌∷◌}
use mathlib.Core.Logic.{◌⊎◌, inl, inr, ⊎_elim}
use Prim.Native.Nat.{ℕ, zero, suc, ◌+◌, ◌*◌, ◌<◌, ◌≤◌}
use native.Mathlib.Decide.{ℕ_discrete}
use native.Mathlib.Omega.{arith}
use lib.Dec.{eqb}
use lib.IntN.{ℤ, pos, neg_ℤ, nat_abs, ◌+ℤ◌, ◌-ℤ◌, +ℤ_assoc, +ℤ_invr, +ℤ_idr}
use lib.ListN.{length, get_or, set, length-set}
use lib.Seq.{get_or-set_same, get_or-set_other}
use borrow.Author.Tests.{eqb-true, eqb-false}
use Rattle.integers.proofs.Sizes.{abs_add, abs_neg}
use Rattle.prices.specs.Price.{largest_price}
use Rattle.calls.specs.declared.Trade.{Trade}
use Rattle.columns.specs.Columns.{entry, count_at, raise, raise_count}
use Rattle.counterparties.specs.Counterparties.{exchanged, counted}

-- ---- one entry raised

-- after a store an entry is what was stored, at its place, or what it was
stored : {A : Type 0} (l : List A) (j i : ℕ) (a d : A) → ((i ≡ j) × (get_or (set l j a) i d ≡ a)) ⊎ (get_or (set l j a) i d ≡ get_or l i d)
stored [] j i a d = inr refl
stored (x ∷ l) zero zero a d = inl (refl, refl)
stored (x ∷ l) zero (suc i) a d = inr refl
stored (x ∷ l) (suc j) zero a d = inr refl
stored (x ∷ l) (suc j) (suc i) a d = ⊎_elim (λ w. inl (ap suc w.0, w.1)) (λ w. inr w) (stored l j i a d)

-- no entry rises by more than one of them is raised
pub entry_raised : (l : List ℤ) (j i : ℕ) (z : ℤ) → nat_abs (entry (raise l j z) i) ≤ nat_abs (entry l i) + nat_abs z
entry_raised l j i z =
    ⊎_elim (λ w. omega (arith, ap nat_abs (w.1 ∙ ap (λ k. entry l k +ℤ z) (sym w.0)), abs_add (entry l i) z)) (λ w. omega (arith, ap nat_abs w)) (stored l j i (entry l j +ℤ z) (pos 0))

pub count_raised : (l : List ℕ) (j i q : ℕ) → count_at (raise_count l j q) i ≤ count_at l i + q
count_raised l j i q =
    ⊎_elim (λ w. omega (arith, w.1, ap (count_at l) w.0)) (λ w. omega (arith, w)) (stored l j i (count_at l j + q) 0)

-- a cost within the contracts at the largest price stays so where both are raised
pub cost_raised : (l : List ℤ) (v : List ℕ) (j i q : ℕ) (z : ℤ) → j < length l → j < length v → nat_abs z ≤ q * largest_price → nat_abs (entry l i) ≤ count_at v i * largest_price → nat_abs (entry (raise l j z) i) ≤ count_at (raise_count v j q) i * largest_price
cost_raised l v j i q z hl hv hz h =
    elim (ℕ_discrete i j) [
      | yes e ↦ subst (λ k. nat_abs (entry l k) ≤ count_at v k * largest_price → nat_abs (entry (raise l j z) k) ≤ count_at (raise_count v j q) k * largest_price) (sym e)
          (λ k. omega (arith, ap nat_abs (get_or-set_same l j (entry l j +ℤ z) (pos 0) hl), get_or-set_same v j (count_at v j + q) 0 hv, abs_add (entry l j) z)) h
      | no e ↦ omega (arith, ap nat_abs (get_or-set_other l j i (entry l j +ℤ z) (pos 0) e), get_or-set_other v j i (count_at v j + q) 0 e)
    ]

-- ---- the two accounts of a trade

-- whether the buyer b and the seller s are one account
by_accounts : (b s : ℕ) (P : Bool → Type 0) → (b ≡ s → P true) → ((b ≡ s → ⊥) → P false) → P (eqb b s)
by_accounts b s P f g = go (eqb b s) refl
  where
    go : (t : Bool) → eqb b s ≡ t → P t
    go true e = f (eqb-true b s e)
    go false e = g (eqb-false b s e)

module _ (l : List ℤ) (b s : ℕ) (q : ℕ) (hb : b < length l) (hs : s < length l) where
  back : (i : ℕ) → i < length l → entry (raise (raise l i (pos q)) i (neg_ℤ (pos q))) i ≡ entry l i
  back i h =
      get_or-set_same (raise l i (pos q)) i (entry (raise l i (pos q)) i +ℤ neg_ℤ (pos q)) (pos 0) (rw length-set h)
      ∙ ap (λ z. z +ℤ neg_ℤ (pos q)) (get_or-set_same l i (entry l i +ℤ pos q) (pos 0) h)
      ∙ +ℤ_assoc (entry l i) (pos q) (neg_ℤ (pos q)) ∙ ap (λ z. entry l i +ℤ z) (+ℤ_invr (pos q)) ∙ +ℤ_idr (entry l i)

  pub buyer_entry : entry (raise (raise l b (pos q)) s (neg_ℤ (pos q))) b ≡ entry l b +ℤ pos (cond (eqb b s) 0 q)
  buyer_entry =
      by_accounts b s (λ t. entry (raise (raise l b (pos q)) s (neg_ℤ (pos q))) b ≡ entry l b +ℤ pos (cond t 0 q))
      (λ e. subst (λ (i : ℕ). entry (raise (raise l b (pos q)) i (neg_ℤ (pos q))) b ≡ entry l b +ℤ pos 0) e (back b hb ∙ sym (+ℤ_idr (entry l b))))
      (λ f. get_or-set_other (raise l b (pos q)) s b (entry (raise l b (pos q)) s +ℤ neg_ℤ (pos q)) (pos 0) f ∙ get_or-set_same l b (entry l b +ℤ pos q) (pos 0) hb)

  pub seller_entry : entry (raise (raise l b (pos q)) s (neg_ℤ (pos q))) s ≡ entry l s -ℤ pos (cond (eqb b s) 0 q)
  seller_entry =
      by_accounts b s (λ t. entry (raise (raise l b (pos q)) s (neg_ℤ (pos q))) s ≡ entry l s -ℤ pos (cond t 0 q))
      (λ e. subst (λ (i : ℕ). entry (raise (raise l i (pos q)) s (neg_ℤ (pos q))) s ≡ entry l s -ℤ pos 0) (sym e) (back s hs ∙ sym (+ℤ_idr (entry l s))))
      (λ f. get_or-set_same (raise l b (pos q)) s (entry (raise l b (pos q)) s +ℤ neg_ℤ (pos q)) (pos 0) (rw length-set hs)
      ∙ ap (λ z. z +ℤ neg_ℤ (pos q)) (get_or-set_other l b s (entry l b +ℤ pos q) (pos 0) (λ e. f (sym e))))

-- no entry moves by more than both sides of it
pub exchanged_most : (l : List ℤ) (t : Trade) (a j : ℕ) → nat_abs (entry (exchanged l t a) j) ≤ nat_abs (entry l j) + 2 * a
exchanged_most l t a j =
    omega (arith, entry_raised (raise l t.buyer (pos a)) t.seller j (neg_ℤ (pos a)), entry_raised l t.buyer j (pos a), abs_neg (pos a))

pub counted_most : (l : List ℕ) (t : Trade) (j : ℕ) → count_at (counted l t) j ≤ count_at l j + 2 * t.quantity
counted_most l t j = omega (arith, count_raised (raise_count l t.buyer t.quantity) t.seller j t.quantity, count_raised l t.buyer j t.quantity)

-- ---- the other accounts

-- two stores leave what stands at another place
pub untouched : {A : Type 0} (l : List A) (j k i : ℕ) (x y d : A) → (i ≡ j → ⊥) → (i ≡ k → ⊥) → get_or (set (set l j x) k y) i d ≡ get_or l i d
untouched l j k i x y d hj hk = get_or-set_other (set l j x) k i y d hk ∙ get_or-set_other l j i x d hj

-- what holds of the buyer, of the seller and of each other account holds of each
pub of_each : (P : ℕ → Type 0) (i buyer seller : ℕ) → P buyer → P seller → ((i ≡ buyer → ⊥) → (i ≡ seller → ⊥) → P i) → P i
of_each P i buyer seller hb hs ho =
    elim (ℕ_discrete i buyer) [
      | yes e ↦ subst P (sym e) hb
      | no e ↦ elim (ℕ_discrete i seller) [ yes f ↦ subst P (sym f) hs | no f ↦ ho e f ]
    ]
