-- What is known of a call that no refusal meets: none of the sentences is met.
--     passed       the sentences, by name
--     unmet        of a list of sentences that gives no number, none is met
--     never_met    a number that stands nowhere in a list never comes of it
--     first_of_both, none_of_both     of one list after another
-- Assumes nothing.
use mathlib.Core.Path.{◌≡◌, refl, sym, ◌∙◌}
use mathlib.Core.Bool.{Bool, true, false, not, cond, ◌&&◌, true≢false}
use mathlib.Core.List.{List, [], ◌∷◌, ◌++◌}
use Prim.Native.Nat.{ℕ, zero, suc}
use lib.Dec.{eqb}
use borrow.Author.Tests.{eq-eqb, not-true}
use Rattle.std.proofs.lemmas.Bool.{and_parts}
use Rattle.integers.proofs.Tests.{◌and◌}
use Rattle.calls.specs.declared.Call.{Call}
use Rattle.refusals.specs.Refusals.{halt_forbids, outside_table, outside_field, runs_back, crossed, unpriced, Accounts, sentences, first_met}

-- whether the sentence at a place of a list is met
abbrev pub met_at : List (ℕ × Bool) → ℕ → Bool
met_at [] i = false
met_at (s ∷ rest) zero = s.1
met_at (s ∷ rest) (suc i) = met_at rest i

-- whether a number is none of a list's
abbrev pub is_none : ℕ → List (ℕ × Bool) → Bool
is_none number [] = true
is_none number (s ∷ rest) = not (eqb s.0 number) && is_none number rest

other : (m n : ℕ) → not (eqb m n) ≡ true → m ≡ n → ⊥
other m n h e = true≢false (sym h ∙ rw (eq-eqb m n e))

pub unmet : (l : List (ℕ × Bool)) → is_none 0 l ≡ true → first_met l ≡ 0 → (i : ℕ) → met_at l i ≡ false
unmet [] some h i = refl
unmet ((number, true) ∷ rest) some h i = absurd (other number 0 (and_parts (not (eqb number 0)) (is_none 0 rest) some).0 h)
unmet ((number, false) ∷ rest) some h zero = refl
unmet ((number, false) ∷ rest) some h (suc i) = unmet rest (and_parts (not (eqb number 0)) (is_none 0 rest) some).1 h i

pub never_met : (number : ℕ) (l : List (ℕ × Bool)) → is_none number ((0, false) ∷ l) ≡ true → first_met l ≡ number → ⊥
never_met number [] none h = other 0 number (and_parts (not (eqb 0 number)) true none).0 h
never_met number ((m, true) ∷ rest) none h =
    other m number (and_parts (not (eqb m number)) (is_none number rest) (and_parts (not (eqb 0 number)) (not (eqb m number) && is_none number rest) none).1).0 h
never_met number ((m, false) ∷ rest) none h =
    let start = and_parts (not (eqb 0 number)) (not (eqb m number) && is_none number rest) none in
    never_met number rest (rw (start.0, (and_parts (not (eqb m number)) (is_none number rest) start.1).1)) h

pub record Passed (forbidden halted : Bool) (latest found : ℕ) (c : Call) (a : Accounts) : Type 0 where
  pub day : forbidden ≡ false
  pub halt : halt_forbids halted c ≡ false
  pub month : outside_table c ≡ false
  pub field : outside_field c ≡ false
  pub time : runs_back latest c ≡ false
  pub market : crossed c ≡ false
  pub accounts : a.missing ≡ false
  pub volume : a.volume ≡ false
  pub position : a.position ≡ false
  pub price : unpriced found c ≡ false

pub passed : (forbidden halted : Bool) (latest price : ℕ) (c : Call) (a : Accounts) → first_met (sentences forbidden halted latest price c a) ≡ 0 → Passed forbidden halted latest price c a
passed forbidden halted latest price c a h =
    let u = unmet (sentences forbidden halted latest price c a) refl h in
    record { day = u 0; halt = u 1; month = u 2; field = u 3; time = u 4; market = u 5; accounts = u 6; volume = u 7; position = u 8; price = u 9 }

-- ---- one list after another

pub first_of_both : (xs ys : List (ℕ × Bool)) → is_none 0 xs ≡ true → first_met (xs ++ ys) ≡ cond (eqb (first_met xs) 0) (first_met ys) (first_met xs)
first_of_both [] ys some = refl
first_of_both ((number, true) ∷ rest) ys some = rw (not-true (eqb number 0) (and_parts (not (eqb number 0)) (is_none 0 rest) some).0)
first_of_both ((number, false) ∷ rest) ys some = first_of_both rest ys (and_parts (not (eqb number 0)) (is_none 0 rest) some).1

pub none_of_both : (number : ℕ) (xs ys : List (ℕ × Bool)) → is_none number xs ≡ true → is_none number ys ≡ true → is_none number (xs ++ ys) ≡ true
none_of_both number [] ys hx hy = hy
none_of_both number (s ∷ rest) ys hx hy =
    let h = and_parts (not (eqb s.0 number)) (is_none number rest) hx in
    h.0 and none_of_both number rest ys h.1 hy
