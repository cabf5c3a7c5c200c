-- What tests say, alone and joined by `&&` and `||`.
--     tests             `omega tests` reads and proves tests of numbers
--     leb_same          two tests that hold together
--     either            what holds for either of two tests of which one holds
--     and               two tests that hold, joined
--     each, none        each of the tests a && b && c && … that hold, and of a || b || c || … that fail, by its place
-- `either` and `and` are the kit's `or_cases` and `and_from`, here with the test before what follows from it, and with the tests unnamed: a citation stays one line.
-- Assumes nothing.
use mathlib.Core.Path.{◌≡◌, refl}
use mathlib.Core.Bool.{Bool, true, false, ◌&&◌, ◌||◌}
use mathlib.Core.List.{List, [], ◌∷◌}
use Prim.Native.Nat.{ℕ, zero, suc, ◌≤◌}
use native.Mathlib.Omega.{arith}
use lib.Dec.{leb}
use lib.ListN.{get_or}
use borrow.Author.Tests.{leb-true, leb-false, ltb-true, ltb-false, eqb-true, le-leb, lt-leb, lt-ltb, le-ltb, eq-eqb}
use Rattle.std.proofs.lemmas.Bool.{and_parts, or_parts}

pub ruleset tests = (arith, leb-true, leb-false, ltb-true, ltb-false, eqb-true, le-leb, lt-leb, lt-ltb, le-ltb, eq-eqb)

pub leb_same : (a b c d : ℕ) → (a ≤ b → c ≤ d) → (c ≤ d → a ≤ b) → leb a b ≡ leb c d
leb_same a b c d f g = go (leb a b) (leb c d) refl refl
  where
    go : (s t : Bool) → leb a b ≡ s → leb c d ≡ t → s ≡ t
    go true true p q = refl
    go true false p q = absurd (omega (arith, f (leb-true a b p), leb-false c d q))
    go false true p q = absurd (omega (arith, leb-false a b p, g (leb-true c d q)))
    go false false p q = refl

pub either : (s t : Bool) {P : Type 0} → s || t ≡ true → (s ≡ true → P) → (t ≡ true → P) → P
either true t h f g = f refl
either false t h f g = g h

infixl 35 ◌and◌
pub ◌and◌ : {s t : Bool} → s ≡ true → t ≡ true → s && t ≡ true
◌and◌ p q = rw (p, q)

-- a, b, c, … joined from the left
abbrev pub joined : (Bool → Bool → Bool) → Bool → List Bool → Bool
joined op a [] = a
joined op a (b ∷ l) = joined op (op a b) l

module _ (op : Bool → Bool → Bool) (value : Bool) (apart : (s t : Bool) → op s t ≡ value → (s ≡ value) × (t ≡ value)) where
  first : (a : Bool) (l : List Bool) → joined op a l ≡ value → a ≡ value
  first a [] h = h
  first a (b ∷ l) h = (apart a b (first (op a b) l h)).0

  at_place : (a : Bool) (l : List Bool) → joined op a l ≡ value → (i : ℕ) → get_or (a ∷ l) i value ≡ value
  at_place a l h zero = first a l h
  at_place a [] h (suc i) = refl
  at_place a (b ∷ l) h (suc zero) = (apart a b (first (op a b) l h)).1
  at_place a (b ∷ l) h (suc (suc i)) = at_place (op a b) l h (suc i)

pub each : (a : Bool) (l : List Bool) → joined ◌&&◌ a l ≡ true → (i : ℕ) → get_or (a ∷ l) i true ≡ true
each = at_place ◌&&◌ true and_parts

pub none : (a : Bool) (l : List Bool) → joined ◌||◌ a l ≡ false → (i : ℕ) → get_or (a ∷ l) i false ≡ false
none = at_place ◌||◌ false or_parts
