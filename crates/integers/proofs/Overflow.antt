-- Straight-line signed arithmetic at 64 bits, by reflection: that nothing wraps is one computed test.
--     Op              an expression over slots: a slot is a number that the machine reads from its bits (`val z`), or an unsigned number that was cast (`nat n`)
--     eval ρ e        its value;   bits ρ e   what the machine has of it, each operand read back from its bits
--     Within ρ β      each slot's size is within its bound
--     ok β e          the bounds, added and multiplied up, stay below 2 ^ 63 at every operation: `tt` at numerals
--     safe W e tt     the last operation of e fits: a need `add-..`, `sub-..`, `mul-..`
--     runs W e tt     what the machine reads back of e is its value: a `returns`
--     sized W e       nat_abs of the value is within the bound
-- Assumes nothing.
use mathlib.Core.Path.{◌≡◌, refl, sym, ◌∙◌, ap₂, subst}
use mathlib.Core.Bool.{Bool, true, false}
use mathlib.Core.List.{List, [], ◌∷◌}
use Prim.Native.Nat.{ℕ, zero, suc, ◌+◌, ◌*◌, ◌≤◌, ◌^◌, zero-le}
use native.Mathlib.Nat.{le_trans, add-le-add, le_refl}
use native.Mathlib.Omega.{arith}
use lib.Dec.{T, ltb, ltb→lt}
use lib.IntN.{ℤ, pos, nat_abs, ◌+ℤ◌, ◌-ℤ◌, ◌*ℤ◌}
use mir.Syntax.{w64}
use mir.Val.{SFits, to_z, of_z}
use mir.Facts.{to_z-of_z, to_z_pos}
use Rattle.std.proofs.lemmas.Int.{fits_signed_from_abs}
use Rattle.integers.proofs.Sizes.{abs_add, abs_sub, abs_mul_le}

pub data Slot : Type 0 where
  val : ℤ → Slot
  nat : ℕ → Slot

abbrev pub value_of : Slot → ℤ
value_of (val z) = z
value_of (nat n) = pos n

abbrev pub bits_of : Slot → ℕ
bits_of (val z) = of_z w64 z
bits_of (nat n) = n

abbrev pub slot : List Slot → ℕ → Slot
slot [] i = val (pos 0)
slot (x ∷ ρ) zero = x
slot (x ∷ ρ) (suc i) = slot ρ i

abbrev pub bound : List ℕ → ℕ → ℕ
bound [] i = 0
bound (b ∷ β) zero = b
bound (b ∷ β) (suc i) = bound β i

pub data Op : Type 0 where
  arg : ℕ → Op
  lit : ℤ → Op
  add sub mul : Op → Op → Op

abbrev pub eval : List Slot → Op → ℤ
eval ρ (arg i) = value_of (slot ρ i)
eval ρ (lit z) = z
eval ρ (add a b) = eval ρ a +ℤ eval ρ b
eval ρ (sub a b) = eval ρ a -ℤ eval ρ b
eval ρ (mul a b) = eval ρ a *ℤ eval ρ b

abbrev pub bits : List Slot → Op → ℕ
bits ρ (arg i) = bits_of (slot ρ i)
bits ρ (lit z) = of_z w64 z
bits ρ (add a b) = of_z w64 (to_z w64 (bits ρ a) +ℤ to_z w64 (bits ρ b))
bits ρ (sub a b) = of_z w64 (to_z w64 (bits ρ a) -ℤ to_z w64 (bits ρ b))
bits ρ (mul a b) = of_z w64 (to_z w64 (bits ρ a) *ℤ to_z w64 (bits ρ b))

-- the last operation, on operands read back
abbrev pub last : List Slot → Op → ℤ
last ρ (arg i) = value_of (slot ρ i)
last ρ (lit z) = z
last ρ (add a b) = to_z w64 (bits ρ a) +ℤ to_z w64 (bits ρ b)
last ρ (sub a b) = to_z w64 (bits ρ a) -ℤ to_z w64 (bits ρ b)
last ρ (mul a b) = to_z w64 (bits ρ a) *ℤ to_z w64 (bits ρ b)

abbrev pub most : List ℕ → Op → ℕ
most β (arg i) = bound β i
most β (lit z) = nat_abs z
most β (add a b) = most β a + most β b
most β (sub a b) = most β a + most β b
most β (mul a b) = most β a * most β b

abbrev pub both : Bool → Bool → Bool
both true t = t
both false t = false

abbrev pub ok : List ℕ → Op → Bool
ok β (arg i) = ltb (bound β i) (2 ^ 63)
ok β (lit z) = ltb (nat_abs z) (2 ^ 63)
ok β (add a b) = both (ltb (most β a + most β b) (2 ^ 63)) (both (ok β a) (ok β b))
ok β (sub a b) = both (ltb (most β a + most β b) (2 ^ 63)) (both (ok β a) (ok β b))
ok β (mul a b) = both (ltb (most β a * most β b) (2 ^ 63)) (both (ok β a) (ok β b))

infixr 5 ◌▹◌
pub data Within : List Slot → List ℕ → Type 0 where
  done : Within [] []
  ◌▹◌ : {x : Slot} {ρ : List Slot} {b : ℕ} {β : List ℕ} → nat_abs (value_of x) ≤ b → Within ρ β → Within (x ∷ ρ) (b ∷ β)

both_l : (s t : Bool) → T (both s t) → T s
both_l true t h = tt
both_l false t h = h

both_r : (s t : Bool) → T (both s t) → T t
both_r true t h = h
both_r false t h = absurd h

slot_within : {ρ : List Slot} {β : List ℕ} → Within ρ β → (i : ℕ) → nat_abs (value_of (slot ρ i)) ≤ bound β i
slot_within done i = zero-le
slot_within (h ▹ w) zero = h
slot_within (h ▹ w) (suc i) = slot_within w i

module _ {ρ : List Slot} {β : List ℕ} (W : Within ρ β) where
  pub sized : (e : Op) → nat_abs (eval ρ e) ≤ most β e
  sized (arg i) = slot_within W i
  sized (lit z) = le_refl (nat_abs z)
  sized (add a b) = le_trans (abs_add (eval ρ a) (eval ρ b)) (add-le-add (sized a) (sized b))
  sized (sub a b) = le_trans (abs_sub (eval ρ a) (eval ρ b)) (add-le-add (sized a) (sized b))
  sized (mul a b) = abs_mul_le (eval ρ a) (eval ρ b) (sized a) (sized b)

  under : (e : Op) → T (ok β e) → T (ltb (most β e) (2 ^ 63))
  under (arg i) h = h
  under (lit z) h = h
  under (add a b) h = both_l (ltb (most β a + most β b) (2 ^ 63)) (both (ok β a) (ok β b)) h
  under (sub a b) h = both_l (ltb (most β a + most β b) (2 ^ 63)) (both (ok β a) (ok β b)) h
  under (mul a b) h = both_l (ltb (most β a * most β b) (2 ^ 63)) (both (ok β a) (ok β b)) h

  pub fits : (e : Op) → T (ok β e) → SFits w64 (eval ρ e)
  fits e h = fits_signed_from_abs w64 (eval ρ e) (omega (arith, sized e, ltb→lt (most β e) (2 ^ 63) (under e h)))

  slot_back : (x : Slot) → SFits w64 (value_of x) → to_z w64 (bits_of x) ≡ value_of x
  slot_back (val z) f = to_z-of_z f
  slot_back (nat n) f = to_z_pos w64 f.sfits

  parts : (t : Bool) (a b : Op) → T (both t (both (ok β a) (ok β b))) → T (ok β a) × T (ok β b)
  parts t a b h = let k = both_r t (both (ok β a) (ok β b)) h in (both_l (ok β a) (ok β b) k, both_r (ok β a) (ok β b) k)

  pub runs : (e : Op) → T (ok β e) → to_z w64 (bits ρ e) ≡ eval ρ e
  runs (arg i) h = slot_back (slot ρ i) (fits (arg i) h)
  runs (lit z) h = to_z-of_z (fits (lit z) h)
  runs (add a b) h = let k = parts (ltb (most β a + most β b) (2 ^ 63)) a b h in ap₂ (λ x y. to_z w64 (of_z w64 (x +ℤ y))) (runs a k.0) (runs b k.1) ∙ to_z-of_z (fits (add a b) h)
  runs (sub a b) h = let k = parts (ltb (most β a + most β b) (2 ^ 63)) a b h in ap₂ (λ x y. to_z w64 (of_z w64 (x -ℤ y))) (runs a k.0) (runs b k.1) ∙ to_z-of_z (fits (sub a b) h)
  runs (mul a b) h = let k = parts (ltb (most β a * most β b) (2 ^ 63)) a b h in ap₂ (λ x y. to_z w64 (of_z w64 (x *ℤ y))) (runs a k.0) (runs b k.1) ∙ to_z-of_z (fits (mul a b) h)

  last_is : (e : Op) → T (ok β e) → last ρ e ≡ eval ρ e
  last_is (arg i) h = refl
  last_is (lit z) h = refl
  last_is (add a b) h = let k = parts (ltb (most β a + most β b) (2 ^ 63)) a b h in ap₂ ◌+ℤ◌ (runs a k.0) (runs b k.1)
  last_is (sub a b) h = let k = parts (ltb (most β a + most β b) (2 ^ 63)) a b h in ap₂ ◌-ℤ◌ (runs a k.0) (runs b k.1)
  last_is (mul a b) h = let k = parts (ltb (most β a * most β b) (2 ^ 63)) a b h in ap₂ ◌*ℤ◌ (runs a k.0) (runs b k.1)

  pub safe : (e : Op) → T (ok β e) → SFits w64 (last ρ e)
  safe e h = subst (SFits w64) (sym (last_is e h)) (fits e h)
