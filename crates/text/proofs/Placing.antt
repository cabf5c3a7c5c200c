-- Laws of texts put piece by piece.
--     then, room_first, room_rest   two texts one after another
--     nothing                       no text
--     puts_then, puts_in_words, puts_nothing      the same of texts put into a window
--     length_placed, kept           the buffer keeps its length
--     placed_over                   what was put from the text's start on is the part of it that the buffer lies over
--     placed_part                   what is put from a place on, by what stands before that place and what follows it
--     over_front                    as much of a text as fits, by its length
--     front_next                    and one byte more of it
-- Assumes nothing.
use mathlib.Core.Path.{◌≡◌, refl, sym, ◌∙◌, ap, subst}
use mathlib.Core.Logic.{inl, inr}
use mathlib.Core.List.{List, [], ◌∷◌, ◌++◌}
use mathlib.Core.Bool.{Bool, true, false, cond}
use Prim.Native.Nat.{ℕ, zero, suc, ◌+◌, ◌-◌, ◌<◌, min}
use native.Mathlib.Omega.{arith}
use lib.Dec.{leb}
use lib.ListN.{length, set, take, drop, get_or, length-set, length-append}
use Rattle.std.proofs.lemmas.List.{take_min, drop_min}
use Rattle.std.proofs.lemmas.Bool.{cases_lt}
use Rattle.integers.proofs.Tests.{tests}
use Rattle.text.specs.declared.Window.{Window}
use Rattle.text.specs.Text.{over, placed_byte, placed, Room, Put, Puts}

length_placed_byte : (t : Bool) (i byte : ℕ) (out : List ℕ) → length (cond t (set out i byte) out) ≡ length out
length_placed_byte true i byte out = length-set out i byte
length_placed_byte false i byte out = refl

pub length_placed : (at : ℕ) (text : List ℕ) (from : ℕ) (out : List ℕ) → length (placed at text from out) ≡ length out
unfolding placed
length_placed at [] from out = refl
length_placed at (b ∷ text) from out = length_placed (at + 1) text from _ ∙ length_placed_byte (leb from at) (at - from) b out

pub placed_append : (at : ℕ) (a b : List ℕ) (from : ℕ) (out : List ℕ) → placed at (a ++ b) from out ≡ placed (at + length a) b from (placed at a from out)
unfolding placed
placed_append at [] b from out = let e : at + 0 ≡ at = omega arith in rw e
placed_append at (x ∷ a) b from out =
    let e : at + 1 + length a ≡ at + suc (length a) = omega arith in
    placed_append (at + 1) a b from (placed_byte at x from out) ∙ ap (λ (k : ℕ). placed k b from (placed (at + 1) a from (placed_byte at x from out))) e

-- ---- two texts one after another

pub then : {at : ℕ} {a b : List ℕ} {from : ℕ} {out : List ℕ} {end : ℕ} {after : List ℕ} {end' : ℕ} {after' : List ℕ}
    → Put at a from out end after → Put end b from after end' after' → Put at (a ++ b) from out end' after'
then {at} {a} {b} {from} {out} p q = record {
  end_is = q.end_is ∙ rw (p.end_is, length-append a b) (omega arith);
  out_is = q.out_is ∙ rw (p.end_is, p.out_is, placed_append at a b from out);
}

pub kept : {at : ℕ} {text : List ℕ} {from : ℕ} {out : List ℕ} {end : ℕ} {after : List ℕ} → Put at text from out end after → length after ≡ length out
kept {at} {text} {from} {out} p = ap length p.out_is ∙ length_placed at text from out

pub nothing : (at from : ℕ) (out : List ℕ) → Put at [] from out at out
unfolding placed
nothing at from out = record { end_is = omega arith; out_is = refl }

-- the same text in other words
pub room_first : (at : ℕ) (a b : List ℕ) → Room at (a ++ b) → Room at a
room_first at a b h = omega (arith, h, length-append a b)

pub room_rest : (at : ℕ) (a b : List ℕ) (end : ℕ) → end ≡ at + length a → Room at (a ++ b) → Room end b
room_rest at a b end e h = omega (arith, h, e, length-append a b)

-- ---- texts put into a window

pub puts_then : {first between last : Window} {a b : List ℕ} → Puts first a between → Puts between b last → Puts first (a ++ b) last
puts_then {first} {between} {last} {a} {b} p q = record {
  same_buffer = q.same_buffer ∙ p.same_buffer;
  from_is = q.from_is ∙ p.from_is;
  put = λ (room : Room first.at (a ++ b)).
      let one = p.put (room_first first.at a b room) in
      let two = q.put (room_rest first.at a b between.at one.end_is room) in
      then one (subst (λ (from : ℕ). Put between.at b from between.out.now last.at last.out.now) p.from_is two);
}

pub puts_in_words : {first last : Window} {a b : List ℕ} → a ≡ b → Puts first a last → Puts first b last
puts_in_words {first} {last} e p = subst (λ (text : List ℕ). Puts first text last) e p

pub puts_nothing : (w : Window) → Puts w [] w
puts_nothing w = record { same_buffer = refl; from_is = refl; put = λ (room : Room w.at []). nothing w.at w.from w.out.now }

-- ---- the part that the buffer lies over

-- a text over a buffer from this index on
abbrev over_from : ℕ → List ℕ → List ℕ → List ℕ
over_from zero text out = over text out
over_from (suc i) text [] = []
over_from (suc i) text (o ∷ out) = o ∷ over_from i text out

over_from_nil : (i : ℕ) (out : List ℕ) → over_from i [] out ≡ out
over_from_nil zero out = refl
over_from_nil (suc i) [] = refl
over_from_nil (suc i) (o ∷ out) = ap (λ (l : List ℕ). o ∷ l) (over_from_nil i out)

over_from_next : (i b : ℕ) (text out : List ℕ) → over_from (suc i) text (set out i b) ≡ over_from i (b ∷ text) out
over_from_next zero b text [] = refl
over_from_next zero b text (o ∷ out) = refl
over_from_next (suc i) b text [] = refl
over_from_next (suc i) b text (o ∷ out) = ap (λ (l : List ℕ). o ∷ l) (over_from_next i b text out)

-- from a place within the buffer on, at this index
placed_within : (i : ℕ) (at : ℕ) (text : List ℕ) (from : ℕ) (out : List ℕ) → at ≡ from + i → placed at text from out ≡ over_from i text out
unfolding placed
placed_within i at [] from out e = sym (over_from_nil i out)
placed_within i at (b ∷ text) from out e =
    let t : leb from at ≡ true = omega tests in
    let d : at - from ≡ i = omega arith in
    rw (t, d) (placed_within (suc i) (at + 1) text from (set out i b) (omega arith) ∙ over_from_next i b text out)

-- from a place before it
placed_before : (skip : ℕ) (at : ℕ) (text : List ℕ) (from : ℕ) (out : List ℕ) → at + skip ≡ from → placed at text from out ≡ over (drop skip text) out
unfolding placed
placed_before zero at text from out e = placed_within 0 at text from out (omega arith)
placed_before (suc skip) at [] from out e = refl
placed_before (suc skip) at (b ∷ text) from out e =
    let t : leb from at ≡ false = omega tests in
    rw t (placed_before skip (at + 1) text from out (omega arith))

pub placed_over : (text : List ℕ) (from : ℕ) (out : List ℕ) → placed 0 text from out ≡ over (drop from text) out
placed_over text from out = placed_before from 0 text from out (omega arith)

over_nothing : (text : List ℕ) → over text [] ≡ []
over_nothing [] = refl
over_nothing (b ∷ text) = refl

over_from_rest : (i : ℕ) (text out : List ℕ) → over_from i text out ≡ take i out ++ over text (drop i out)
over_from_rest zero text out = refl
over_from_rest (suc i) text [] = sym (over_nothing text)
over_from_rest (suc i) text (o ∷ out) = ap (λ (l : List ℕ). o ∷ l) (over_from_rest i text out)

-- what stands before the place, and the text over what follows it
pub placed_part : (at from : ℕ) (text out : List ℕ) (passed start : ℕ) → passed ≡ min (from - at) (length text) → start ≡ min (at - from) (length out) → placed at text from out ≡ take start out ++ over (drop passed text) (drop start out)
placed_part at from text out passed start p s =
    elim (cases_lt at from) [
      | inl h ↦
          let none : start ≡ 0 = omega arith in
          rw (none, p, drop_min) (placed_before (from - at) at text from out (omega arith))
      | inr h ↦
          let none : passed ≡ 0 = omega arith in
          rw (none, s, drop_min, take_min) (placed_within (at - from) at text from out (omega arith) ∙ over_from_rest (at - from) text out)
    ]

-- as much of a text as fits, before the rest of the buffer
pub over_front : (n : ℕ) (text out : List ℕ) → n ≡ min (length text) (length out) → take n text ++ drop n out ≡ over text out
over_front n [] out e = let none : n ≡ 0 = omega arith in rw none refl
over_front n (b ∷ text) [] e = let none : n ≡ 0 = omega arith in rw none refl
over_front zero (b ∷ text) (o ∷ out) e = absurd (omega arith)
over_front (suc n) (b ∷ text) (o ∷ out) e = ap (λ (l : List ℕ). b ∷ l) (over_front n text out (omega arith))

-- one byte more of the text in place of the buffer's
pub front_next : (i : ℕ) (text out : List ℕ) → i < length text → i < length out → set (take i text ++ drop i out) i (get_or text i 0) ≡ take (suc i) text ++ drop (suc i) out
front_next i [] out h k = absurd (omega (arith, h))
front_next i (b ∷ text) [] h k = absurd (omega (arith, k))
front_next zero (b ∷ text) (o ∷ out) h k = refl
front_next (suc i) (b ∷ text) (o ∷ out) h k = ap (λ (l : List ℕ). b ∷ l) (front_next i text out (omega (arith, h)) (omega (arith, k)))
