-- A text that is written through a buffer, a part of it at a time, and the bytes that are read of an input.
--     last_part, next_part    a writer that holds the text up to a place holds more of it after the next part, and all of it after the last
--     from_counted            what holds of the bytes that count, where those were read
-- Assumes nothing.
use Rattle.std.proofs.Common.{◌≡◌, ℕ, ◌+◌, ◌-◌, ◌≤◌, List, [], ◌∷◌, length, take, drop, Option, None, Some, IfSome, refl, sym, ap, ◌∙◌, subst, take-take, take-add, take-append-drop, length-drop, arith}
use Rattle.std.specs.Io.KnownBytes.{Appends}
use Rattle.std.proofs.KnownBytes.{Appends-trans}
use Rattle.text.specs.Text.{over}

all_over : (text out : List ℕ) → length text ≤ length out → take (length text) (over text out) ≡ text
all_over [] out h = refl
all_over (b ∷ text) [] h = absurd (omega arith)
all_over (b ∷ text) (o ∷ out) h = ap (λ xs. b ∷ xs) (all_over text out (omega arith))

part_over : (text out : List ℕ) → length out ≤ length text → over text out ≡ take (length out) text
part_over [] [] h = refl
part_over [] (o ∷ out) h = absurd (omega arith)
part_over (b ∷ text) [] h = refl
part_over (b ∷ text) (o ∷ out) h = ap (λ xs. b ∷ xs) (part_over text out (omega arith))

module _ (a b c : Option (List ℕ)) (text part out : List ℕ) (from : ℕ) (before : Appends a b (take from text)) (filled : out ≡ over (drop from text) part) where
  pub last_part : (size : ℕ) → size ≡ length text → size - from ≤ length part → Appends b c (take (size - from) out) → Appends a c text
  last_part size e h p =
      let rest = drop from text in
      let long : size - from ≡ length rest = omega (arith, e, length-drop from text) in
      let all : take (size - from) out ≡ rest = ap (take (size - from)) filled ∙ ap (λ n. take n (over rest part)) long ∙ all_over rest part (omega (arith, long)) in
      subst (Appends a c) (take-append-drop from text) (Appends-trans a b c (take from text) rest before (subst (Appends b c) all p))

  pub next_part : (most : ℕ) → length part ≡ most → from + most ≤ length text → Appends b c out → Appends a c (take (from + most) text)
  next_part most e h p =
      let rest = drop from text in
      let more : out ≡ take most rest = filled ∙ part_over rest part (omega (arith, length-drop from text)) ∙ ap (λ n. take n rest) e in
      subst (Appends a c) (sym (take-add from most text)) (Appends-trans a b c (take from text) (take most rest) before (subst (Appends b c) more p))

pub from_counted : (most long : ℕ) (known : Option (List ℕ)) (input : List ℕ) (P : List ℕ → Type 0)
    → long ≡ most → IfSome known (λ xs. input ≡ take long xs) → P (take most input) → IfSome known (λ xs. P (take most xs))
from_counted most long None input P same e p = tt
from_counted most long (Some xs) input P same e p = subst P (ap (take most) (e ∙ ap (λ n. take n xs) same) ∙ take-take most most xs (omega arith)) p
