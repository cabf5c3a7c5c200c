-- The front of a buffer is what a reader gave, and is so after one more read. Assumes nothing.
use Rattle.std.proofs.Common.{◌≡◌, ℕ, ◌+◌, ◌≤◌, List, length, take, Option, sym, ap, ◌∙◌, subst, length-take-le, ◌++◌, arith}
use Rattle.std.specs.Io.KnownBytes.{Consumes}
use Rattle.std.proofs.KnownBytes.{Consumes-trans}
use Rattle.std.proofs.Math.Seq.{take-append-add, take-append-le}
use borrow.Rule.Slice.PartMut.{put_mid, post_of}

-- one more read, after what was read before; the part of the buffer that it got lies where that ends
module _ (a b c : Option (List ℕ)) (buffer part : List ℕ) (at room : ℕ) (before : Consumes a b (take at buffer)) (within : at ≤ length buffer) where
  pub read_more : (n to : ℕ) → to ≡ at + n → n ≤ length part → Consumes b c (take n part) → Consumes a c (take to (put_mid at room buffer part))
  read_more n to e h p =
      let front = take at buffer in
      let rest = post_of at room buffer in
      let long : to ≡ length front + n = omega (arith, e, length-take-le at buffer within) in
      let more : take to (put_mid at room buffer part) ≡ front ++ take n part =
      ap (λ k. take k (put_mid at room buffer part)) long ∙ take-append-add front (part ++ rest) n ∙ ap (λ xs. front ++ xs) (take-append-le n part rest h) in
      subst (Consumes a c) (sym more) (Consumes-trans a b c front (take n part) before p)
