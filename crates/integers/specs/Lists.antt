-- Lists: what is said of each element, what is kept of them, and sums over them.
use mathlib.Core.{Bool.Bool, Bool.true, Bool.false, List.List, List.[], List.◌∷◌}
use Rattle.std.specs.Prelude.{ℕ, ◌+◌, ℤ, pos, ◌+ℤ◌}

module _ {A : Type 0} where
  -- P of each element of a list
  abbrev pub Every : (A → Type 0) → List A → Type 0
  Every P [] = Unit {0}
  Every P (x ∷ xs) = P x × Every P xs

  -- x before a list, where the test is met
  abbrev pub keep_if : Bool → A → List A → List A
  keep_if true x l = x ∷ l
  keep_if false x l = l

  -- f of each element of a list, added up
  unfoldable pub sum_count : (A → ℕ) → List A → ℕ
  sum_count f [] = 0
  sum_count f (x ∷ xs) = sum_count f xs + f x

  unfoldable pub sum : (A → ℤ) → List A → ℤ
  sum f [] = pos 0
  sum f (x ∷ xs) = sum f xs +ℤ f x
