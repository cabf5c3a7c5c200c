-- What a file holds from a place on, by what is read there.
--     records_at          its records: what is read, and those from the next place on
--     calls_at_end          no call
--     calls_at          the record's call, if it has one, and those from the next place on
-- Assumes nothing.
use Prim.Native.Nat.{ℕ, zero, suc, ◌+◌, ◌<◌, ◌≤◌}
use mathlib.Core.Path.{◌≡◌, refl, sym, ◌∙◌, ap}
use mathlib.Core.List.{List, [], ◌∷◌}
use native.Mathlib.Omega.{arith}
use lib.ListN.{length}
use Rattle.std.specs.Prelude.{Option, Some, None}
use Rattle.dayfile.specs.declared.Read.{Read}
use Rattle.dayfile.specs.Record.{read_at}
use Rattle.dayfile.specs.Calls.{followed, called, records_within, records_from, calls_in, calls_from}
use Rattle.dayfile.proofs.Reading.{at_end}
use Rattle.dayfile.proofs.Forward.{further_to}

-- what follows depends only on what stands further on
same_followed : (file : List ℕ) (at : ℕ) (r : Option Read) → read_at file at ≡ r → (f g : ℕ → List Read)
    → ((next : ℕ) → at < next → f next ≡ g next) → followed r f ≡ followed r g
same_followed file at None h f g e = refl
same_followed file at (Some r) h f g e = ap (λ rest. r ∷ rest) (e r.next (further_to file at r h).0)

-- two counts that are both enough give the same records
enough : (m n : ℕ) (file : List ℕ) (at : ℕ) → length file ≤ at + m → length file ≤ at + n → records_within m file at ≡ records_within n file at
unfolding records_within
enough zero zero file at h k = refl
enough zero (suc n) file at h k = sym (ap (λ r. followed r (records_within n file)) (at_end file at (omega arith)))
enough (suc m) zero file at h k = ap (λ r. followed r (records_within m file)) (at_end file at (omega arith))
enough (suc m) (suc n) file at h k =
    same_followed file at (read_at file at) refl (records_within m file) (records_within n file)
    (λ next far. enough m n file next (omega arith) (omega arith))

module _ (file : List ℕ) (at : ℕ) where
  pub records_at : (r : Option Read) → read_at file at ≡ r → records_from file at ≡ followed r (records_from file)
  unfolding records_from records_within
  records_at r e =
      enough (length file) (suc (length file)) file at (omega arith) (omega arith)
      ∙ ap (λ x. followed x (records_within (length file) file)) e

  pub calls_at_end : read_at file at ≡ None → calls_from file at ≡ []
  unfolding calls_in
  calls_at_end e = ap calls_in (records_at None e)

  pub calls_at : (r : Read) → read_at file at ≡ Some r → calls_from file at ≡ called r.call (calls_from file r.next)
  unfolding calls_in
  calls_at r e = ap calls_in (records_at (Some r) e)
