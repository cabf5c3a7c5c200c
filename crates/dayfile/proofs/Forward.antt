-- The reader goes forward and stays within the file.
--     forward        at every place, whatever is read there
--     further_to     the record after one that was read starts further on, and within the file
-- Assumes nothing.
use Prim.Native.Nat.{ℕ, ◌<◌, ◌≤◌}
use mathlib.Core.Path.{◌≡◌, refl, subst}
use mathlib.Core.List.{List}
use native.Mathlib.Omega.{arith}
use borrow.Author.Tests.{leb-false, ltb-false}
use lib.ListN.{length}
use lib.Dec.{ltb, leb, eqb}
use Rattle.std.proofs.lemmas.Bool.{cond_both}
use Rattle.std.specs.Prelude.{Option, Some, None, Result, Ok, Err}
use Rattle.tags.specs.declared.Tag.{Tag}
use Rattle.tags.specs.Tags.{tag_of, body_length}
use Rattle.bodies.specs.Body.{byte_at}
use Rattle.calls.specs.declared.Call.{Call}
use Rattle.dayfile.specs.declared.RecordError.{RecordError}
use Rattle.dayfile.specs.declared.RecordError.TheVariants as error
use Rattle.dayfile.specs.declared.Read.{Read}
use Rattle.dayfile.specs.Record.{stated_length, next_at, complete, read_at, Leads, Onward, Forward}

complete_leads : (file : List ℕ) (at : ℕ) (t : Option Tag) → next_at file at ≤ length file → Leads file at (next_at file at) (complete file at t)
complete_leads file at None h = (omega arith, h)
complete_leads file at (Some t) h =
    cond_both (eqb (stated_length file at) (body_length t)) _ _ (Leads file at (next_at file at)) (λ _. (omega arith, h)) (λ _. (omega arith, h))

pub forward : Forward
unfolding read_at
forward file at =
    cond_both (leb (length file) at) _ _ (Onward file at) (λ _. tt) (λ before.
    cond_both (ltb (length file) (next_at file at)) _ _ (λ r. Onward file at (Some r)) (λ _. (leb-false (length file) at before, refl)) (λ e.
    complete_leads file at (tag_of (byte_at file at)) (ltb-false (length file) (next_at file at) e)))

further : (file : List ℕ) (at next : ℕ) (call : Result (Option Call) RecordError) → Leads file at next call → (at < next) × (next ≤ length file)
further file at next (Ok call) l = (omega (arith, l.0), l.1)
further file at next (Err error.WrongLength) l = (omega (arith, l.0), l.1)
further file at next (Err error.CutOff) l = (l.0, omega (arith, l.1))

pub further_to : (file : List ℕ) (at : ℕ) (r : Read) → read_at file at ≡ Some r → (at < r.next) × (r.next ≤ length file)
further_to file at r e = further file at r.next r.call (subst (Onward file at) e (forward file at))
