-- What stands at a place of a file.
--     at_end      nothing, at the file's end or past it
--     cut_off     a record that ends past the file's end
--     whole       a complete record
--     right_length   a complete record of a known tag, whose stated length is its own
--     known_at    a record at a place is read as its call
--     number_at   the number of what is read is that of the bytes
--     refusal_at_end   the number 0 at the file's end
-- Assumes nothing.
use Prim.Native.Nat.{ℕ, zero, suc, ◌+◌, ◌≤◌, ◌<◌}
use mathlib.Core.Path.{◌≡◌, refl, sym, ◌∙◌, ap}
use mathlib.Core.Bool.{Bool, true, false, not, cond, ◌&&◌}
use mathlib.Core.List.{List, [], ◌∷◌}
use native.Mathlib.Omega.{arith}
use borrow.Author.Tests.{leb-true, eqb-true, le-leb, lt-leb, lt-ltb, le-ltb, eq-eqb}
use lib.Dec.{leb, ltb, eqb}
use lib.ListN.{length}
use Rattle.std.proofs.lemmas.Bool.{and_parts}
use Rattle.integers.proofs.Tests.{tests}
use Rattle.tags.specs.declared.Tag.{Tag}
use Rattle.tags.specs.declared.Tag.TheVariants as tag
use Rattle.std.specs.Prelude.{Option, Some, None, Ok, Err}
use Rattle.tags.specs.Tags.{tag_of, byte_of, body_length}
use Rattle.bodies.specs.Body.{byte_at, call_of}
use Rattle.dayfile.specs.declared.RecordError.TheVariants as error
use Rattle.dayfile.specs.Record.{is_record_at, body_at, stated_length, next_at, complete, read_at, call_number, read_number, is_wrong_length, record_refusal}

module _ (file : List ℕ) (at : ℕ) where
  pub at_end : length file ≤ at → read_at file at ≡ None
  unfolding read_at
  at_end h = simp (le-leb (length file) at h)

  pub cut_off : at < length file → length file < next_at file at → read_at file at ≡ Some (record { next = length file; call = Err error.CutOff })
  unfolding read_at
  cut_off h k = simp (lt-leb (length file) at h, lt-ltb (length file) (next_at file at) k)

  pub whole : next_at file at ≤ length file → read_at file at ≡ Some (record { next = next_at file at; call = complete file at (tag_of (byte_at file at)) })
  unfolding read_at
  whole h = simp (lt-leb (length file) at (omega arith), le-ltb (length file) (next_at file at) h)

  pub right_length : (t : Tag) → tag_of (byte_at file at) ≡ Some t → stated_length file at ≡ body_length t
      → complete file at (tag_of (byte_at file at)) ≡ Ok (Some (call_of file t (body_at at)))
  right_length t e h = simp (e, eq-eqb (stated_length file at) (body_length t) h)

  -- a tag's byte is read as that tag
  byte_read : (t : Tag) → tag_of (byte_of t) ≡ Some t
  unfolding tag_of
  byte_read tag.Trade = refl
  byte_read tag.Quote = refl
  byte_read tag.MinuteEnd = refl
  byte_read tag.Halt = refl
  byte_read tag.Resume = refl
  byte_read tag.Fix = refl
  byte_read tag.Close = refl
  byte_read tag.DayLength = refl
  byte_read tag.TimedQuote = refl
  byte_read tag.TwoByteTrade = refl
  byte_read tag.FinalDate = refl
  byte_read tag.FinalFix = refl

  -- the three tests of a record at a place
  record-tests : (t : Tag) → is_record_at file at t ≡ true → (body_at at + body_length t ≤ length file) × (byte_at file at ≡ byte_of t) × (stated_length file at ≡ body_length t)
  record-tests t h =
      let fits = leb (body_at at + body_length t) (length file) in
      let byte = eqb (byte_at file at) (byte_of t) in
      let stated = eqb (stated_length file at) (body_length t) in
      let k = and_parts (fits && byte) stated h in
      let j = and_parts fits byte k.0 in
      (leb-true (body_at at + body_length t) (length file) j.0, eqb-true (byte_at file at) (byte_of t) j.1, eqb-true (stated_length file at) (body_length t) k.1)

  pub known_at : (t : Tag) → is_record_at file at t ≡ true → read_at file at ≡ Some (record { next = body_at at + body_length t; call = Ok (Some (call_of file t (body_at at))) })
  known_at t h =
      let k = record-tests t h in
      let stated = k.2 in
      whole (omega (arith, k.0, stated))
      ∙ ap (λ c. Some (record { next = next_at file at; call = c })) (right_length t (ap tag_of k.1 ∙ byte_read t) stated)
      ∙ ap (λ n. Some (record { next = body_at at + n; call = Ok (Some (call_of file t (body_at at))) })) stated

-- ---- refusal 1

-- past the file's end stands no known tag
past_end : (file : List ℕ) (at : ℕ) → length file ≤ at → byte_at file at ≡ 0
past_end [] at h = refl
past_end (x ∷ file) zero h = absurd (omega arith)
past_end (x ∷ file) (suc at) h = past_end file at (omega arith)

completed : (file : List ℕ) (at : ℕ) (t : Option Tag) → call_number (complete file at t) ≡ cond (is_wrong_length t (stated_length file at)) 1 0
completed file at None = refl
completed file at (Some t) = by (eqb (stated_length file at) (body_length t))
  where
    by : (right : Bool) → call_number (cond right (Ok (Some (call_of file t (body_at at)))) (Err error.WrongLength)) ≡ cond (not right) 1 0
    by true = refl
    by false = refl

pub number_at : (file : List ℕ) (at : ℕ) → read_number (read_at file at) ≡ record_refusal file at
unfolding read_at tag_of
number_at file at = by (leb (length file) at) refl (ltb (length file) (next_at file at)) refl
  where
    by : (ended : Bool) → leb (length file) at ≡ ended → (past : Bool) → ltb (length file) (next_at file at) ≡ past
        → read_number (read_at file at) ≡ record_refusal file at
    by true e past f = rw (e, past_end file at (omega tests), le-ltb at (length file) (omega tests))
    by false e true f = rw (e, f, lt-ltb at (length file) (omega tests))
    by false e false f = rw (e, f, lt-ltb at (length file) (omega tests)) (completed file at (tag_of (byte_at file at)))

-- nothing is left to refuse
pub refusal_at_end : (file : List ℕ) (at : ℕ) → length file ≤ at → 0 ≡ record_refusal file at
refusal_at_end file at h = sym (ap read_number (at_end file at h)) ∙ number_at file at
