-- What stands at a place of a day file: the format of document 01, sentence by sentence.
use Rattle.std.specs.Prelude.{ℕ, ◌+◌, ◌<◌, ◌≤◌, Option, Some, None, Result, Ok, Err}
use mathlib.Core.{Path.◌≡◌, List.List, Bool.Bool, Bool.false, Bool.not, Bool.cond, Bool.◌&&◌, Bool.◌||◌}
use lib.{ListN.length, Dec.ltb, Dec.leb, Dec.eqb}
use Rattle.tags.specs.{declared.Tag.Tag, Tags.byte_of, Tags.tag_of, Tags.body_length}
use Rattle.bodies.specs.Body.{byte_at, two_bytes, call_of}
use Rattle.calls.specs.declared.Call.{Call}
use Rattle.dayfile.specs.declared.{RecordError.RecordError, Read.Read}
use Rattle.dayfile.specs.declared.RecordError.TheVariants as error

-- 01: "a one-byte tag, a two-byte length, a body": where the body starts, its stated length, and where the next record starts
abbrev pub body_at : ℕ → ℕ
body_at at = at + 3

abbrev pub stated_length : List ℕ → ℕ → ℕ
stated_length file at = two_bytes file (at + 1)

abbrev pub next_at : List ℕ → ℕ → ℕ
next_at file at = body_at at + stated_length file at

-- what a complete record with this tag brings: 01, "a known tag has a wrong length, and its body is passed over", "The reader passes over complete unknown records"
abbrev pub complete : List ℕ → ℕ → Option Tag → Result (Option Call) RecordError
complete file at None = Ok None
complete file at (Some t) =
    cond (eqb (stated_length file at) (body_length t)) (Ok (Some (call_of file t (body_at at)))) (Err error.WrongLength)

-- 01: "A file record is cut off by the end of the file, which ends the run", whatever its tag and length: it ends past the file's end,
-- and no record follows. One or two bytes left over are cut off too, since tag and length already end past it.
unfoldable pub read_at : List ℕ → ℕ → Option Read
read_at file at =
    cond (leb (length file) at) None
    (Some (cond (ltb (length file) (next_at file at)) (record { next = length file; call = Err error.CutOff })
    (record { next = next_at file at; call = complete file at (tag_of (byte_at file at)) })))

-- the number of what was read: document 01's refusal 1, or 0
abbrev pub call_number : Result (Option Call) RecordError → ℕ
call_number (Ok call) = 0
call_number (Err e) = 1

abbrev pub read_number : Option Read → ℕ
read_number None = 0
read_number (Some r) = call_number r.call

-- 1: "A file record is cut off by the end of the file"
abbrev pub is_cut_off : List ℕ → ℕ → Bool
is_cut_off file at = ltb at (length file) && ltb (length file) (next_at file at)

-- 1: "or a known tag has a wrong length"
abbrev pub is_wrong_length : Option Tag → ℕ → Bool
is_wrong_length None stated = false
is_wrong_length (Some t) stated = not (eqb stated (body_length t))

-- the number of the record at a place, by the bytes there
abbrev pub record_refusal : List ℕ → ℕ → ℕ
record_refusal file at = cond (is_cut_off file at || is_wrong_length (tag_of (byte_at file at)) (stated_length file at)) 1 0

-- whether a complete record of this tag and of its length stands at a place: `read_at` then gives its call (proved in proofs/Reading.antt)
abbrev pub is_record_at : List ℕ → ℕ → Tag → Bool
is_record_at file at t = leb (body_at at + body_length t) (length file) && eqb (byte_at file at) (byte_of t) && eqb (stated_length file at) (body_length t)

-- the reader goes forward: it passes at least the three bytes of a record's tag and length, and never leaves the file. So a run over a file ends
abbrev pub Within : List ℕ → ℕ → ℕ → Type 0
Within file at next = (at + 3 ≤ next) × (next ≤ length file)

-- a record that is cut off is the file's last
abbrev pub Leads : List ℕ → ℕ → ℕ → Result (Option Call) RecordError → Type 0
Leads file at next (Ok call) = Within file at next
Leads file at next (Err error.WrongLength) = Within file at next
Leads file at next (Err error.CutOff) = (at < next) × (next ≡ length file)

-- the next place is forward and within the file
abbrev pub Onward : List ℕ → ℕ → Option Read → Type 0
Onward file at None = Unit {0}
Onward file at (Some r) = Leads file at r.next r.call

-- of every file and at every place: proved in proofs/Forward.antt
abbrev pub Forward : Type 0
Forward = (file : List ℕ) (at : ℕ) → Onward file at (read_at file at)
