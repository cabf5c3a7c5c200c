-- What a whole file holds: its records in order, and the calls of its known ones.
use Rattle.std.specs.Prelude.{ℕ, zero, suc, List, [], ◌∷◌, length, Option, Some, None, Result, Ok, Err}
use Rattle.calls.specs.declared.Call.{Call}
use Rattle.dayfile.specs.{declared.RecordError.RecordError, declared.Read.Read, Record.read_at}

-- what was read at a place, and then what follows from the next one
abbrev pub followed : Option Read → (ℕ → List Read) → List Read
followed None rest = []
followed (Some r) rest = r ∷ rest r.next

-- the records of a file from a place on, this many at most
unfoldable pub records_within : ℕ → List ℕ → ℕ → List Read
records_within zero file at = []
records_within (suc most) file at = followed (read_at file at) (records_within most file)

-- all of them: a file has no more records than bytes
unfoldable pub records_from : List ℕ → ℕ → List Read
records_from file = records_within (length file) file

abbrev pub records_of : List ℕ → List Read
records_of file = records_from file 0

-- a known record's call stands before those of the records after it
abbrev pub called : Result (Option Call) RecordError → List Call → List Call
called (Ok None) calls = calls
called (Ok (Some c)) calls = c ∷ calls
called (Err e) calls = calls

unfoldable pub calls_in : List Read → List Call
calls_in [] = []
calls_in (r ∷ rs) = called r.call (calls_in rs)

-- the calls of a file's known records, from a place on and in order
abbrev pub calls_from : List ℕ → ℕ → List Call
calls_from file at = calls_in (records_from file at)

abbrev pub calls_of : List ℕ → List Call
calls_of file = calls_from file 0
