-- One file with a record of each fate. The numbers are those of document 01's example.
use mathlib.Core.{Path.◌≡◌, List.List, List.[], List.◌∷◌, List.◌++◌}
use Rattle.std.specs.Prelude.{ℕ, Some, None, Ok, Err}
use Rattle.calls.specs.declared.Call.TheVariants as call
use Rattle.calls.specs.Trade.{kind_of}
use Rattle.dayfile.specs.declared.RecordError.TheVariants as error
use Rattle.dayfile.specs.Calls.{records_of}

-- quote 200100/200300
abbrev pub quoted : List ℕ
quoted = 2 ∷ 0 ∷ 8 ∷ 0 ∷ 3 ∷ 13 ∷ 164 ∷ 0 ∷ 3 ∷ 14 ∷ 108 ∷ []

-- an unknown record with a body of one byte
abbrev pub foreign : List ℕ
foreign = 200 ∷ 0 ∷ 1 ∷ 4 ∷ []

-- a halt with a body
abbrev pub overlong : List ℕ
overlong = 4 ∷ 0 ∷ 1 ∷ 5 ∷ []

-- trade 3, 7, kind 0, 12 at 200200
abbrev pub traded : List ℕ
traded = 1 ∷ 0 ∷ 11 ∷ 3 ∷ 7 ∷ 0 ∷ 0 ∷ 0 ∷ 0 ∷ 12 ∷ 0 ∷ 3 ∷ 14 ∷ 8 ∷ []

-- a close without its last byte
abbrev pub unfinished : List ℕ
unfinished = 7 ∷ 0 ∷ []

-- proved in proofs/Example.antt, by computing
abbrev pub Example : Type 0
Example =
    records_of (quoted ++ (foreign ++ (overlong ++ (traded ++ unfinished)))) ≡
    record { next = 11; call = Ok (Some (call.Quote (record { bid = 200100; offer = 200300 }))) }
    ∷ record { next = 15; call = Ok None }
    ∷ record { next = 19; call = Err error.WrongLength }
    ∷ record { next = 33; call = Ok (Some (call.Trade (record { buyer = 3; seller = 7; kind = kind_of 0; quantity = 12; price = 200200 }))) }
    ∷ record { next = 35; call = Err error.CutOff }
    ∷ []
