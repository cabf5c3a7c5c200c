-- What a set of trades can be refused for before any of its trades is looked at: document 02, request 6.
use mathlib.Core.{Bool.Bool, Bool.not, List.List, List.[], List.◌∷◌}
use Rattle.std.specs.Prelude.{ℕ}
use Rattle.calls.specs.Trade.{is_set_length}

-- The sentences of a set of so many trades, by whether the book takes no call any more, and the halt. 3: "any call on a book with 2,600 closed days"; 02-7: "any call
-- after the final close"; 02-6: "A set with no trades or over 500 gives the new 13,
-- checked after 4, which a halted book gives to any set, and before 5"
abbrev pub set_sentences : Bool → Bool → ℕ → List (ℕ × Bool)
set_sentences over halted trades = (3, over) ∷ (4, halted) ∷ (13, not (is_set_length trades)) ∷ []
