-- A set of trades on a book of n accounts: document 02, request 6, "Allocations taken as a set".
use mathlib.Core.{Bool.Bool, Bool.cond, Bool.not, List.List, List.[], List.◌∷◌, List.◌++◌}
use Rattle.std.specs.Prelude.{ℕ, None, length}
use lib.Dec.{eqb}
use Rattle.calls.specs.declared.Call.TheVariants as call
use Rattle.calls.specs.declared.Trade.{Trade}
use Rattle.refusals.specs.{Refusals.first_met, Sets.set_sentences}
use Rattle.figures.specs.Figures.{is_over}
use Rattle.columns.specs.{declared.Columns.Columns, Limits.volumes_hold, Limits.positions_hold}
use Rattle.trading.specs.Trading.{own_sentences}
use Rattle.ledger.specs.{declared.Book.Book, Effects.effect, Refusals.within_limits, Step.Answered}

-- the book after these trades: 02-6, "what its trades would leave one by one, with those two limits lifted until the end"
unfoldable pub set_effect : ℕ → Book → List Trade → Book
set_effect n b [] = b
set_effect n b (t ∷ ts) = set_effect n (effect n b (call.Trade t)) ts

-- what a set of so many trades is refused for before any of them is looked at; 2: "The book holds a number beyond its limits"
abbrev pub sentences_before_trades : ℕ → Book → ℕ → List (ℕ × Bool)
sentences_before_trades n b trades = (2, not (within_limits n b)) ∷ set_sentences (is_over b.figures) b.figures.halted trades

-- each trade's own sentences: 02-6, "the first in list order that doesn't gives its number"
unfoldable pub trade_sentences : ℕ → List Trade → List (ℕ × Bool)
trade_sentences n [] = []
trade_sentences n (t ∷ ts) = own_sentences n t ++ trade_sentences n ts

-- 02-6: "Volume and position limits are judged on the state after the entire set": of every account; "only then come 7 and 8 on the final state"
abbrev pub sentences_after_trades : ℕ → Columns → List (ℕ × Bool)
sentences_after_trades n c = (7, not (volumes_hold n c.volume)) ∷ (8, not (positions_hold n c.position)) ∷ []

-- the number of a set's refusal
unfoldable pub set_refusal : ℕ → Book → List Trade → ℕ
set_refusal n b ts =
    first_met (sentences_before_trades n b (length ts) ++ trade_sentences n ts ++ sentences_after_trades n (set_effect n b ts).columns)

-- the answer to a set: 02-6, it "is accepted whole or not at all"
unfoldable pub trade_set : ℕ → Book → List Trade → Answered
trade_set n b ts =
    let number = set_refusal n b ts in
    record { code = number; fixing = None; friday = None; book = cond (eqb number 0) (set_effect n b ts) b }
