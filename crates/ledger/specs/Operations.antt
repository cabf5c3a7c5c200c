-- Lists of what comes to a book: calls, and sets of trades.
use mathlib.Core.{Bool.Bool, Bool.cond, List.List, List.[], List.◌∷◌, List.◌++◌, List.map}
use Rattle.std.specs.Prelude.{ℕ}
use lib.Dec.{eqb}
use Rattle.calls.specs.declared.Call.TheVariants as call
use Rattle.calls.specs.declared.{Trade.Trade, Call.Call}
use Rattle.ledger.specs.{declared.Book.Book, Step.Answered, Step.step, Sets.trade_set}

-- a call by itself, or a set of trades, which is no call: `Call` can hold no list
pub data Operation : Type 0 where
  Single : Call → Operation
  Set : List Trade → Operation

-- calls alone, as a file has them
abbrev pub singles : List Call → List Operation
singles = map Operation.Single

-- trades as calls, one by one
abbrev pub trade_calls : List Trade → List Call
trade_calls = map call.Trade

-- the answer to one
abbrev pub answered : ℕ → Book → Operation → Answered
answered n b (Operation.Single c) = step n b c
answered n b (Operation.Set ts) = trade_set n b ts

-- 01: "A call is accepted when it returns no refusal number"
abbrev pub is_accepted : ℕ → Book → Operation → Bool
is_accepted n b o = eqb (answered n b o).code 0

-- the calls that an accepted one stands for: 02-6, "in demand 3's lists an accepted set stands for its trades"
abbrev pub stands_for : Operation → List Call
stands_for (Operation.Single c) = c ∷ []
stands_for (Operation.Set ts) = trade_calls ts

-- the book after a list of them
unfoldable pub run : ℕ → Book → List Operation → Book
run n b [] = b
run n b (o ∷ os) = run n (answered n b o).book os

-- the accepted calls of a list, in its order
unfoldable pub accepted_calls : ℕ → Book → List Operation → List Call
accepted_calls n b [] = []
accepted_calls n b (o ∷ os) = cond (is_accepted n b o) (stands_for o) [] ++ accepted_calls n (answered n b o).book os
