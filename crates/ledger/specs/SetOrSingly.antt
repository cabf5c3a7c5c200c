-- The same trades by set or singly: 02-6, "Cash owed to a client must be the same booked by set or singly, at the same point and in list order, whenever both are
-- accepted". Proved in proofs/SetOrSingly.antt.
use mathlib.Core.{Path.◌≡◌, Bool.true, List.List, List.[], List.◌∷◌, List.◌++◌}
use Rattle.std.specs.Prelude.{ℕ, length}
use Rattle.calls.specs.{Trade.is_set_length, declared.Trade.Trade, declared.Call.Call}
use Rattle.calls.specs.declared.Call.TheVariants as call
use Rattle.ledger.specs.{declared.Book.Book, Refusals.refusal, Step.step, Sets.set_refusal, Sets.trade_set, Operations.Operation, Operations.run, Operations.accepted_calls, Operations.singles, Operations.trade_calls, Keeping.Shaped}

-- each of these calls is accepted, one after another
abbrev pub AllAccepted : ℕ → Book → List Call → Type 0
AllAccepted n b [] = Unit
AllAccepted n b (c ∷ cs) = (refusal n b c ≡ 0) × AllAccepted n (step n b c).book cs

-- two lists leave one book and one history
pub record Same (n : ℕ) (b : Book) (xs ys : List Operation) : Type 0 where
  pub book : run n b xs ≡ run n b ys
  pub calls : accepted_calls n b xs ≡ accepted_calls n b ys

-- where both are accepted, both come to the same, whatever follows
abbrev pub SetOrSingly : Type 0
SetOrSingly =
    (n : ℕ) (b : Book) (ts : List Trade) (os : List Operation) → set_refusal n b ts ≡ 0 → AllAccepted n b (trade_calls ts)
    → Same n b (singles (trade_calls ts) ++ os) (Operation.Set ts ∷ os)

-- trades that are each accepted one by one are accepted as a set, if they are not too many
abbrev pub SinglyThenSet : Type 0
SinglyThenSet =
    (n : ℕ) (b : Book) (ts : List Trade) → Shaped n b → is_set_length (length ts) ≡ true → AllAccepted n b (trade_calls ts)
    → set_refusal n b ts ≡ 0

-- a set of one trade is answered as that trade, accepted or refused
abbrev pub SetOfOne : Type 0
SetOfOne = (n : ℕ) (b : Book) (t : Trade) → trade_set n b (t ∷ []) ≡ step n b (call.Trade t)
