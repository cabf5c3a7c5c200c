-- Demand 3 of document 01, as one claim.
--
-- Open a book of n accounts with a size, and bring any list of calls and sets of trades to it. The book answers each with a refusal number or accepts it. Keep the
-- accepted calls alone, and the trades of the accepted sets: the history. From the history and the size, and never from the book, specs/ works out each day's
-- amount, and each account's position, which is 0 after the final close, and cash.
-- The claim:
--   every account's position and cash in the book after the list are those figures, and so is the amount of the day, 0 before its fix;
--   the positions of all accounts add up to zero, and so does their cash;
--   the history is its closed days and the open day put together, with no call left out or counted twice;
--   every closed day has all of its minute ends and one fix, of its own kind, so that "its one accepted fix" names one P and one amount.
use mathlib.Core.{Path.◌≡◌, List.List, List.[], List.◌∷◌, List.◌++◌, List.reverse}
use Rattle.std.specs.Prelude.{ℕ, ◌<◌}
use lib.{IntN.ℤ, IntN.pos, ListN.length}
use Rattle.integers.specs.Lists.{Every, sum}
use Rattle.calls.specs.declared.Call.TheVariants as call
use Rattle.columns.specs.Columns.{entry}
use Rattle.ledger.specs.{declared.Book.Book, Step.opening, Operations.Operation, Operations.run, Operations.accepted_calls}
use Rattle.history.specs.{History.History, History.length_of, History.is_final_date_on, History.closings, History.today, History.minute_ends, History.fixes, Cash.amount_on, Cash.position_of, Cash.cash_of}

-- the book of n accounts, opened with the size s, after the calls and sets os
abbrev pub after : ℕ → ℕ → List Operation → Book
after n s os = run n (opening n s).book os

-- 01: "A call is accepted when it returns no refusal number": the accepted ones among them, the latest first; 02-6: "an accepted set stands for its trades"
abbrev pub history : ℕ → ℕ → List Operation → History
history n s os = reverse (accepted_calls n (opening n s).book os)

-- the calls of closed days, the latest first: each day's close, and before it the day's other calls
unfoldable pub calls_of_days : List History → History
calls_of_days [] = []
calls_of_days (d ∷ ds) = call.Close ∷ (today d ++ calls_of_days ds)

-- a closed day with all of its minute ends, and one fix, of its own kind: 02-7, tag 12 "is the only fix on" a final date
pub record Whole (d : History) : Type 0 where
  pub minute_count : length (minute_ends d) ≡ length_of d
  pub one_fix : length (fixes d) ≡ 1
  pub own_kind : Every (λ x. x.final ≡ is_final_date_on d) (fixes d)

-- the entries of a column, added up
abbrev pub total : List ℤ → ℤ
total l = sum (λ z. z) l

pub record Demand3 (n s : ℕ) (os : List Operation) : Type 0 where
  pub cash : (j : ℕ) → j < n → entry (after n s os).columns.cash j ≡ cash_of s (history n s os) j
  pub position : (j : ℕ) → j < n → entry (after n s os).columns.position j ≡ position_of (history n s os) j
  -- 02-2: "Amounts are compared with that on every day of a book": of a closed day, by the list that ends with its fix
  pub amount : (after n s os).figures.day.fixed.amount ≡ amount_on s (history n s os)
  -- 02-5: "Sums to zero run over all of them"
  pub positions_cancel : total (after n s os).columns.position ≡ pos 0
  pub cash_cancels : total (after n s os).columns.cash ≡ pos 0
  pub days_and_today : history n s os ≡ today (history n s os) ++ calls_of_days (closings (history n s os))
  pub closed_days : Every Whole (closings (history n s os))

-- 02-5: "State the account facts over the number of accounts": for every number of accounts, every size that the opening accepts and every list of calls and sets.
-- Proved in proofs/Demand3.antt
abbrev pub DemandThree : Type 0
DemandThree = (n s : ℕ) (os : List Operation) → (opening n s).code ≡ 0 → Demand3 n s os
