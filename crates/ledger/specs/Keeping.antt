-- An accepted call or set on a book within its limits hands back a book within its limits, so that refusal 2 never comes on a book that an accepted opening and
-- a list of them led to. On the book of a refused opening it always comes. Proved in proofs/Keeping.antt.
use mathlib.Core.{Path.◌≡◌, Bool.true, List.List}
use Rattle.std.specs.Prelude.{ℕ, length}
use Rattle.calls.specs.declared.{Trade.Trade, Call.Call}
use Rattle.ledger.specs.{declared.Book.Book, Effects.effect, Refusals.refusal, Refusals.within_limits, Step.opening, Step.report_refusal, Sets.set_effect, Sets.set_refusal, Operations.Operation, Operations.answered, Operations.run}

-- each column has an entry for each of n accounts
pub record Shaped (n : ℕ) (b : Book) : Type 0 where
  pub opening : length b.columns.opening ≡ n
  pub position : length b.columns.position ≡ n
  pub cost : length b.columns.cost ≡ n
  pub volume : length b.columns.volume ≡ n
  pub cash : length b.columns.cash ≡ n

-- an accepted call leaves a book within its limits
abbrev pub LimitsKept : Type 0
LimitsKept = (n : ℕ) (b : Book) (c : Call) → Shaped n b → refusal n b c ≡ 0 → within_limits n (effect n b c) ≡ true

-- and so does an accepted set
abbrev pub SetKept : Type 0
SetKept = (n : ℕ) (b : Book) (ts : List Trade) → Shaped n b → set_refusal n b ts ≡ 0 → within_limits n (set_effect n b ts) ≡ true

-- so is the book after any list of calls and sets on an accepted opening
abbrev pub RunWithin : Type 0
RunWithin = (n s : ℕ) (os : List Operation) → (opening n s).code ≡ 0 → within_limits n (run n (opening n s).book os) ≡ true

-- and no call or set on it meets refusal 2
abbrev pub NeverBeyond : Type 0
NeverBeyond = (n s : ℕ) (os : List Operation) (o : Operation) → (opening n s).code ≡ 0 → (answered n (run n (opening n s).book os) o).code ≡ 2 → ⊥

-- 01: "A refused opening returns an empty book of size 0, which then meets refusal 2": any call or set on it, and any report
pub record RefusedOpening (n s : ℕ) : Type 0 where
  pub operations : (o : Operation) → (answered n (opening n s).book o).code ≡ 2
  pub reports : (positions cash : ℕ) → report_refusal n (opening n s).book positions cash ≡ 2

abbrev pub RefusedBeyond : Type 0
RefusedBeyond = (n s : ℕ) → ((opening n s).code ≡ 0 → ⊥) → RefusedOpening n s
