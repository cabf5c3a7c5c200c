-- The end of a contract: document 02, request 7. Proved in proofs/Expiry.antt.
use mathlib.Core.{Path.◌≡◌, Bool.true, List.List}
use Rattle.std.specs.Prelude.{ℕ, cond, ◌&&◌, eqb}
use lib.{IntN.pos, ListN.replicate}
use Rattle.calls.specs.declared.Call.TheVariants as call
use Rattle.day.specs.Day.{is_final_date}
use Rattle.ledger.specs.{declared.Book.Book, Effects.effect, Refusals.within_limits, Step.report_refusal, Operations.Operation, Operations.answered, Operations.run}

-- a book of n accounts whose contract has ended, without a position
pub record Ended (n : ℕ) (b : Book) : Type 0 where
  pub expired : b.figures.expired ≡ true
  pub opening : b.columns.opening ≡ replicate n (pos 0)
  pub position : b.columns.position ≡ replicate n (pos 0)

-- 02-7: "The final close … clears every present and opening position"
abbrev pub FinalClose : Type 0
FinalClose = (n : ℕ) (b : Book) → is_final_date b.figures.day ≡ true → Ended n (effect n b call.Close)

-- 02-7: "the book then accepts reports only": every call and every set is 3, so that a list of them leaves the book, and a report is refused by its lists alone
pub record ReportsOnly (n : ℕ) (b : Book) : Type 0 where
  pub refused : (o : Operation) → (answered n b o).code ≡ 3
  pub unchanged : (os : List Operation) → run n b os ≡ b
  pub reports : (positions cash : ℕ) → report_refusal n b positions cash ≡ cond (eqb positions n && eqb cash n) 0 10

abbrev pub AfterTheEnd : Type 0
AfterTheEnd = (n : ℕ) (b : Book) → within_limits n b ≡ true → b.figures.expired ≡ true → ReportsOnly n b
