-- The run over a file for programs in C: what it answers, what it leaves in the lent lists, and what demand 3 says of them.
use mathlib.Core.{Path.◌≡◌, Bool.Bool, Bool.true, Bool.cond, Bool.◌&&◌, List.List, List.◌++◌}
use Rattle.std.specs.Prelude.{ℕ, ◌<◌}
use lib.{Dec.eqb, IntN.ℤ, IntN.pos, ListN.length}
use Rattle.integers.specs.Lists.{Every}
use Rattle.columns.specs.Columns.{accounts, entry}
use Rattle.ledger.specs.{Step.opening, Operations.singles}
use Rattle.history.specs.{History.History, Cash.position_of, Cash.cash_of, Demand3.history, Demand3.total, Demand3.calls_of_days, Demand3.Whole, History.closings, History.today}
use Rattle.dayfile.specs.Calls.{calls_of}
use Rattle.records.specs.Run.{RunEnd, run_over}
use Rattle.printout.specs.Printout.{lines_of}

-- the run of a fresh book of this size over the calls of a file
abbrev pub run_file : ℕ → List ℕ → RunEnd
run_file size file = run_over (opening accounts size).book (calls_of file)

-- the size is not refused, and neither are the lists, by their lengths
abbrev pub taken : ℕ → ℕ → ℕ → Bool
taken size positions cash = eqb (opening accounts size).code 0 && eqb positions accounts && eqb cash accounts

-- 01: "it returns the number of accepted records, and 0 with lists untouched if size or lists are refused"
abbrev pub accepted_records : ℕ → List ℕ → ℕ → ℕ → ℕ
accepted_records size file positions cash = cond (taken size positions cash) (run_file size file).accepted 0

-- 01: "Otherwise the lists report the book where the run ended"
abbrev pub reported_positions : ℕ → List ℕ → List ℤ → ℕ → List ℤ
reported_positions size file positions cash = cond (taken size (length positions) cash) (run_file size file).book.columns.position positions

abbrev pub reported_cash : ℕ → List ℕ → ℕ → List ℤ → List ℤ
reported_cash size file positions cash = cond (taken size positions (length cash)) (run_file size file).book.columns.cash cash

-- the history of a file's calls
abbrev pub history_of : ℕ → List ℕ → History
history_of size file = history accounts size (singles (calls_of file))

-- demand 3 from bytes: the lists of a run that is taken are the figures of the history of the file's calls, and each sums to zero; the history is its closed
-- days and the open day put together, and each closed day is whole
pub record Settled (size : ℕ) (file : List ℕ) (number : ℕ) (positions cash : List ℤ) : Type 0 where
  pub calls : number ≡ length (history_of size file)
  pub position : (j : ℕ) → j < accounts → entry positions j ≡ position_of (history_of size file) j
  pub paid : (j : ℕ) → j < accounts → entry cash j ≡ cash_of size (history_of size file) j
  pub positions_cancel : total positions ≡ pos 0
  pub cash_cancels : total cash ≡ pos 0
  pub days_and_today : history_of size file ≡ today (history_of size file) ++ calls_of_days (closings (history_of size file))
  pub closed_days : Every Whole (closings (history_of size file))

abbrev pub FromBytes : ℕ → List ℕ → ℕ → ℕ → ℕ → List ℤ → List ℤ → Type 0
FromBytes size file positions cash number positions' cash' = taken size positions cash ≡ true → Settled size file number positions' cash'

-- one run: the book behind the printout's last line is the one that the run for C reports, on the same size and records. Proved in proofs/OneRun.antt
abbrev pub OneRun : Type 0
OneRun = (size : ℕ) (file : List ℕ) → (lines_of size file).book ≡ (run_file size file).book
