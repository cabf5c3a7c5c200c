-- What a run over a file comes to, by demand 3.
--     settled           the book where the run ended has the figures of the history of the file's calls
-- Assumes nothing.
use mathlib.Core.Path.{◌≡◌, sym}
use mathlib.Core.List.{List}
use Prim.Native.Nat.{ℕ}
use lib.ListN.{length-reverse}
use Rattle.columns.specs.Columns.{accounts}
use Rattle.ledger.specs.Step.{opening}
use Rattle.ledger.specs.Operations.{singles, accepted_calls}
use Rattle.history.proofs.Demand3.{demand_three}
use Rattle.dayfile.specs.Calls.{calls_of}
use Rattle.host.specs.Run.{run_file, Settled}

pub settled : (size : ℕ) (file : List ℕ) → (opening accounts size).code ≡ 0 → Settled size file (run_file size file).accepted (run_file size file).book.columns.position (run_file size file).book.columns.cash
settled size file e =
    let d = demand_three accounts size (singles (calls_of file)) e in
    record {
      calls = sym (length-reverse (accepted_calls accounts (opening accounts size).book (singles (calls_of file))));
      position = d.position;
      paid = d.cash;
      positions_cancel = d.positions_cancel;
      cash_cancels = d.cash_cancels;
      days_and_today = d.days_and_today;
      closed_days = d.closed_days;
    }
