-- Refusal 2, the limits on what a book holds, and the number of any call's refusal.
use mathlib.Core.{Bool.Bool, Bool.not, Bool.◌&&◌, List.List, List.◌∷◌}
use Rattle.std.specs.Prelude.{ℕ}
use Rattle.calls.specs.{Calls.on_trade, declared.Call.Call}
use Rattle.day.specs.Limits.{final_holds}
use Rattle.refusals.specs.Refusals.{no_accounts, first_met}
use Rattle.outcomes.specs.Outcome.{sentences_on}
use Rattle.figures.specs.Figures.{figures_hold}
use Rattle.columns.specs.{Columns.count_at, Columns.all_below, Columns.sum_below, Limits.holds_at}
use Rattle.counterparties.specs.Counterparties.{accounts_of}
use Rattle.ledger.specs.declared.Book.{Book}

abbrev pub account_of : Book → ℕ → Bool
account_of b = holds_at b.figures.closed b.columns

-- a book of n accounts is within its limits: 02-5, "The book's limits hold for each of 1,024 accounts"; 01, "final-minute contracts n at most half the sum of all
-- accounts' v"
unfoldable pub within_limits : ℕ → Book → Bool
within_limits n b = figures_hold b.figures && all_below n (account_of b) && final_holds b.figures.day.trades.settling (sum_below n (count_at b.columns.volume))

-- the sentences of a call on a book of n accounts that is within its limits
abbrev pub sentences_of : ℕ → Book → Call → List (ℕ × Bool)
sentences_of n b c = sentences_on b.figures c (on_trade (accounts_of n b.columns.position b.columns.volume) no_accounts c)

-- 2: "The book holds a number beyond its limits". The number of any call's refusal: that one comes first
unfoldable pub refusal : ℕ → Book → Call → ℕ
refusal n b c = first_met ((2, not (within_limits n b)) ∷ sentences_of n b c)
