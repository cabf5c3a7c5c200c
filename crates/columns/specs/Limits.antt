-- The limits on an account, in document 01's order.
use mathlib.Core.{Bool.◌&&◌, Bool.Bool, List.List}
use Rattle.std.specs.Prelude.{ℕ, ◌*◌}
use lib.{Dec.leb, IntN.ℤ}
use Rattle.integers.specs.Size.{within}
use Rattle.prices.specs.Price.{largest_price}
use Rattle.columns.specs.{declared.Account.Account, declared.Columns.Columns, Columns.account_at, Columns.count_at, Columns.entry, Columns.all_below}

-- 01: "opening and present position within ±1,200,000, contracts bought plus sold today v at most 2,000,000, signed cost of today (quantity × price)
-- within v × 50,000,000, cash within closed days × 2,700,000,000,000,000"
abbrev pub most_position : ℕ
most_position = 1200000

abbrev pub most_volume : ℕ
most_volume = 2000000

abbrev pub most_posting : ℕ
most_posting = 2700000000000000

abbrev pub position_holds : ℤ → Bool
position_holds position = within position most_position

abbrev pub volume_holds : ℕ → Bool
volume_holds volume = leb volume most_volume

abbrev pub account_holds : ℕ → Account → Bool
account_holds closed a =
    position_holds a.opening && position_holds a.position && volume_holds a.volume && within a.cost (a.volume * largest_price) && within a.cash (closed * most_posting)

-- whether account j is within its limits, after so many closed days
abbrev pub holds_at : ℕ → Columns → ℕ → Bool
holds_at closed c j = account_holds closed (account_at c j)

-- whether every one of n accounts is within its limit of v, and of its position
abbrev pub volumes_hold : ℕ → List ℕ → Bool
volumes_hold n volume = all_below n (λ j. volume_holds (count_at volume j))

abbrev pub positions_hold : ℕ → List ℤ → Bool
positions_hold n position = all_below n (λ j. position_holds (entry position j))
