-- What a book within its limits holds, as facts that `omega` reads, and back: a book that holds no more is within its limits.
--     held, holds          what a book within its limits holds, and back; likewise for an account
--     contracts_most       the final minute's contracts, against the number of accounts
-- Assumes nothing.
use mathlib.Core.Path.{◌≡◌}
use mathlib.Core.Bool.{true}
use mathlib.Core.List.{[], ◌∷◌}
use Prim.Native.Nat.{ℕ, ◌*◌, ◌<◌, ◌≤◌}
use native.Mathlib.Omega.{arith}
use lib.Dec.{leb}
use lib.IntN.{nat_abs}
use borrow.Author.Tests.{le-leb}
use Rattle.integers.specs.Size.{within}
use Rattle.integers.proofs.Tests.{tests, ◌and◌, each}
use Rattle.prices.specs.Price.{largest_price}
use Rattle.day.specs.Limits.{final_holds}
use Rattle.figures.specs.Figures.{figures_hold}
use Rattle.figures.proofs.Held.{HeldFigures, held_figures, figures_hold-held}
use Rattle.day.proofs.Held.{HeldFinal, held_final, final_holds-held}
use Rattle.columns.specs.Columns.{entry, count_at, all_below, sum_below}
use Rattle.columns.specs.Limits.{most_position, most_volume, most_posting}
use Rattle.columns.proofs.Accounts.{all_at, all_by, sum_most}
use Rattle.ledger.specs.declared.Book.{Book}
use Rattle.ledger.specs.Refusals.{account_of, within_limits}

pub record Account (b : Book) (j : ℕ) : Type 0 where
  pub opening : nat_abs (entry b.columns.opening j) ≤ most_position
  pub position : nat_abs (entry b.columns.position j) ≤ most_position
  pub volume : count_at b.columns.volume j ≤ most_volume
  pub cost : nat_abs (entry b.columns.cost j) ≤ count_at b.columns.volume j * largest_price
  pub cash : nat_abs (entry b.columns.cash j) ≤ b.figures.closed * most_posting

pub record Held (n : ℕ) (b : Book) : Type 0 where
  pub figures : HeldFigures b.figures
  pub account : (j : ℕ) → j < n → Account b j
  pub final : HeldFinal b.figures.day.trades.settling (sum_below n (count_at b.columns.volume))

-- ---- from the limits

pub held_account : (b : Book) (j : ℕ) → account_of b j ≡ true → Account b j
held_account b j h =
    let t =
    each (within (entry b.columns.opening j) most_position)
    (within (entry b.columns.position j) most_position ∷ leb (count_at b.columns.volume j) most_volume ∷ within (entry b.columns.cost j) (count_at b.columns.volume j * largest_price)
    ∷ within (entry b.columns.cash j) (b.figures.closed * most_posting) ∷ []) h in
    record { opening = omega (tests, t 0); position = omega (tests, t 1); volume = omega (tests, t 2); cost = omega (tests, t 3); cash = omega (tests, t 4) }

pub held : (n : ℕ) (b : Book) → within_limits n b ≡ true → Held n b
unfolding within_limits
held n b h =
    let v = sum_below n (count_at b.columns.volume) in
    let m = b.figures.day.trades.settling in
    let t = each (figures_hold b.figures) (all_below n (account_of b) ∷ final_holds m v ∷ []) h in
    record { figures = held_figures b.figures (t 0); account = λ j l. held_account b j (all_at n (account_of b) (t 1) j l); final = held_final m v (t 2) }

-- ---- and back

pub account_of-held : (b : Book) (j : ℕ) → Account b j → account_of b j ≡ true
account_of-held b j h = le-leb _ _ h.opening and le-leb _ _ h.position and le-leb _ _ h.volume and le-leb _ _ h.cost and le-leb _ _ h.cash

pub holds : (n : ℕ) (b : Book) → Held n b → within_limits n b ≡ true
unfolding within_limits
holds n b h =
    figures_hold-held b.figures h.figures
    and all_by n (account_of b) (λ j l. account_of-held b j (h.account j l))
    and final_holds-held b.figures.day.trades.settling (sum_below n (count_at b.columns.volume)) h.final

-- ---- what follows

-- half of what all accounts may trade
pub contracts_most : (n : ℕ) (b : Book) → Held n b → 2 * b.figures.day.trades.settling.contracts ≤ n * most_volume
contracts_most n b h = omega (arith, h.final.contracts, sum_most n most_volume (count_at b.columns.volume) (λ j l. (h.account j l).volume))
