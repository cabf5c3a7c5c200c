-- Where a day starts empty, the columns are within their limits: in a fresh book, and in the book after a close.
-- Assumes nothing.
use mathlib.Core.Path.{◌≡◌, refl, ap}
use mathlib.Core.Bool.{true}
use Prim.Native.Nat.{ℕ, ◌<◌, ◌≤◌}
use native.Mathlib.Omega.{arith}
use mathlib.Core.List.{List}
use lib.IntN.{ℤ, pos, nat_abs}
use lib.ListN.{replicate, get_or-replicate}
use Rattle.integers.proofs.Sizes.{abs_add}
use Rattle.std.proofs.lemmas.Bool.{cond_both}
use Rattle.day.specs.Day.{is_final_date, no_trades}
use Rattle.figures.specs.Figures.{is_size}
use Rattle.outcomes.specs.Effects.{closed_figures}
use Rattle.day.proofs.Held.{HeldFinal, empty_day-held}
use Rattle.columns.specs.Columns.{entry, count_at}
use Rattle.columns.specs.Limits.{most_position, most_posting}
use Rattle.figures.specs.declared.Figures.{Figures}
use Rattle.closing.specs.Closing.{posting, posted, positions_left}
use Rattle.columns.proofs.Accounts.{table_at}
use Rattle.closing.proofs.PostingSize.{posting_size}
use Rattle.ledger.specs.Effects.{closed_book}
use Rattle.ledger.specs.declared.Book.{Book}
use Rattle.ledger.specs.Step.{fresh}
use Rattle.ledger.proofs.Held.{Account, Held}

pub no_trades-held : (volume : ℕ) → HeldFinal no_trades volume
no_trades-held volume = omega arith

-- the entries of an empty column
no_count : (n j : ℕ) → j < n → count_at (replicate n 0) j ≡ 0
no_count n j l = get_or-replicate n j 0 0 l

no_entry : (n j : ℕ) → j < n → nat_abs (entry (replicate n (pos 0)) j) ≡ 0
no_entry n j l = ap nat_abs (get_or-replicate n j (pos 0) (pos 0) l)

pub fresh_held : (n s : ℕ) → is_size s ≡ true → Held n (fresh n s)
fresh_held n s h =
    record { figures = record { size = h; closed = omega arith; price = refl; index = refl; day = empty_day-held }; account = λ j l. omega (arith, no_count n j l, no_entry n j l); final = no_trades-held _ }

-- a position that a close leaves is the one before it or none
left_size : (n : ℕ) (f : Figures) (position : List ℤ) (j : ℕ) → j < n → nat_abs (entry position j) ≤ most_position → nat_abs (entry (positions_left n f position) j) ≤ most_position
left_size n f position j l h = cond_both (is_final_date f.day) _ _ (λ p. nat_abs (entry p j) ≤ most_position) (λ e. omega (arith, no_entry n j l)) (λ e. h)

pub closed_account : (n : ℕ) (b : Book) → Held n b → (j : ℕ) → j < n → Account (closed_book n b (closed_figures b.figures)) j
closed_account n b h j l =
    let a = h.account j l in
    let x = posting b.figures (entry b.columns.position j) (entry b.columns.opening j) (entry b.columns.cost j) in
    let within : nat_abs x ≤ most_posting =
    posting_size b.figures (entry b.columns.position j) (entry b.columns.opening j) (entry b.columns.cost j) h.figures a.position a.opening (omega (arith, a.cost, a.volume)) in
    omega (arith, left_size n b.figures b.columns.position j l a.position, a.cash, no_count n j l, no_entry n j l, ap nat_abs (table_at n (posted b.figures b.columns.opening b.columns.position b.columns.cost b.columns.cash) j (pos 0) l), abs_add (entry b.columns.cash j) x)
