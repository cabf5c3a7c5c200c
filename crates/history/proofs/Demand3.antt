-- Demand 3, proved. Assumes nothing.
use mathlib.Core.Path.{◌≡◌, sym, ◌∙◌, ap, subst}
use mathlib.Core.Bool.{Bool, true, false, cond}
use mathlib.Core.List.{[]}
use Prim.Native.Nat.{ℕ}
use native.Mathlib.Nat.{suc-ne-zero}
use lib.IntN.{pos}
use Rattle.ledger.specs.declared.Book.{Book}
use Rattle.figures.specs.Figures.{is_size}
use Rattle.columns.specs.Columns.{entry}
use Rattle.columns.proofs.Accounts.{table_at}
use Rattle.ledger.specs.Step.{fresh, opening}
use Rattle.history.specs.History.{closings}
use Rattle.history.specs.Cash.{position_of, cash_of}
use Rattle.history.specs.Demand3.{history, total, DemandThree}
use Rattle.history.proofs.Kept.{book_from, fresh_is}
use Rattle.history.proofs.Accepted.{After, after_operations}
use Rattle.history.proofs.Days.{days_and_today, closes_allowed, whole}
use Rattle.history.proofs.Totals.{every_map, positions_cancel, cash_cancels}

-- what an accepted opening hands back is the book of no calls
opened : (n s : ℕ) → (opening n s).code ≡ 0 → (opening n s).book ≡ book_from n s []
opened n s e = go (is_size s) e
  where
    go : (x : Bool) → ◌≡◌ {A = ℕ} (cond x 0 5) 0 → fresh n (cond x s 0) ≡ book_from n s []
    go true e = fresh_is n s
    go false e = absurd (suc-ne-zero 4 e)

pub demand_three : DemandThree
demand_three n s os e =
    let r = subst (λ (b : Book). After n s b [] os) (sym (opened n s e)) (after_operations n s [] os tt) in
    let h = history n s os in
    record {
      cash = λ j k. ap (λ (b : Book). entry b.columns.cash j) r.book_is ∙ table_at n (cash_of s h) j (pos 0) k;
      position = λ j k. ap (λ (b : Book). entry b.columns.position j) r.book_is ∙ table_at n (position_of h) j (pos 0) k;
      amount = ap (λ (b : Book). b.figures.day.fixed.amount) r.book_is;
      positions_cancel = ap (λ (b : Book). total b.columns.position) r.book_is ∙ positions_cancel n s h r.all_allowed;
      cash_cancels = ap (λ (b : Book). total b.columns.cash) r.book_is ∙ cash_cancels n s h r.all_allowed;
      days_and_today = days_and_today h;
      closed_days = every_map (whole n s) (closings h) (closes_allowed n s h r.all_allowed);
    }
