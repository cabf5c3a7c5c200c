-- Over all accounts, the positions and the cash of a history sum to zero. Assumes nothing.
use mathlib.Core.Path.{◌≡◌, ◌∙◌, ap₂}
use mathlib.Core.Bool.{Bool, true, false, cond}
use mathlib.Core.List.{List, [], ◌∷◌}
use Prim.Native.Nat.{ℕ, ◌<◌}
use lib.IntN.{pos, neg_ℤ, ◌+ℤ◌, ◌-ℤ◌, ◌*ℤ◌, +ℤ_invr}
use Rattle.integers.specs.Lists.{Every, sum}
use Rattle.calls.specs.declared.Call.TheVariants as call
use Rattle.calls.specs.declared.Trade.{Trade}
use Rattle.calls.proofs.Calls.{on_trade_is}
use Rattle.counterparties.proofs.Present.{in_range}
use Rattle.history.specs.History.{History, expired, closings, closed_part, trades}
use Rattle.history.specs.Cash.{last_price, amount_on, of_account, signed, net, position_of, yield, paid, cash_of}
use Rattle.history.proofs.Sums.{over_all, all_zero, all_add, all_account, scaled_cancels, sum_cancels}
use Rattle.history.proofs.Accepted.{AllAllowed}
use Rattle.history.proofs.Days.{closes_allowed}

pub every_map : {A : Type 0} {P Q : A → Type 0} → ((x : A) → P x → Q x) → (xs : List A) → Every P xs → Every Q xs
every_map f [] e = tt
every_map f (x ∷ xs) e = (f x e.0, every_map f xs e.1)

-- a trade gives the buyer what it takes from the seller, also where they are one
trade_cancels : (n : ℕ) (t : Trade) → (t.buyer < n) × (t.seller < n) → over_all n (λ j. signed j t) ≡ pos 0
trade_cancels n t r =
    all_add n (λ j. of_account t.buyer j (pos t.quantity)) (λ j. of_account t.seller j (neg_ℤ (pos t.quantity)))
    ∙ ap₂ ◌+ℤ◌ (all_account n t.buyer (pos t.quantity) r.0) (all_account n t.seller (neg_ℤ (pos t.quantity)) r.1) ∙ +ℤ_invr (pos t.quantity)

trades_cancel : (n s : ℕ) (h : History) → AllAllowed n s h → Every (λ t. over_all n (λ j. signed j t) ≡ pos 0) (trades h)
unfolding trades
trades_cancel n s [] a = tt
trades_cancel n s (c ∷ h) a =
    let rest = trades_cancel n s h a.1 in
    on_trade_is (λ ts. Every (λ t. over_all n (λ j. signed j t) ≡ pos 0) ts) (λ t. t ∷ trades h) (trades h) c
    (λ t e. (trade_cancels n t (in_range n t (rw e at a.0).sentences.accounts), rest)) rest

net_cancels : (n s : ℕ) (h : History) → AllAllowed n s h → over_all n (net h) ≡ pos 0
net_cancels n s h a = sum_cancels n signed (trades h) (trades_cancel n s h a)

pub positions_cancel : (n s : ℕ) (h : History) → AllAllowed n s h → over_all n (position_of h) ≡ pos 0
positions_cancel n s h a = go (expired h)
  where
    go : (x : Bool) → over_all n (λ j. cond x (pos 0) (net h j)) ≡ pos 0
    go true = all_zero n
    go false = net_cancels n s h a

-- what the trades of h yield against the price P
yield_cancels : (n s P : ℕ) (h : History) → AllAllowed n s h → over_all n (λ j. sum (yield s P j) (trades h)) ≡ pos 0
yield_cancels n s P h a = sum_cancels n (yield s P) (trades h) (every_map each (trades h) (trades_cancel n s h a))
  where
    each : (t : Trade) → over_all n (λ j. signed j t) ≡ pos 0 → over_all n (λ j. yield s P j t) ≡ pos 0
    each t e = scaled_cancels n (λ j. signed j t *ℤ (pos P -ℤ pos t.price)) (pos s) (scaled_cancels n (λ j. signed j t) (pos P -ℤ pos t.price) e)

-- what a closed day pays
day_cancels : (n s : ℕ) (d : History) → AllAllowed n s (call.Close ∷ d) → over_all n (λ j. paid s j d) ≡ pos 0
day_cancels n s d a = scaled_cancels n (λ j. net d j *ℤ amount_on s d) (pos 100) (scaled_cancels n (net d) (amount_on s d) (net_cancels n s d a.1))

closed_allowed : (n s : ℕ) (ds : List History) → Every (λ d. AllAllowed n s (call.Close ∷ d)) ds → AllAllowed n s (closed_part ds)
unfolding closed_part
closed_allowed n s [] e = tt
closed_allowed n s (d ∷ ds) e = e.0.1

pub cash_cancels : (n s : ℕ) (h : History) → AllAllowed n s h → over_all n (cash_of s h) ≡ pos 0
cash_cancels n s h a =
    let days = closes_allowed n s h a in
    all_add n (λ j. sum (yield s (last_price h) j) (trades (closed_part (closings h)))) (λ j. sum (paid s j) (closings h))
    ∙ ap₂ ◌+ℤ◌ (yield_cancels n s (last_price h) (closed_part (closings h)) (closed_allowed n s (closings h) days))
    (sum_cancels n (paid s) (closings h) (every_map (day_cancels n s) (closings h) days))
