-- Demand 3's figures, from the accepted calls alone: a day's index, P and amount, and an account's net position, position and cash.
-- The open day's are those of the whole history, and a closed day's those of its element of `closings`.
use mathlib.Core.{Bool.cond, List.List, List.[], List.◌∷◌}
use Rattle.std.specs.Prelude.{ℕ, ◌*◌}
use lib.{Dec.eqb, IntN.ℤ, IntN.pos, IntN.neg_ℤ, IntN.◌+ℤ◌, IntN.◌-ℤ◌, IntN.◌*ℤ◌, ListN.length}
use Rattle.integers.specs.Lists.{sum_count, sum}
use Rattle.funding.specs.Minute.{weighted_sum}
use Rattle.settlement.specs.{declared.FinalMinute.FinalMinute, declared.Previous.Previous, Fixing.rate_of, Fixing.clamped_to, Fixing.amount_of, Fixing.settlement_price, Fixing.dime_price}
use Rattle.calls.specs.declared.Trade.{Trade}
use Rattle.history.specs.History.{History, FixMoment, expired, terms_of, tie_of, closings, closed_part, trades, minute_ends, at_last_end, fixes, valid_minutes, final_trades}
use Rattle.history.specs.LastMinute.{midpoints_on}

-- 01: "n and gross add up its final-minute kind 0 trades"
abbrev pub final_minute : List Trade → FinalMinute
final_minute ts = record { contracts = sum_count (λ t. t.quantity) ts; gross = sum_count (λ t. t.quantity * t.price) ts }

-- 01: "The u of" the last minute "is the day's index", 0 before it
abbrev pub index_on : History → ℕ
index_on h = at_last_end 0 (λ m. m.value) (minute_ends h)

-- P at a fix, with the price and the index of the closed day before; 02-7: on a final date "the settlement price is that value rounded to the nearest 10 cents"
abbrev pub price_at : Previous → FixMoment → ℕ
price_at previous fix =
    cond fix.final
    (dime_price fix.value)
    (settlement_price fix.value (final_minute (final_trades fix.before)) (midpoints_on fix.before) (index_on fix.before) previous)

-- f of the day's fix, `none` before it
unfoldable pub at_fix : {A : Type 0} → A → (FixMoment → A) → List FixMoment → A
at_fix none f [] = none
at_fix none f (x ∷ xs) = f x

-- 01: "the previous price and index are P and the index of the closed day before, 0 without one"
unfoldable pub previous_of : List History → Previous
previous_of [] = record { price = 0; index = 0 }
previous_of (d ∷ ds) = record { price = at_fix 0 (price_at (previous_of ds)) (fixes d); index = index_on d }

-- P of a day; 0 before its fix
abbrev pub price_on : History → ℕ
price_on h = at_fix 0 (price_at (previous_of (closings h))) (fixes h)

-- 01: the "last closed P"
abbrev pub last_price : History → ℕ
last_price h = (previous_of (closings h)).price

-- 01: "k counts the day's valid minutes, S adds i × basis for the i-th of them"; their rate, clamped
abbrev pub rate_on : History → ℤ
rate_on h = clamped_to (terms_of h) (rate_of (length (valid_minutes h)) (weighted_sum (valid_minutes h)))

-- the amount at a fix, for the contract size s
abbrev pub amount_at : ℕ → Previous → FixMoment → ℤ
amount_at s previous fix = amount_of (tie_of fix.before) (rate_on fix.before) (price_at previous fix) s

-- the amount of a day; 0 before its fix
abbrev pub amount_on : ℕ → History → ℤ
amount_on s h = at_fix (pos 0) (amount_at s (previous_of (closings h))) (fixes h)

-- ---- an account

-- z where the account j is i, and 0 for any other
abbrev pub of_account : ℕ → ℕ → ℤ → ℤ
of_account i j z = cond (eqb i j) z (pos 0)

-- account j's signed quantity of a trade: 01, "plus for the buyer, minus for the seller, and both for a trade with oneself"
abbrev pub signed : ℕ → Trade → ℤ
signed j t = of_account t.buyer j (pos t.quantity) +ℤ of_account t.seller j (neg_ℤ (pos t.quantity))

-- 01: "A net position is the signed sum of the account's accepted trades from the start"
abbrev pub net : History → ℕ → ℤ
net h j = sum (signed j) (trades h)

-- the position of the book: 02-7, after the final close "demand 3 has every position 0"
abbrev pub position_of : History → ℕ → ℤ
position_of h j = cond (expired h) (pos 0) (net h j)

-- 01: "an accepted trade of a closed day yields signed quantity × (last closed P − trade price) × size"
abbrev pub yield : ℕ → ℕ → ℕ → Trade → ℤ
yield s P j t = signed j t *ℤ (pos P -ℤ pos t.price) *ℤ pos s

-- a closed day's amount, for the net position at its close, 02-7: "as they stood before the clearing"; 01: "A cent of amount counts as 100 in cash"
abbrev pub paid : ℕ → ℕ → History → ℤ
paid s j d = net d j *ℤ amount_on s d *ℤ pos 100

-- what the trades of the closed days yield, and what the closed days pay: 01, "Trades of an open day yield nothing yet; without a closed day all cash is 0"
abbrev pub cash_of : ℕ → History → ℕ → ℤ
cash_of s h j = sum (yield s (last_price h) j) (trades (closed_part (closings h))) +ℤ sum (paid s j) (closings h)
