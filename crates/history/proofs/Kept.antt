-- The book of a history, and that an accepted call leads from the book of h to the book of c ∷ h. Assumes nothing.
use mathlib.Core.Path.{◌≡◌, refl, sym, ◌∙◌, ap}
use mathlib.Core.Bool.{Bool, true, false, cond, ◌||◌, true≢false}
use mathlib.Core.List.{List, [], ◌∷◌}
use Prim.Native.Nat.{ℕ, ◌+◌, ◌*◌, ◌<◌, ◌≤◌}
use native.Mathlib.Nat.{add_assoc}
use native.Mathlib.Numerals.{add-one}
use lib.Dec.{leb, ltb, eqb}
use borrow.Author.Tests.{eqb-true, not-false}
use Rattle.std.proofs.lemmas.Bool.{and_parts, or_parts}
use Rattle.integers.proofs.Tests.{tests, none}
use lib.IntN.{ℤ, pos, neg_ℤ, ◌+ℤ◌, ◌-ℤ◌, ◌*ℤ◌, +ℤ_assoc, +ℤ_invr}
use lib.ListN.{length, replicate, set}
use Rattle.integers.specs.Lists.{keep_if, sum_count, sum}
use Rattle.integers.proofs.Ring.{ring, ◌⊕◌, ◌⊖◌, ◌⊗◌, ⊝◌, num}
use Rattle.funding.specs.Minute.{weighted_sum}
use Rattle.columns.specs.Columns.{entry, table, raise, raise_count}
use Rattle.day.specs.declared.Day.{Day}
use Rattle.figures.specs.declared.Figures.{Figures}
use Rattle.calls.specs.declared.Call.TheVariants as call
use Rattle.calls.specs.declared.Trade.{Trade}
use Rattle.calls.specs.declared.Call.{Call}
use Rattle.calls.proofs.Calls.{TradeOr, CloseOr, trade, close, trade_or, close_or}
use Rattle.calls.specs.Length.{full_day, final_day, is_ordinary_length}
use Rattle.settlement.specs.Fixing.{amount_of, settlement_price}
use Rattle.figures.specs.Fixing.{fix_price}
use Rattle.day.specs.Day.{is_fixed, is_final, minute_of, forbids_any_fix}
use Rattle.day_effects.specs.Effects.{with_minutes, with_trades, with_fixed, with_timing, traded, minute_ended}
use Rattle.outcomes.specs.Effects.{with_day, figures_after}
use Rattle.calls.proofs.Calls as calls
use Rattle.closing.specs.Closing.{posting, posted}
use Rattle.columns.proofs.Accounts.{table_at}
use Rattle.counterparties.specs.Counterparties.{exchanged, counted}
use Rattle.ledger.specs.declared.Book.{Book}
use Rattle.ledger.specs.Effects.{with_figures, traded_book, closed_book, effect}
use Rattle.ledger.specs.Step.{fresh}
use Rattle.refusals.specs.Refusals.{most_days}
use Rattle.figures.specs.Figures.{is_over}
use Rattle.outcomes.specs.Outcome.{day_forbids}
use Rattle.outcomes.proofs.Passed.{passed_day}
use Rattle.ledger.proofs.Allowed.{Allowed, accounts_allow}
use Rattle.history.specs.History.{History, length_of, begun, is_final_date_on, expired, halted, market, minute_market, last, closings, today, closed_part, trades, minute_ends, fixes, minutes, at_last_end, ends_valid, valid_of, valid_minutes, final_trades, tie_of}
use Rattle.history.specs.Cash.{final_minute, index_on, price_at, at_fix, previous_of, price_on, last_price, rate_on, amount_on, of_account, signed, net, position_of, yield, paid, cash_of}
use Rattle.history.specs.LastMinute.{latest, minute_markets, stood}
use Rattle.history.proofs.LastMinute.{midpoints_from, after_quote, after_timed, after_minute, after_length, after_final_date, at_fix_time}
use Rattle.history.proofs.Columns.{table_ext, replicate_table, raise_table, raise_count_table}

-- ---- the book of a history

abbrev pub day_from : ℕ → History → Day
day_from s h = record {
  markets = record { standing = market h; minute = minute_market h };
  minutes = record { ended = minutes h; valid = length (valid_minutes h); weighted = weighted_sum (valid_minutes h); index = index_on h };
  trades = record { last = last h; settling = final_minute (final_trades h) };
  fixed = record { price = price_on h; amount = amount_on s h };
  session = record { length = length_of h; begun = begun h };
  timing = record { latest = latest h; midpoints = midpoints_from h };
}

abbrev pub figures_from : ℕ → History → Figures
figures_from s h = record { size = s; closed = length (closings h); halted = halted h; expired = expired h; previous = previous_of (closings h); day = day_from s h }

-- account j's signed quantity × price of a trade, of all trades, and of today's
abbrev pub priced : ℕ → Trade → ℤ
priced j t = signed j t *ℤ pos t.price

abbrev pub worth : History → ℕ → ℤ
worth h j = sum (priced j) (trades h)

abbrev pub cost_of : History → ℕ → ℤ
cost_of h j = worth h j -ℤ worth (closed_part (closings h)) j

-- account j's contracts bought plus sold in a trade, and today
abbrev pub turnover : ℕ → Trade → ℕ
turnover j t = cond (eqb t.buyer j) t.quantity 0 + cond (eqb t.seller j) t.quantity 0

abbrev pub volume_of : History → ℕ → ℕ
volume_of h j = sum_count (turnover j) (trades (today h))

-- account j's opening position
abbrev pub opening_of : History → ℕ → ℤ
opening_of h j = cond (expired h) (pos 0) (net (closed_part (closings h)) j)

abbrev pub book_from : ℕ → ℕ → History → Book
book_from n s h = record {
  figures = figures_from s h;
  columns = record {
    opening = table n (opening_of h);
    position = table n (position_of h);
    cost = table n (cost_of h);
    volume = table n (volume_of h);
    cash = table n (cash_of s h);
  };
}

-- ---- what an allowed call says of the book

module _ (n s : ℕ) (h : History) (c : Call) (p : Allowed n (book_from n s h) c) where
  abbrev parts : (day_forbids (day_from s h) c ≡ false) × (is_over (figures_from s h) ≡ false)
  parts = passed_day (figures_from s h) c (accounts_allow n c) p.sentences

  pub day_allows : day_forbids (day_from s h) c ≡ false
  day_allows = parts.0

  pub not_expired : expired h ≡ false
  not_expired = (or_parts (leb most_days (length (closings h))) (expired h) parts.1).1

  -- no minute has ended before the date has begun
  pub none_ended : begun h ≡ false → minutes h ≡ 0
  none_ended late =
      let d = p.figures.day in
      eqb-true (minutes h) 0 (and_parts (eqb (length_of h) full_day) (eqb (minutes h) 0) (rw late at d.start)).1

-- ---- the figures, call by call

if_ap : {A B : Type 0} (f : List A → B) (t : Bool) (x : A) (l : List A) → cond t (f (x ∷ l)) (f l) ≡ f (keep_if t x l)
if_ap f true x l = refl
if_ap f false x l = refl

module _ (s : ℕ) (h : History) where
  final_after : (t : Trade) → (traded (day_from s h) t).settling ≡ final_minute (final_trades (call.Trade t ∷ h))
  unfolding final_trades sum_count
  final_after t = if_ap final_minute (is_final (length_of h) (minutes h) t) t (final_trades h)

  -- whether the minute that ends with the index u is valid
  abbrev ends : ℕ → Bool
  ends u = ends_valid (record { value = u; before = h })

  valid_after : (u : ℕ) → (minute_ended (day_from s h) (ends u) u).valid ≡ length (valid_minutes (call.MinuteEnd u ∷ h))
  unfolding minute_ends valid_of
  valid_after u =
      ap (λ k. cond (ends u) k (length (valid_minutes h))) (add-one (length (valid_minutes h))) ∙ if_ap length (ends u) (minute_of (minute_market h) (last h) u) (valid_minutes h)

  weighted-minute_ended : (u : ℕ) → (minute_ended (day_from s h) (ends u) u).weighted ≡ weighted_sum (valid_minutes (call.MinuteEnd u ∷ h))
  unfolding minute_ends valid_of weighted_sum
  weighted-minute_ended u = if_ap weighted_sum (ends u) (minute_of (minute_market h) (last h) u) (valid_minutes h)

  -- the price of a fix that comes after the day's last minute
  pub fix_price-price_at : (set : ℕ) → length_of h ≤ minutes h → fix_price (figures_from s h) set ≡ price_at (previous_of (closings h)) (record { final = false; value = set; before = h })
  fix_price-price_at set over = ap (λ m. settlement_price set (final_minute (final_trades h)) m (index_on h) (previous_of (closings h))) (at_fix_time h over)

  -- an accepted call leads to the figures of its history: a part of the day at a time
  pub figures_after-figures_from : (n : ℕ) (c : Call) → Allowed n (book_from n s h) c → figures_after (figures_from s h) c ≡ figures_from s (c ∷ h)
  unfolding figures_after length_of begun expired halted market minute_market last closings minute_ends fixes final_trades at_last_end at_fix previous_of valid_of sum_count weighted_sum latest minute_markets stood
  figures_after-figures_from n (call.Quote m) p =
      let f = figures_after (figures_from s h) (call.Quote m) in
      λ i. with_day f f.halted (with_timing f.day (record { latest = latest h; midpoints = after_quote h m i }))
  figures_after-figures_from n (call.Trade t) p =
      let f = figures_after (figures_from s h) (call.Trade t) in
      λ i. with_day f f.halted (with_trades f.day (record { last = f.day.trades.last; settling = final_after t i }))
  figures_after-figures_from n call.Halt p = refl
  figures_after-figures_from n call.Resume p = refl
  figures_after-figures_from n (call.MinuteEnd u) p =
      let f = figures_after (figures_from s h) (call.MinuteEnd u) in
      let before : minutes h < length_of h = omega (tests, none (leb (length_of h) (minutes h)) (is_fixed (day_from s h) ∷ []) (day_allows n s h (call.MinuteEnd u) p) 0) in
      λ i. with_day f f.halted
      (with_timing (with_minutes f.day (record { ended = add-one (minutes h) i; valid = valid_after u i; weighted = weighted-minute_ended u i; index = f.day.minutes.index }))
      (record { latest = 0; midpoints = after_minute h u before i }))
  figures_after-figures_from n (call.Fix set) p =
      let f = figures_after (figures_from s h) (call.Fix set) in
      let any = (or_parts (is_final_date_on h) (forbids_any_fix (day_from s h)) (day_allows n s h (call.Fix set) p)).1 in
      let over : length_of h ≤ minutes h = omega (tests, none (ltb (minutes h) (length_of h)) (is_fixed (day_from s h) ∷ []) any 0) in
      λ i. with_day f f.halted (with_fixed f.day (record { price = fix_price-price_at set over i; amount = amount_of (tie_of h) (rate_on h) (fix_price-price_at set over i) s }))
  figures_after-figures_from n call.Close p = cc (add-one (length (closings h)))
  figures_after-figures_from n (call.DayLength l) p =
      let f = figures_after (figures_from s h) (call.DayLength l) in
      let ordinary = not-false (is_ordinary_length l) p.sentences.field in
      let none = none_ended n s h (call.DayLength l) p (day_allows n s h (call.DayLength l) p) in
      let same = after_length h l p.figures.day.length (ap (λ t. t || eqb l final_day) ordinary) none in
      λ i. with_day f f.halted (with_timing f.day (record { latest = latest h; midpoints = same i }))
  figures_after-figures_from n (call.TimedQuote q) p =
      let f = figures_after (figures_from s h) (call.TimedQuote q) in
      λ i. with_day f f.halted (with_timing f.day (record { latest = q.time; midpoints = after_timed h q i }))
  figures_after-figures_from n (call.FinalDate m) p =
      let f = figures_after (figures_from s h) (call.FinalDate m) in
      let same = after_final_date h m p.figures.day.length (none_ended n s h (call.FinalDate m) p (day_allows n s h (call.FinalDate m) p)) in
      λ i. with_day f f.halted (with_timing f.day (record { latest = latest h; midpoints = same i }))
  figures_after-figures_from n (call.FinalFix v) p = refl

-- ---- the columns after a trade

-- what a trade moves to the buyer from the seller, at the account j
abbrev moved : Trade → ℕ → ℕ → ℤ
moved t a j = of_account t.buyer j (pos a) +ℤ of_account t.seller j (neg_ℤ (pos a))

exchanged_table : (n : ℕ) (f : ℕ → ℤ) (t : Trade) (a : ℕ) → exchanged (table n f) t a ≡ table n (λ j. f j +ℤ moved t a j)
exchanged_table n f t a =
    ap (λ (l : List ℤ). raise l t.seller (neg_ℤ (pos a))) (raise_table n t.buyer (pos a) f)
    ∙ raise_table n t.seller (neg_ℤ (pos a)) (λ j. f j +ℤ of_account t.buyer j (pos a))
    ∙ table_ext n _ _ (λ j k. +ℤ_assoc (f j) (of_account t.buyer j (pos a)) (of_account t.seller j (neg_ℤ (pos a))))

counted_table : (n : ℕ) (f : ℕ → ℕ) (t : Trade) → counted (table n f) t ≡ table n (λ j. f j + turnover j t)
counted_table n f t =
    ap (λ (l : List ℕ). raise_count l t.seller t.quantity) (raise_count_table n t.buyer t.quantity f)
    ∙ raise_count_table n t.seller t.quantity (λ j. f j + cond (eqb t.buyer j) t.quantity 0)
    ∙ table_ext n _ _ (λ j k. add_assoc (f j) (cond (eqb t.buyer j) t.quantity 0) (cond (eqb t.seller j) t.quantity 0))

-- quantity × price, for the buyer and the seller
priced_moved : (j : ℕ) (t : Trade) → priced j t ≡ moved t (t.quantity * t.price) j
priced_moved j t = go (eqb t.buyer j) (eqb t.seller j) (pos t.quantity) (pos t.price)
  where
    go : (x y : Bool) (q p : ℤ) → (cond x q (pos 0) +ℤ cond y (neg_ℤ q) (pos 0)) *ℤ p ≡ cond x (q *ℤ p) (pos 0) +ℤ cond y (neg_ℤ (q *ℤ p)) (pos 0)
    go true true = ring 2 (λ q p. (q ⊕ ⊝ q) ⊗ p) (λ q p. q ⊗ p ⊕ ⊝ (q ⊗ p)) refl
    go true false = ring 2 (λ q p. (q ⊕ num 0) ⊗ p) (λ q p. q ⊗ p ⊕ num 0) refl
    go false true = ring 2 (λ q p. (num 0 ⊕ ⊝ q) ⊗ p) (λ q p. num 0 ⊕ ⊝ (q ⊗ p)) refl
    go false false = ring 2 (λ q p. (num 0 ⊕ num 0) ⊗ p) (λ q p. num 0 ⊕ num 0) refl

cost_traded : (n : ℕ) (h : History) (t : Trade) → exchanged (table n (cost_of h)) t (t.quantity * t.price) ≡ table n (cost_of (call.Trade t ∷ h))
unfolding closings trades sum
cost_traded n h t =
    exchanged_table n (cost_of h) t (t.quantity * t.price)
    ∙ table_ext n _ _ (λ j k. ap (λ z. cost_of h j +ℤ z) (sym (priced_moved j t)) ∙ regroup (worth h j) (worth (closed_part (closings h)) j) (priced j t))
  where
    regroup : (w v x : ℤ) → w -ℤ v +ℤ x ≡ w +ℤ x -ℤ v
    regroup = ring 3 (λ w v x. w ⊖ v ⊕ x) (λ w v x. w ⊕ x ⊖ v) refl

-- the contract has not ended where a call is allowed
position_traded : (n : ℕ) (h : History) (t : Trade) → expired h ≡ false → exchanged (table n (position_of h)) t t.quantity ≡ table n (position_of (call.Trade t ∷ h))
unfolding trades sum expired
position_traded n h t going = go (expired h) going
  where
    go : (x : Bool) → x ≡ false → exchanged (table n (λ j. cond x (pos 0) (net h j))) t t.quantity ≡ table n (λ j. cond x (pos 0) (net (call.Trade t ∷ h) j))
    go false e = exchanged_table n (net h) t t.quantity
    go true e = absurd (true≢false e)

-- ---- the columns after a close

-- the positions that it leaves, where those before it are f
left : (n : ℕ) (final x : Bool) (f : ℕ → ℤ) → x ≡ false → cond final (replicate n (pos 0)) (table n (λ j. cond x (pos 0) (f j))) ≡ table n (λ j. cond final (pos 0) (f j))
left n true x f e = replicate_table n (pos 0)
left n false false f e = refl
left n false true f e = absurd (true≢false e)

-- gains against the price P are (net × P − worth) × size
gains : (s P j : ℕ) (ts : List Trade) → sum (yield s P j) ts ≡ (sum (signed j) ts *ℤ pos P -ℤ sum (priced j) ts) *ℤ pos s
unfolding sum
gains s P j [] = ring 2 (λ P s. num 0) (λ P s. (num 0 ⊗ P ⊖ num 0) ⊗ s) refl (pos P) (pos s)
gains s P j (t ∷ ts) = ap (λ z. z +ℤ yield s P j t) (gains s P j ts) ∙ regroup (sum (signed j) ts) (sum (priced j) ts) (signed j t) (pos t.price) (pos P) (pos s)
  where
    regroup : (n w q p P s : ℤ) → (n *ℤ P -ℤ w) *ℤ s +ℤ q *ℤ (P -ℤ p) *ℤ s ≡ ((n +ℤ q) *ℤ P -ℤ (w +ℤ q *ℤ p)) *ℤ s
    regroup = ring 6 (λ n w q p P s. (n ⊗ P ⊖ w) ⊗ s ⊕ q ⊗ (P ⊖ p) ⊗ s) (λ n w q p P s. ((n ⊕ q) ⊗ P ⊖ (w ⊕ q ⊗ p)) ⊗ s) refl

-- each account's cash after a close
abbrev cash_after : Book → ℕ → ℤ
cash_after b = posted b.figures b.columns.opening b.columns.position b.columns.cost b.columns.cash

-- what the account j had, what the close of h posts to it, and what it has then
cash_closed : (n s : ℕ) (h : History) → expired h ≡ false → (j : ℕ) → j < n → cash_after (book_from n s h) j ≡ cash_of s (call.Close ∷ h) j
unfolding closings closed_part previous_of trades sum
cash_closed n s h going j k =
    let before = closed_part (closings h) in
    let paidBefore = sum (paid s j) (closings h) in
    cc (table_at n (cash_of s h) j (pos 0) k, held (position_of h) (net h) refl, held (opening_of h) (net before) refl, table_at n (cost_of h) j (pos 0) k)
    ∙ ap (λ z. z +ℤ paidBefore +ℤ posting (figures_from s h) (net h j) (net before j) (cost_of h j)) (gains s (last_price h) j (trades before))
    ∙ telescope (net h j) (pos (price_on h)) (worth h j) (net before j) (pos (last_price h)) (worth before j) (pos s) paidBefore (amount_on s h)
    ∙ ap (λ z. z +ℤ (paidBefore +ℤ paid s j h)) (sym (gains s (price_on h) j (trades h)))
  where
    -- an entry of a column that the end of the contract clears
    held : (f g : ℕ → ℤ) → f j ≡ cond (expired h) (pos 0) (g j) → entry (table n f) j ≡ g j
    held f g e = table_at n f j (pos 0) k ∙ e ∙ ap (λ (x : Bool). cond x (pos 0) (g j)) going

    -- n, P, w now, and m, Q, v at the close before
    telescope : (n P w m Q v s f a : ℤ)
        → (m *ℤ Q -ℤ v) *ℤ s +ℤ f +ℤ ((n *ℤ P -ℤ m *ℤ Q -ℤ (w -ℤ v)) *ℤ s +ℤ n *ℤ a *ℤ pos 100) ≡ (n *ℤ P -ℤ w) *ℤ s +ℤ (f +ℤ n *ℤ a *ℤ pos 100)
    telescope = ring 9
        (λ n P w m Q v s f a. (m ⊗ Q ⊖ v) ⊗ s ⊕ f ⊕ ((n ⊗ P ⊖ m ⊗ Q ⊖ (w ⊖ v)) ⊗ s ⊕ n ⊗ a ⊗ num 100))
        (λ n P w m Q v s f a. (n ⊗ P ⊖ w) ⊗ s ⊕ (f ⊕ n ⊗ a ⊗ num 100))
        refl

cost_closed : (n : ℕ) (h : History) → replicate n (pos 0) ≡ table n (cost_of (call.Close ∷ h))
unfolding closings closed_part trades
cost_closed n h = replicate_table n (pos 0) ∙ table_ext n (λ j. pos 0) (cost_of (call.Close ∷ h)) (λ j k. sym (+ℤ_invr (worth h j)))

-- ---- the book, call by call

pub effect_is : (n s : ℕ) (h : History) (c : Call) → Allowed n (book_from n s h) c → effect n (book_from n s h) c ≡ book_from n s (c ∷ h)
unfolding effect closings today closed_part expired trades sum_count sum
effect_is n s h c allowed = by (trade_or c) (close_or c)
  where
    going : expired h ≡ false
    going = not_expired n s h c allowed

    by : TradeOr c → CloseOr c → effect n (book_from n s h) c ≡ book_from n s (c ∷ h)
    by (trade t e) k = rw e (cc (figures_after-figures_from s h n (call.Trade t) (rw e at allowed), position_traded n h t going, cost_traded n h t, counted_table n (volume_of h) t))
    by (calls.TradeOr.other o) (close e) =
        rw e
        (cc (figures_after-figures_from s h n call.Close (rw e at allowed), cost_closed n h, replicate_table {A = ℕ} n 0, left n (is_final_date_on h) (expired h) (net h) going, table_ext n (cash_after (book_from n s h)) (cash_of s (call.Close ∷ h)) (cash_closed n s h going)))
    by (calls.TradeOr.other o) (calls.CloseOr.other k) =
        let b = book_from n s h in
        let f = figures_after (figures_from s h) c in
        let ended : expired h ≡ expired (c ∷ h) = sym (k Bool (is_final_date_on h) (expired h)) in
        let days : closings h ≡ closings (c ∷ h) = sym (k (List History) (h ∷ closings h) (closings h)) in
        let all : trades h ≡ trades (c ∷ h) = sym (o (List Trade) (λ t. t ∷ trades h) (trades h)) in
        let todays : trades (today h) ≡ trades (today (c ∷ h)) = sym (ap trades (k History [] (c ∷ today h)) ∙ o (List Trade) (λ t. t ∷ trades (today h)) (trades (today h))) in
        o Book (traded_book b f) _ ∙ k Book (closed_book n b f) (with_figures b f)
        ∙ (λ i. record {
          figures = figures_after-figures_from s h n c allowed i;
          columns = record {
            opening = table n (λ j. cond (ended i) (pos 0) (net (closed_part (days i)) j));
            position = table n (λ j. cond (ended i) (pos 0) (sum (signed j) (all i)));
            cost = table n (λ j. sum (priced j) (all i) -ℤ worth (closed_part (days i)) j);
            volume = table n (λ j. sum_count (turnover j) (todays i));
            cash = table n (λ j. sum (yield s (previous_of (days i)).price j) (trades (closed_part (days i))) +ℤ sum (paid s j) (days i));
          };
        })

pub fresh_is : (n s : ℕ) → fresh n s ≡ book_from n s []
unfolding length_of begun expired halted market minute_market last closings today closed_part trades minute_ends fixes valid_of final_trades sum_count sum at_last_end at_fix previous_of weighted_sum latest minute_markets stood
fresh_is n s = cc (replicate_table n (pos 0), replicate_table {A = ℕ} n 0)
