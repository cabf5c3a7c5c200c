-- A list of calls and sets leads from the book of a history to the book of the history with the accepted calls before it. Assumes nothing.
use mathlib.Core.Path.{◌≡◌, refl, sym, ◌∙◌, ap, subst}
use mathlib.Core.Bool.{Bool, true, false, cond}
use mathlib.Core.List.{List, [], ◌∷◌, ◌++◌, reverse_aux}
use Prim.Native.Nat.{ℕ}
use lib.Dec.{eqb}
use borrow.Author.Tests.{eqb-true}
use Rattle.integers.specs.Lists.{Every}
use Rattle.calls.specs.declared.Call.TheVariants as call
use Rattle.calls.specs.declared.Trade.{Trade}
use Rattle.calls.specs.declared.Call.{Call}
use Rattle.figures.specs.Figures.{is_over}
use Rattle.columns.proofs.Accounts.{table_length}
use Rattle.trading.specs.Inner.{Passes}
use Rattle.ledger.specs.declared.Book.{Book}
use Rattle.ledger.specs.Effects.{effect}
use Rattle.ledger.specs.Refusals.{refusal}
use Rattle.ledger.specs.Step.{step}
use Rattle.ledger.specs.Sets.{set_effect, set_refusal, trade_set}
use Rattle.ledger.specs.Operations.{Operation, trade_calls, answered, is_accepted, stands_for, run, accepted_calls}
use Rattle.ledger.specs.Keeping.{Shaped}
use Rattle.ledger.proofs.Held.{held}
use Rattle.ledger.proofs.Passed.{passed}
use Rattle.ledger.proofs.Interim.{Interim, interim}
use Rattle.ledger.proofs.Allowed.{Allowed, allowed_call, allowed_trade}
use Rattle.ledger.proofs.SetRefusal.{set_passed}
use Rattle.ledger.proofs.KeepingTrade.{interim_traded}
use Rattle.history.specs.History.{History, halted, expired, closings}
use Rattle.history.proofs.Kept.{book_from, effect_is}

-- each call of the history was allowed by the book of those before it
abbrev pub AllAllowed : ℕ → ℕ → History → Type 0
AllAllowed n s [] = Unit {0}
AllAllowed n s (c ∷ h) = Allowed n (book_from n s h) c × AllAllowed n s h

-- a book is that of the history with the calls cs after it, which were allowed
pub record Reached (n s : ℕ) (h : History) (cs : List Call) (b : Book) : Type 0 where
  pub book_is : b ≡ book_from n s (reverse_aux cs h)
  pub all_allowed : AllAllowed n s (reverse_aux cs h)

-- the book b of the history h, and what the calls and sets os make of both
abbrev pub After : ℕ → ℕ → Book → History → List Operation → Type 0
After n s b h os = Reached n s h (accepted_calls n b os) (run n b os)

-- ---- one of them

shaped_from : (n s : ℕ) (h : History) → Shaped n (book_from n s h)
shaped_from n s h = record { opening = table_length n _; position = table_length n _; cost = table_length n _; volume = table_length n _; cash = table_length n _ }

one_call : (n s : ℕ) (h : History) (c : Call) → refusal n (book_from n s h) c ≡ 0 → AllAllowed n s h → Reached n s h (c ∷ []) (effect n (book_from n s h) c)
one_call n s h c r a =
    let p = allowed_call n (book_from n s h) c (passed n (book_from n s h) c r) in
    record { book_is = effect_is n s h c p; all_allowed = (p, a) }

-- the trades of a set, one by one: what one of them leads to is the book of the history with it
booked : (n s : ℕ) (h : History) (ts : List Trade) → Interim n (book_from n s h) → is_over (book_from n s h).figures ≡ false → (book_from n s h).figures.halted ≡ false → Every (Passes n) ts
    → AllAllowed n s h → Reached n s h (trade_calls ts) (set_effect n (book_from n s h) ts)
unfolding set_effect closings halted expired
booked n s h [] i over resumed p a = record { book_is = refl; all_allowed = a }
booked n s h (t ∷ ts) i over resumed p a =
    let b = book_from n s h in
    let allowed = allowed_trade n b t i over resumed p.0 in
    let e = effect_is n s h (call.Trade t) allowed in
    let next = subst (Interim n) e (interim_traded n b t p.0 (shaped_from n s h) i) in
    let rest = booked n s (call.Trade t ∷ h) ts next over resumed p.1 (allowed, a) in
    record { book_is = ap (λ (x : Book). set_effect n x ts) e ∙ rest.book_is; all_allowed = rest.all_allowed }

one_set : (n s : ℕ) (h : History) (ts : List Trade) → set_refusal n (book_from n s h) ts ≡ 0 → AllAllowed n s h → Reached n s h (trade_calls ts) (set_effect n (book_from n s h) ts)
one_set n s h ts r a =
    let p = set_passed n (book_from n s h) ts r in
    booked n s h ts (interim (held n (book_from n s h) p.opened.limits)) p.opened.over p.opened.halted p.each a

-- by whether it is accepted
either : (n s : ℕ) (h : History) (number : ℕ) (cs : List Call) (b : Book) → (number ≡ 0 → Reached n s h cs b) → AllAllowed n s h
    → Reached n s h (cond (eqb number 0) cs []) (cond (eqb number 0) b (book_from n s h))
either n s h number cs b accepted a = go (eqb number 0) (λ e. accepted (eqb-true number 0 e))
  where
    go : (x : Bool) → (x ≡ true → Reached n s h cs b) → Reached n s h (cond x cs []) (cond x b (book_from n s h))
    go true f = f refl
    go false f = record { book_is = refl; all_allowed = a }

one_operation : (n s : ℕ) (h : History) (o : Operation) → AllAllowed n s h → let b = book_from n s h in Reached n s h (cond (is_accepted n b o) (stands_for o) []) (answered n b o).book
unfolding step trade_set
one_operation n s h (Operation.Single c) a = either n s h (refusal n (book_from n s h) c) (c ∷ []) (effect n (book_from n s h) c) (λ r. one_call n s h c r a) a
one_operation n s h (Operation.Set ts) a = either n s h (set_refusal n (book_from n s h) ts) (trade_calls ts) (set_effect n (book_from n s h) ts) (λ r. one_set n s h ts r a) a

-- ---- a list of them

reverse_both : {A : Type 0} (xs ys r : List A) → reverse_aux (xs ++ ys) r ≡ reverse_aux ys (reverse_aux xs r)
reverse_both [] ys r = refl
reverse_both (x ∷ xs) ys r = reverse_both xs ys (x ∷ r)

pub after_operations : (n s : ℕ) (h : History) (os : List Operation) → AllAllowed n s h → After n s (book_from n s h) h os
unfolding run accepted_calls
after_operations n s h [] a = record { book_is = refl; all_allowed = a }
after_operations n s h (o ∷ os) a =
    let b = book_from n s h in
    let cs = cond (is_accepted n b o) (stands_for o) [] in
    let one = one_operation n s h o a in
    let h' = reverse_aux cs h in
    let rest = subst (λ (x : Book). After n s x h' os) (sym one.book_is) (after_operations n s h' os one.all_allowed) in
    let both = reverse_both cs (accepted_calls n (answered n b o).book os) h in
    record { book_is = rest.book_is ∙ ap (book_from n s) (sym both); all_allowed = subst (AllAllowed n s) (sym both) rest.all_allowed }
