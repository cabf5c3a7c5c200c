-- The trades of a set, booked one after another.
--     has_room       a book within its limits has room for a set
--     tradable_in    what a trade of it requires
--     starts, booked_on, stops, ends     where the walk over the list stands, from the first trade to the last or the first refused one
-- Assumes nothing.
use mathlib.Core.Path.{◌≡◌, refl, sym, ◌∙◌, ap}
use mathlib.Core.Bool.{Bool, false, cond, true≢false}
use mathlib.Core.List.{List, [], ◌∷◌}
use Prim.Native.Nat.{ℕ, suc, ◌+◌, ◌*◌, ◌^◌, ◌<◌, ◌≤◌}
use native.Mathlib.Omega.{arith}
use native.Mathlib.Numerals.{add-one}
use lib.Dec.{eqb}
use lib.ListN.{length, get_or, drop, drop_of_length-le}
use lib.Seq.{drop-cons}
use borrow.Author.Tests.{eq-eqb}
use Rattle.std.specs.Prelude.{Result, Err}
use Rattle.std.proofs.lemmas.Bool.{cond_both}
use Rattle.prices.specs.Price.{largest_price}
use Rattle.calls.specs.Trade.{most_quantity, most_trades}
use Rattle.calls.specs.declared.Call.TheVariants as call
use Rattle.calls.specs.declared.Trade.{Trade}
use Rattle.refusals.specs.declared.Refusal.{Refusal}
use Rattle.refusals.specs.Refusals.{first_met, number_of}
use Rattle.refusals.proofs.Numbers.{not_zero}
use Rattle.refusals.proofs.Passed.{first_of_both}
use Rattle.day.specs.Day.{day_length, is_final, with_trade}
use Rattle.outcomes.specs.Effects.{figures_after}
use Rattle.figures.specs.declared.Figures.{Figures}
use Rattle.columns.specs.declared.Columns.{Columns}
use Rattle.columns.specs.Columns.{accounts}
use Rattle.counterparties.specs.Inner.{most_entry}
use Rattle.counterparties.proofs.Raised.{exchanged_most, counted_most}
use Rattle.trading.specs.Trading.{own_sentences}
use Rattle.trading.specs.Inner.{Passes, SetTradeAnswered, Tradable}
use Rattle.ledger.specs.declared.Book.{Book}
use Rattle.ledger.specs.Effects.{effect}
use Rattle.ledger.specs.Inner.{Room, SetBooked, WithinLimits}
use Rattle.ledger.specs.Sets.{set_effect, trade_sentences}
use Rattle.ledger.proofs.Held.{held, contracts_most}
use Rattle.ledger.proofs.KeepingTrade.{own_fields}
use Rattle.ledger.proofs.Lent.{position_any, cost_any, volume_any}

-- ---- room

pub has_room : (b : Book) → WithinLimits accounts b → (trades : ℕ) → trades ≤ most_trades → Room trades b
has_room b w trades few =
    let h = held accounts b w.within in
    let most = contracts_most accounts b h in
    record {
      position = λ j. omega (arith, position_any b w j);
      cost = λ j. omega (arith, cost_any b w j);
      volume = λ j. omega (arith, volume_any b w j);
      contracts = omega (arith, most);
      gross = omega (arith, most, h.final.gross.high);
    }

pub tradable_in : (k : ℕ) (b : Book) (t : Trade) → Room (suc k) b → Tradable b.figures b.columns t most_entry
tradable_in k b t r =
    record {
      positions = record { buyer = omega (arith, r.position t.buyer); seller = omega (arith, r.position t.seller) };
      costs = record { buyer = omega (arith, r.cost t.buyer); seller = omega (arith, r.cost t.seller) };
      volumes = record { buyer = omega (arith, r.volume t.buyer); seller = omega (arith, r.volume t.seller) };
      contracts = omega (arith, r.contracts);
      gross = omega (arith, r.gross);
    }

room_left : (n k : ℕ) (b : Book) (t : Trade) → Passes n t → Room (suc k) b → Room k (effect n b (call.Trade t))
unfolding effect figures_after
room_left n k b t p r =
    let f = own_fields n t p in
    let d = b.figures.day in
    let m = d.trades.settling in
    let product : t.quantity * t.price ≤ most_quantity * largest_price = omega (arith, f.high, f.quantity) in
    record {
      position = λ j. omega (arith, r.position j, exchanged_most b.columns.position t t.quantity j, f.quantity);
      cost = λ j. omega (arith, r.cost j, exchanged_most b.columns.cost t (t.quantity * t.price) j, product);
      volume = λ j. omega (arith, r.volume j, counted_most b.columns.volume t j, f.quantity);
      contracts =
          cond_both (is_final (day_length d) d.minutes.ended t) (with_trade m t) m (λ x. x.contracts + k * most_quantity < 2 ^ 32)
          (λ e. omega (arith, r.contracts, f.quantity)) (λ e. omega (arith, r.contracts));
      gross =
          cond_both (is_final (day_length d) d.minutes.ended t) (with_trade m t) m (λ x. x.gross + k * (most_quantity * largest_price) < 2 ^ 64)
          (λ e. omega (arith, r.gross, product)) (λ e. omega (arith, r.gross));
    }

-- ---- the walk

-- the trades before a place led from one book to another; those from the place on are to be booked, and there is room for them
pub record Walked (n : ℕ) (start : Book) (ts : List Trade) (at : ℕ) (b : Book) : Type 0 where
  pub room : Room (length (drop at ts)) b
  pub code : first_met (trade_sentences n ts) ≡ first_met (trade_sentences n (drop at ts))
  pub book : set_effect n start ts ≡ set_effect n b (drop at ts)

pub starts : (n : ℕ) (b : Book) (ts : List Trade) → Room (length ts) b → Walked n b ts 0 b
starts n b ts r = record { room = r; code = refl; book = refl }

module _ {n : ℕ} {start b : Book} {ts : List Trade} {at : ℕ} (w : Walked n start ts at b) where
  -- the trade at the place, before the others
  here : (d : Trade) → at < length ts → drop at ts ≡ get_or ts at d ∷ drop (at + 1) ts
  here d l = drop-cons ts at d l ∙ ap (λ (k : ℕ). get_or ts at d ∷ drop k ts) (sym (add-one at))

  room_here : (d : Trade) → at < length ts → Room (suc (length (drop (at + 1) ts))) b
  room_here d l = let r = w.room in rw (here d l) at r

  pub tradable_here : (d : Trade) → at < length ts → Tradable b.figures b.columns (get_or ts at d) most_entry
  tradable_here d l = tradable_in (length (drop (at + 1) ts)) b (get_or ts at d) (room_here d l)

  -- by the trade's own sentences and those of the trades after it
  code_here : (d : Trade) → at < length ts
      → first_met (trade_sentences n ts) ≡ cond (eqb (first_met (own_sentences n (get_or ts at d))) 0) (first_met (trade_sentences n (drop (at + 1) ts))) (first_met (own_sentences n (get_or ts at d)))
  unfolding trade_sentences
  code_here d l =
      w.code ∙ ap (λ (rest : List Trade). first_met (trade_sentences n rest)) (here d l)
      ∙ first_of_both (own_sentences n (get_or ts at d)) (trade_sentences n (drop (at + 1) ts)) refl

  goes_on : (d : Trade) → at < length ts → Passes n (get_or ts at d) → Walked n start ts (at + 1) (effect n b (call.Trade (get_or ts at d)))
  unfolding set_effect
  goes_on d l p =
      let t = get_or ts at d in
      record {
        room = room_left n (length (drop (at + 1) ts)) b t p (room_here d l);
        code = code_here d l ∙ ap (λ (k : ℕ). cond (eqb k 0) (first_met (trade_sentences n (drop (at + 1) ts))) k) p;
        book = w.book ∙ ap (set_effect n b) (here d l);
      }

  module _ (d : Trade) (l : at < length ts) {r : Result Unit Refusal} {f : Figures} {c : Columns} (a : SetTradeAnswered n b.figures b.columns (get_or ts at d) r f c) where
    pub booked_on : number_of r ≡ 0 → Walked n start ts (at + 1) (record { figures = f; columns = c })
    unfolding effect
    booked_on e =
        let t = get_or ts at d in
        let same : record { figures = f; columns = c } ≡ effect n b (call.Trade t) =
        rw (a.figures, a.columns, e) in
        rw same (goes_on d l (sym a.code ∙ e))

    pub stops : (e : Refusal) → r ≡ Err e → (b' : Book) → SetBooked n start ts r b'
    stops e is b' =
        let some : eqb (number_of r) 0 ≡ false = rw is (not_zero e) in
        record {
          code = sym (code_here d l ∙ ap (λ (k : ℕ). cond (eqb k 0) (first_met (trade_sentences n (drop (at + 1) ts))) k) (sym a.code) ∙ ap (λ (t : Bool). cond t (first_met (trade_sentences n (drop (at + 1) ts))) (number_of r)) some);
          book = λ z. absurd (true≢false (sym (eq-eqb (number_of r) 0 z) ∙ some));
        }

  pub ends : length ts ≤ at → (r : Result Unit Refusal) → number_of r ≡ 0 → SetBooked n start ts r b
  unfolding trade_sentences set_effect
  ends l r e =
      let left : drop at ts ≡ [] = drop_of_length-le ts l in
      record { code = e ∙ sym (w.code ∙ ap (λ (rest : List Trade). first_met (trade_sentences n rest)) left); book = λ z. sym (w.book ∙ ap (set_effect n b) left) }
