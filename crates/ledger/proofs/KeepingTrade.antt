-- A trade that passes by itself keeps what a book holds while a set is booked, with oneself too.
--     own_fields, own_accounts     what is known of such a trade
--     interim_traded, interim_set     the book after it, and after many
-- Assumes nothing.
use mathlib.Core.Path.{◌≡◌, refl}
use mathlib.Core.List.{List, [], ◌∷◌}
use Prim.Native.Nat.{ℕ, ◌+◌, ◌*◌, ◌<◌, ◌≤◌}
use native.Mathlib.Omega.{arith}
use lib.IntN.{pos, neg_ℤ, nat_abs, ◌+ℤ◌}
use lib.ListN.{length-set}
use Rattle.integers.specs.Lists.{Every}
use Rattle.integers.proofs.Sizes.{abs_neg}
use Rattle.std.proofs.lemmas.Bool.{cond_both}
use Rattle.prices.specs.Price.{largest_price}
use Rattle.calls.specs.declared.Call.TheVariants as call
use Rattle.calls.specs.declared.Trade.{Trade}
use Rattle.refusals.proofs.Passed.{unmet}
use Rattle.day.specs.Day.{day_length, is_final, with_trade}
use Rattle.outcomes.specs.Effects.{figures_after}
use Rattle.outcomes.proofs.Keeping.{trade_kept}
use Rattle.day.proofs.Held.{HeldFinal}
use Rattle.day_effects.proofs.Keeping.{TradeFields, trade_fields}
use Rattle.columns.specs.Columns.{entry, count_at, raise, raise_count, sum_below}
use Rattle.columns.proofs.Accounts.{sum_raised}
use Rattle.counterparties.specs.Counterparties.{exchanged, counted}
use Rattle.counterparties.proofs.Present.{in_range}
use Rattle.counterparties.proofs.Raised.{cost_raised}
use Rattle.trading.specs.Trading.{own_sentences}
use Rattle.trading.specs.Inner.{Passes}
use Rattle.ledger.specs.Effects.{effect}
use Rattle.ledger.specs.Sets.{set_effect}
use Rattle.ledger.specs.Keeping.{Shaped}
use Rattle.ledger.specs.declared.Book.{Book}
use Rattle.ledger.proofs.Shape.{shape_kept}
use Rattle.ledger.proofs.Interim.{Interim}

module _ (n : ℕ) (t : Trade) (p : Passes n t) where
  pub own_fields : TradeFields t
  own_fields = trade_fields t (unmet (own_sentences n t) refl p 0)

  pub own_accounts : (t.buyer < n) × (t.seller < n)
  own_accounts = in_range n t (unmet (own_sentences n t) refl p 1)

module _ (n : ℕ) (b : Book) (t : Trade) (p : Passes n t) (shape : Shaped n b) (h : Interim n b) where
  costs : (j : ℕ) → j < n → nat_abs (entry (exchanged b.columns.cost t (t.quantity * t.price)) j) ≤ count_at (counted b.columns.volume t) j * largest_price
  costs j l =
      let q = t.quantity in
      let x = q * t.price in
      let fields = own_fields n t p in
      let accounts = own_accounts n t p in
      let cost = raise b.columns.cost t.buyer (pos x) in
      let volume = raise_count b.columns.volume t.buyer q in
      cost_raised cost volume t.seller j q (neg_ℤ (pos x))
      (omega (arith, accounts.1, shape.cost, length-set b.columns.cost t.buyer (entry b.columns.cost t.buyer +ℤ pos x)))
      (omega (arith, accounts.1, shape.volume, length-set b.columns.volume t.buyer (count_at b.columns.volume t.buyer + q)))
      (omega (arith, fields.high, abs_neg (pos x)))
      (cost_raised b.columns.cost b.columns.volume t.buyer j q (pos x) (omega (arith, accounts.0, shape.cost)) (omega (arith, accounts.0, shape.volume)) fields.high (h.account j l).cost)

  volumes : sum_below n (count_at (counted b.columns.volume t)) ≡ sum_below n (count_at b.columns.volume) + t.quantity + t.quantity
  volumes =
      let q = t.quantity in
      let accounts = own_accounts n t p in
      let volume = raise_count b.columns.volume t.buyer q in
      omega (
        arith,
        sum_raised n volume t.seller q accounts.1 (omega (arith, shape.volume, length-set b.columns.volume t.buyer (count_at b.columns.volume t.buyer + q))),
        sum_raised n b.columns.volume t.buyer q accounts.0 (omega (arith, shape.volume)),
      )

  final : HeldFinal (figures_after b.figures (call.Trade t)).day.trades.settling (sum_below n (count_at (counted b.columns.volume t)))
  unfolding figures_after
  final =
      let d = b.figures.day in
      let m = d.trades.settling in
      let fields = own_fields n t p in
      cond_both (is_final (day_length d) d.minutes.ended t) (with_trade m t) m (λ x. HeldFinal x (sum_below n (count_at (counted b.columns.volume t))))
      (λ e. record { contracts = omega (arith, volumes, h.final.contracts); gross = record { low = omega (arith, fields.low, h.final.gross.low); high = omega (arith, fields.high, h.final.gross.high) } })
      (λ e. record { contracts = omega (arith, volumes, h.final.contracts); gross = h.final.gross })

  pub interim_traded : Interim n (effect n b (call.Trade t))
  unfolding effect figures_after
  interim_traded =
      record {
        figures = trade_kept b.figures h.figures t (unmet (own_sentences n t) refl p 0);
        account = λ j l. let a = h.account j l in record { opening = a.opening; cost = costs j l; cash = a.cash };
        final = final;
      }

-- ---- the trades of a set

pub interim_set : (n : ℕ) (b : Book) (ts : List Trade) → Every (Passes n) ts → Shaped n b → Interim n b → Interim n (set_effect n b ts)
unfolding set_effect
interim_set n b [] p s i = i
interim_set n b (t ∷ ts) p s i = interim_set n (effect n b (call.Trade t)) ts p.1 (shape_kept n b (call.Trade t) s) (interim_traded n b t p.0 s i)
