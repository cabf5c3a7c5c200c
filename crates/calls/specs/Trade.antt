-- A trade, and the fields of its values.
use Rattle.std.specs.Prelude.{Bool, true, false, cond, not, ◌&&◌, ◌||◌, ℕ, eqb, leb, ltb}
use Rattle.prices.specs.Price.{is_price, is_ticked}
use Rattle.calls.specs.declared.{Kind.Kind, Trade.Trade}
use Rattle.calls.specs.declared.Kind.TheVariants as kind

-- 01: "kind 0 simple, 1 spread against spread, 2 block"; 5: "kind above 2"
abbrev pub kind_of : ℕ → Kind
kind_of number = cond (eqb number 0) kind.Simple (cond (eqb number 1) kind.Spread (cond (eqb number 2) kind.Block (kind.Other number)))

abbrev pub is_simple : Kind → Bool
is_simple kind.Simple = true
is_simple kind.Spread = false
is_simple kind.Block = false
is_simple (kind.Other number) = false

-- 5: "kind above 2; quantity 0, above 100,000, or below 250 for kind 2; a price no price; … a kind 0 price not ticked"
abbrev pub most_quantity : ℕ
most_quantity = 100000

abbrev pub least_block : ℕ
least_block = 250

-- what each kind asks of a trade besides
abbrev pub kind_outside : Kind → Trade → Bool
kind_outside kind.Simple t = not (is_ticked t.price)
kind_outside kind.Spread t = false
kind_outside kind.Block t = ltb t.quantity least_block
kind_outside (kind.Other number) t = true

abbrev pub trade_outside : Trade → Bool
trade_outside t = eqb t.quantity 0 || ltb most_quantity t.quantity || not (is_price t.price) || kind_outside t.kind t

-- ---- a set of trades

-- 02-6: "A list of up to 500 trades"
abbrev pub most_trades : ℕ
most_trades = 500

-- how many trades a set may have: 02-6, "A set with no trades or over 500 gives the new 13"
abbrev pub is_set_length : ℕ → Bool
is_set_length trades = not (eqb trades 0) && leb trades most_trades
