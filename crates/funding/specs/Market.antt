-- A market: its sides, its limits, and when a minute that ends with it is valid.
use Rattle.std.specs.Prelude.{◌&&◌, Bool, cond, not, ◌||◌, ℕ, eqb, ltb, ◌+◌, ◌/◌}
use Rattle.prices.specs.Price.{is_present, none_or_ticked}
use Rattle.funding.specs.{declared.Terms.Terms, Minute.within_spread}
use Rattle.funding.specs.declared.market.Market.{Market}

abbrev pub no_market : Market
no_market = record { bid = 0; offer = 0 }

-- both sides stand
abbrev pub two_sided : Market → Bool
two_sided m = is_present m.bid && is_present m.offer

-- the midpoint of a two-sided market
abbrev pub midpoint : Market → ℕ
midpoint m = (m.bid + m.offer) / 2

-- 01: "bid below offer when both stand"
abbrev pub uncrossed : Market → Bool
uncrossed m = not (two_sided m) || ltb m.bid m.offer

-- 01: "market sides 0 or ticked, bid below offer when both stand"
abbrev pub market_holds : Market → Bool
market_holds m = none_or_ticked m.bid && none_or_ticked m.offer && uncrossed m

-- 01: "the minute's market none or two-sided, likewise"
abbrev pub minute_market_holds : Market → Bool
minute_market_holds m = market_holds m && (two_sided m || (eqb m.bid 0 && eqb m.offer 0))

-- a market that serves as a minute's where both its sides stand
abbrev pub as_minute : Market → Market → Market
as_minute m otherwise = cond (two_sided m) m otherwise

-- 01: "the minute is valid when the book isn't halted, the minute's market (b, a) exists, u is not 0, and" the spread is within its limit
abbrev pub is_valid : Terms → Bool → Market → ℕ → Bool
is_valid t halted m u = not halted && two_sided m && is_present u && within_spread t m.bid m.offer
