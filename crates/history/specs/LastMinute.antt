-- The midpoints of a day's last minute, from the accepted calls alone: document 02, request 4.
use mathlib.Core.{List.List, List.[], List.◌∷◌}
use Rattle.std.specs.Prelude.{ℕ, ◌-◌, ◌*◌}
use Rattle.integers.specs.Lists.{keep_if, sum_count}
use Rattle.funding.specs.{declared.market.Market.Market, Market.no_market, Market.two_sided, Market.midpoint}
use Rattle.settlement.specs.declared.Midpoints.{Midpoints}
use Rattle.calls.specs.{Calls.on_quote, Calls.on_timed_quote, Calls.on_halt, Calls.on_minute_end, Calls.on_close, Time.minute_length}
use Rattle.history.specs.History.{History, market, minute_ends, at_last_end}

-- 02-4: the "latest time given in that minute, 0 if none; each minute end and close sets that time to 0"; "all after the last minute end is one"
unfoldable pub latest : History → ℕ
latest [] = 0
latest (c ∷ h) = on_timed_quote (λ q. q.time) (on_minute_end (λ u. 0) (on_close 0 (latest h) c) c) c

-- a market, and from when it stands in its minute
pub record MarketFrom : Type 0 where
  pub market : Market
  pub from : ℕ

-- the open minute's markets, the latest first: 02-4, "from minute start or its own time", the market at the start and each quote's; after a halt none stands.
-- "A tag 2 quote or a halt counts at the latest time given in that minute"
unfoldable pub minute_markets : History → List MarketFrom
minute_markets [] = record { market = no_market; from = 0 } ∷ []
minute_markets (c ∷ h) =
    on_quote (λ m. record { market = m; from = latest (c ∷ h) } ∷ minute_markets h)
    (on_halt (record { market = no_market; from = latest h } ∷ minute_markets h)
    (on_minute_end (λ u. record { market = market h; from = 0 } ∷ [])
    (on_close (record { market = no_market; from = 0 } ∷ []) (minute_markets h) c) c) c) c

-- a market, and the milliseconds that it stood
pub record MarketTime : Type 0 where
  pub market : Market
  pub milliseconds : ℕ

-- "each two-sided market": of each the milliseconds until the next one's time, "replaced, removed or 60,000", of the latest until `until`
unfoldable pub stood : ℕ → List MarketFrom → List MarketTime
stood until [] = []
stood until (x ∷ xs) = keep_if (two_sided x.market) (record { market = x.market; milliseconds = until - x.from }) (stood x.from xs)

-- "weighs its midpoint by the milliseconds it stood": the total, and the sum
abbrev pub weighed : List MarketTime → Midpoints
weighed xs = record { total = sum_count (λ x. x.milliseconds) xs; sum = sum_count (λ x. midpoint x.market * x.milliseconds) xs }

-- "Over the last minute": its two-sided markets, none before its end; "nothing after the last minute end adds time"
abbrev pub last_minute : History → List MarketTime
last_minute h = at_last_end [] (λ m. stood minute_length (minute_markets m.before)) (minute_ends h)

abbrev pub midpoints_on : History → Midpoints
midpoints_on h = weighed (last_minute h)
