-- Times of quotes and the milliseconds that markets stood, at numbers that a reader checks with a pencil. Proved by computing in proofs/MarketTimes.antt.
use mathlib.Core.{Path.◌≡◌, List.[], List.◌∷◌}
use Rattle.std.specs.Prelude.{ℕ}
use Rattle.funding.specs.{declared.market.Market.Market, Market.no_market}
use Rattle.settlement.specs.declared.Midpoints.{Midpoints}
use Rattle.calls.specs.declared.Call.TheVariants as call
use Rattle.calls.specs.{declared.Call.Call, Time.minute_length}
use Rattle.history.specs.LastMinute.{latest, MarketFrom, minute_markets, stood, weighed}

-- midpoints 20,050 and 20,250
abbrev first : Market
first = record { bid = 20000; offer = 20100 }

abbrev second : Market
second = record { bid = 20200; offer = 20300 }

abbrev bid_alone : Market
bid_alone = record { bid = 20200; offer = 0 }

abbrev quote_at : ℕ → Market → Call
quote_at time m = call.TimedQuote (record { time = time; market = m })

abbrev from : ℕ → Market → MarketFrom
from time m = record { market = m; from = time }

abbrev midpoints : ℕ → ℕ → Midpoints
midpoints total sum = record { total = total; sum = sum }

-- 02-4: "A tag 2 quote or a halt counts at the latest time given in that minute, 0 if none; each minute end and close sets that time to 0"
pub record Times : Type 0 where
  pub none_yet : latest (call.Quote first ∷ []) ≡ 0
  pub given : latest (quote_at 30000 first ∷ []) ≡ 30000
  pub after_quote : latest (call.Quote second ∷ quote_at 30000 first ∷ []) ≡ 30000
  pub after_halt : latest (call.Resume ∷ call.Halt ∷ quote_at 30000 first ∷ []) ≡ 30000
  pub after_fix : latest (call.Fix 20000 ∷ quote_at 30000 first ∷ []) ≡ 30000
  pub after_minute : latest (call.MinuteEnd 20000 ∷ quote_at 30000 first ∷ []) ≡ 0
  pub after_close : latest (call.Close ∷ quote_at 30000 first ∷ []) ≡ 0

-- 02-4: "from minute start or its own time"
pub record Markets : Type 0 where
  pub at_start : minute_markets (call.MinuteEnd 20000 ∷ quote_at 30000 first ∷ []) ≡ from 0 first ∷ []
  pub own_time : minute_markets (quote_at 30000 first ∷ []) ≡ from 30000 first ∷ from 0 no_market ∷ []
  pub latest_time : minute_markets (call.Quote second ∷ quote_at 30000 first ∷ []) ≡ from 30000 second ∷ from 30000 first ∷ from 0 no_market ∷ []
  pub halted : minute_markets (call.Halt ∷ quote_at 30000 first ∷ []) ≡ from 30000 no_market ∷ from 30000 first ∷ from 0 no_market ∷ []

-- 02-4: "each two-sided market weighs its midpoint by the milliseconds it stood, … until replaced, removed or 60,000"
pub record Weights : Type 0 where
  pub whole_minute : weighed (stood minute_length (from 0 first ∷ [])) ≡ midpoints 60000 1203000000
  pub replaced : weighed (stood minute_length (from 45000 second ∷ from 0 first ∷ [])) ≡ midpoints 60000 1206000000
  pub one_sided : weighed (stood minute_length (from 45000 bid_alone ∷ from 0 first ∷ [])) ≡ midpoints 45000 902250000
  pub removed : weighed (stood minute_length (from 45000 no_market ∷ from 0 first ∷ [])) ≡ midpoints 45000 902250000
  pub no_time : weighed (stood minute_length (from 45000 second ∷ from 45000 first ∷ from 0 no_market ∷ [])) ≡ midpoints 15000 303750000
  pub one_millisecond : weighed (stood minute_length (from 59999 second ∷ from 0 no_market ∷ [])) ≡ midpoints 1 20250
