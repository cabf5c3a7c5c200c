-- The futures price of a minute, at numbers that a reader checks with a pencil. Proved by computing in proofs/FuturesPrices.antt.
use Rattle.std.specs.Prelude.{◌≡◌}
use Rattle.funding.specs.Minute.{futures_price}

-- 01: "F is the last trade if there is one today and b ≤ it ≤ a, else (a + b)/2"; "Last equal to bid or offer is inside"
pub record FuturesPrices : Type 0 where
  pub no_trade : futures_price 20000 20100 0 ≡ 20050
  pub below_bid : futures_price 20000 20100 19999 ≡ 20050
  pub at_bid : futures_price 20000 20100 20000 ≡ 20000
  pub at_offer : futures_price 20000 20100 20100 ≡ 20100
  pub above_offer : futures_price 20000 20100 20101 ≡ 20050
