-- What a price is, at numbers that a reader checks with a pencil. Proved by computing in proofs/PriceLimits.antt.
use mathlib.Core.{Path.◌≡◌, Bool.true, Bool.false}
use Rattle.prices.specs.Price.{is_price, is_ticked}

-- 01: "A price is 5,000 to 50,000,000; a ticked price is also a multiple of 10"
pub record PriceLimits : Type 0 where
  pub below : is_price 4999 ≡ false
  pub least : is_price 5000 ≡ true
  pub largest : is_price 50000000 ≡ true
  pub above : is_price 50000001 ≡ false
  pub ticked : is_ticked 5010 ≡ true
  pub unticked : is_ticked 5005 ≡ false
