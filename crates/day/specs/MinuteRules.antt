-- When a minute is valid, which minute is the last, and which market serves a minute, at numbers that a reader checks with a pencil.
-- Proved by computing in proofs/MinuteRules.antt.
use mathlib.Core.{Path.◌≡◌, Bool.true, Bool.false}
use Rattle.std.specs.Prelude.{ℕ}
use Rattle.funding.specs.Terms.{standard_terms}
use Rattle.funding.specs.{declared.market.Market.Market, Market.no_market, Market.as_minute, Market.is_valid}
use Rattle.calls.specs.{declared.Trade.Trade, Trade.kind_of, Length.full_day, Length.short_day, Length.final_day}
use Rattle.day.specs.Day.{is_final}

abbrev market : ℕ → ℕ → Market
market bid offer = record { bid = bid; offer = offer }

abbrev trade_of : ℕ → Trade
trade_of number = record { buyer = 0; seller = 1; kind = kind_of number; quantity = 1; price = 40000 }

-- 01: "the minute is valid when the book isn't halted, the minute's market (b, a) exists, u is not 0, and 400 × (a − b) ≤ a + b"
pub record Validity : Type 0 where
  pub valid : is_valid standard_terms false (market 39900 40100) 40000 ≡ true
  pub halted : is_valid standard_terms true (market 39900 40100) 40000 ≡ false
  pub without_market : is_valid standard_terms false no_market 40000 ≡ false
  pub no_bid : is_valid standard_terms false (market 0 40100) 40000 ≡ false
  pub no_offer : is_valid standard_terms false (market 39900 0) 40000 ≡ false
  pub no_sample : is_valid standard_terms false (market 39900 40100) 0 ≡ false
  pub too_wide : is_valid standard_terms false (market 39900 40110) 40000 ≡ false

-- 01: "A kind 0 trade after minute end 1,319 and before 1,320"; 02-1: "the last minute in document 01 is the day's own everywhere"
pub record LastMinute : Type 0 where
  pub minute_before : is_final full_day 1318 (trade_of 0) ≡ false
  pub last_minute : is_final full_day 1319 (trade_of 0) ≡ true
  pub day_over : is_final full_day 1320 (trade_of 0) ≡ false
  pub spread_trade : is_final full_day 1319 (trade_of 1) ≡ false
  pub block_trade : is_final full_day 1319 (trade_of 2) ≡ false
  pub short_before : is_final short_day 1138 (trade_of 0) ≡ false
  pub short_last : is_final short_day 1139 (trade_of 0) ≡ true
  pub short_over : is_final short_day 1140 (trade_of 0) ≡ false
  pub final_before : is_final final_day 1018 (trade_of 0) ≡ false
  pub final_last : is_final final_day 1019 (trade_of 0) ≡ true
  pub final_over : is_final final_day 1020 (trade_of 0) ≡ false

-- 01: "A market that turned one-sided still serves that minute, not the next"
pub record MinuteMarkets : Type 0 where
  pub both_sides : as_minute (market 39900 40100) no_market ≡ market 39900 40100
  pub turned_one_sided : as_minute (market 0 40100) (market 39900 40100) ≡ market 39900 40100
  pub the_next_minute : as_minute (market 0 40100) no_market ≡ no_market
