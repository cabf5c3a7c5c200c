-- The calls that the bodies of records bring: document 01's format, and document 02's records.
use Rattle.std.specs.Prelude.{ℕ, ◌+◌, ◌*◌, List, get_or}
use Rattle.calls.specs.declared.Call.TheVariants as call
use Rattle.expiry.specs.declared.Month.{Month}
use Rattle.funding.specs.declared.market.Market.{Market}
use Rattle.calls.specs.declared.{Trade.Trade, TimedQuote.TimedQuote, Call.Call}
use Rattle.calls.specs.Trade.{kind_of}
use Rattle.tags.specs.declared.Tag.{Tag}
use Rattle.tags.specs.declared.Tag.TheVariants as tag

-- a byte of a file; 0 past the file's end
abbrev pub byte_at : List ℕ → ℕ → ℕ
byte_at file at = get_or file at 0

-- numbers of two and of four bytes: 01, "high byte first"
abbrev pub two_bytes : List ℕ → ℕ → ℕ
two_bytes file at = byte_at file at * 256 + byte_at file (at + 1)

abbrev pub four_bytes : List ℕ → ℕ → ℕ
four_bytes file at = two_bytes file at * 65536 + two_bytes file (at + 2)

-- the trade between two accounts whose kind, quantity and price start at a place
abbrev pub trade_between : List ℕ → ℕ → ℕ → ℕ → Trade
trade_between file buyer seller at = record {
  buyer = buyer;
  seller = seller;
  kind = kind_of (byte_at file at);
  quantity = four_bytes file (at + 1);
  price = four_bytes file (at + 5);
}

-- the trades, the quotes, the month and the call whose body starts at a place
abbrev pub trade_at : List ℕ → ℕ → Trade
trade_at file body = trade_between file (byte_at file body) (byte_at file (body + 1)) (body + 2)

abbrev pub two_byte_trade_at : List ℕ → ℕ → Trade
two_byte_trade_at file body = trade_between file (two_bytes file body) (two_bytes file (body + 2)) (body + 4)

abbrev pub quote_at : List ℕ → ℕ → Market
quote_at file body = record { bid = four_bytes file body; offer = four_bytes file (body + 4) }

abbrev pub timed_quote_at : List ℕ → ℕ → TimedQuote
timed_quote_at file body = record { time = two_bytes file body; market = quote_at file (body + 2) }

-- 02-7: "year (two bytes) and month (one)"
abbrev pub month_at : List ℕ → ℕ → Month
month_at file body = record { year = two_bytes file body; month = byte_at file (body + 2) }

abbrev pub call_of : List ℕ → Tag → ℕ → Call
call_of file tag.Trade body = call.Trade (trade_at file body)
call_of file tag.Quote body = call.Quote (quote_at file body)
call_of file tag.MinuteEnd body = call.MinuteEnd (four_bytes file body)
call_of file tag.Halt body = call.Halt
call_of file tag.Resume body = call.Resume
call_of file tag.Fix body = call.Fix (four_bytes file body)
call_of file tag.Close body = call.Close
call_of file tag.DayLength body = call.DayLength (two_bytes file body)
call_of file tag.TimedQuote body = call.TimedQuote (timed_quote_at file body)
call_of file tag.TwoByteTrade body = call.Trade (two_byte_trade_at file body)
call_of file tag.FinalDate body = call.FinalDate (month_at file body)
call_of file tag.FinalFix body = call.FinalFix (four_bytes file body)
