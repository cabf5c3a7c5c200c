-- The tags of records, and the bytes of their bodies: document 01's format, and document 02's records.
use Rattle.std.specs.Prelude.{ℕ, cond, eqb, Option, Some, None}
use Rattle.tags.specs.declared.Tag.{Tag}
use Rattle.tags.specs.declared.Tag.TheVariants as tag

-- 01: "Tag 1 trade: buyer 1 byte, seller 1, kind 1, quantity 4, price 4. Tag 2 quote: bid 4, offer 4. Tag 3 minute end: 4.
-- Tag 4 halt, 5 resume, 7 close: 0 bytes. Tag 6 fix: 4. Other tags are unknown."; 02-1: "tag 8 with a two-byte length of day";
-- 02-4: "tag 9: milliseconds into the minute (two bytes, 0 to 59,999), bid, offer"; 02-5: "Tag 10 is a trade with two-byte buyer and seller;
-- tag 1 still reads as before"; 02-7: "Tag 11, with year (two bytes) and month (one)", "Tag 12, the hourly index value (four bytes)"
abbrev pub byte_of : Tag → ℕ
byte_of tag.Trade = 1
byte_of tag.Quote = 2
byte_of tag.MinuteEnd = 3
byte_of tag.Halt = 4
byte_of tag.Resume = 5
byte_of tag.Fix = 6
byte_of tag.Close = 7
byte_of tag.DayLength = 8
byte_of tag.TimedQuote = 9
byte_of tag.TwoByteTrade = 10
byte_of tag.FinalDate = 11
byte_of tag.FinalFix = 12

-- the tag whose byte this is, if it is a known one's
unfoldable pub tag_of : ℕ → Option Tag
tag_of byte =
    cond (eqb byte (byte_of tag.Trade)) (Some tag.Trade)
    (cond (eqb byte (byte_of tag.Quote)) (Some tag.Quote)
    (cond (eqb byte (byte_of tag.MinuteEnd)) (Some tag.MinuteEnd)
    (cond (eqb byte (byte_of tag.Halt)) (Some tag.Halt)
    (cond (eqb byte (byte_of tag.Resume)) (Some tag.Resume)
    (cond (eqb byte (byte_of tag.Fix)) (Some tag.Fix)
    (cond (eqb byte (byte_of tag.Close)) (Some tag.Close)
    (cond (eqb byte (byte_of tag.DayLength)) (Some tag.DayLength)
    (cond (eqb byte (byte_of tag.TimedQuote)) (Some tag.TimedQuote)
    (cond (eqb byte (byte_of tag.TwoByteTrade)) (Some tag.TwoByteTrade)
    (cond (eqb byte (byte_of tag.FinalDate)) (Some tag.FinalDate)
    (cond (eqb byte (byte_of tag.FinalFix)) (Some tag.FinalFix)
    None)))))))))))

-- the bytes of each tag's body, added up
abbrev pub body_length : Tag → ℕ
body_length tag.Trade = 11
body_length tag.Quote = 8
body_length tag.MinuteEnd = 4
body_length tag.Halt = 0
body_length tag.Resume = 0
body_length tag.Fix = 4
body_length tag.Close = 0
body_length tag.DayLength = 2
body_length tag.TimedQuote = 10
body_length tag.TwoByteTrade = 13
body_length tag.FinalDate = 3
body_length tag.FinalFix = 4
