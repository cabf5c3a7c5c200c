-- The time of a quote: milliseconds into its minute.
use Rattle.std.specs.Prelude.{ℕ}

-- 02-4: "milliseconds into the minute (two bytes, 0 to 59,999)"
abbrev pub most_time : ℕ
most_time = 59999

-- the milliseconds of a minute: 02-4, "until replaced, removed or 60,000"
abbrev pub minute_length : ℕ
minute_length = 60000
