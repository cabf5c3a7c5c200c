-- The length of a day, in minutes.
use Rattle.std.specs.Prelude.{Bool, ◌||◌, ℕ, eqb}
use Rattle.funding.specs.Minute.{most_minutes}

-- 02-1: "sets 1,320 or 1,140. Without it the day has 1,320"
abbrev pub full_day : ℕ
full_day = most_minutes

abbrev pub short_day : ℕ
short_day = 1140

-- 02-7: "makes the date final with length 1,020, a third length, which a book holds exactly on a final date"
abbrev pub final_day : ℕ
final_day = 1020

-- what a length of day may set: 02-1, "sets 1,320 or 1,140"
abbrev pub is_ordinary_length : ℕ → Bool
is_ordinary_length minutes = eqb minutes full_day || eqb minutes short_day

-- what a book may hold: 02-1, "A book's length is one of the two", or that of a final date
abbrev pub is_length : ℕ → Bool
is_length minutes = is_ordinary_length minutes || eqb minutes final_day
