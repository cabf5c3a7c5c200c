-- The table of last Fridays.
use mathlib.Core.{Path.◌≡◌, Bool.true}
use Rattle.std.specs.Prelude.{Bool, cond, ◌&&◌, ℕ, ◌+◌, ◌-◌, ◌*◌, leb, get_or}
use Rattle.std.specs.List.{range_with_len, list_all}
use Rattle.expiry.specs.declared.Month.{Month}
use Rattle.expiry.specs.declared.table.TheConstants.{LAST_FRIDAYS}
use Rattle.expiry.specs.Calendar.{is_last_friday}

-- 02-7: "for January 2025 to December 2050"
abbrev pub first_year : ℕ
first_year = 2025

abbrev pub last_year : ℕ
last_year = 2050

abbrev pub months : ℕ
months = 12

-- year and month are each one of the table's: month 13 is not the next January
abbrev pub is_in_table : Month → Bool
is_in_table m = (leb first_year m.year && leb m.year last_year) && (leb 1 m.month && leb m.month months)

-- where a month of the table stands in it, from 0
abbrev pub place_of : Month → ℕ
place_of m = months * (m.year - first_year) + (m.month - 1)

-- 02-7: "a constant table of that Friday's day of the month", that of the Friday itself where it is a holiday, since the ledger has no
-- calendar of these; 0 outside the table
unfoldable pub last_friday : Month → ℕ
last_friday m = cond (is_in_table m) (get_or LAST_FRIDAYS (place_of m) 0) 0

-- whether a month's entry is its last Friday
abbrev pub is_right : ℕ → ℕ → Bool
is_right year month = is_last_friday year month (last_friday (record { year = year; month = month }))

-- 02-7: "shown over the full table by a computed test": each month of each of the 26 years
abbrev pub is_right_year : ℕ → Bool
is_right_year year = list_all (is_right year) (range_with_len 1 months)

abbrev pub table_is_right : Bool
table_is_right = list_all is_right_year (range_with_len first_year 26)

-- each month's entry is its last Friday, and no other day of it is: proved in proofs/LastFridays.antt from that one computation
pub record LastFridays : Type 0 where
  pub each : (m : Month) → is_in_table m ≡ true → is_last_friday m.year m.month (last_friday m) ≡ true
  pub no_other : (m : Month) (day : ℕ) → is_in_table m ≡ true → is_last_friday m.year m.month day ≡ true → day ≡ last_friday m
