-- The calendar, the rule and the table at dates that a reader looks up in any calendar. Proved by computing in proofs/Dates.antt.
use mathlib.Core.{Path.◌≡◌, Bool.true, Bool.false}
use Rattle.std.specs.Prelude.{ℕ, length}
use Rattle.expiry.specs.declared.Month.{Month}
use Rattle.expiry.specs.declared.table.TheConstants.{LAST_FRIDAYS}
use Rattle.expiry.specs.Calendar.{is_leap_year, weekday, tuesday, wednesday, saturday, is_last_friday}
use Rattle.expiry.specs.Table.{is_in_table, place_of, last_friday}

abbrev month : ℕ → ℕ → Month
month year number = record { year = year; month = number }

pub record Calendar : Type 0 where
  pub fourth_year : is_leap_year 2028 ≡ true
  pub year_after : is_leap_year 2029 ≡ false
  pub hundred : is_leap_year 2100 ≡ false
  pub fourth_hundred : is_leap_year 2000 ≡ true
  pub first_day : weekday 2025 1 1 ≡ wednesday
  pub leap_day : weekday 2028 2 29 ≡ tuesday
  pub in_2050 : weekday 2050 1 1 ≡ saturday
  pub last_day : weekday 2050 12 31 ≡ saturday

-- 02-7: "a Friday within the month's last seven days"
pub record Rule : Type 0 where
  pub last_day : is_last_friday 2025 1 31 ≡ true
  pub a_week_before : is_last_friday 2025 1 24 ≡ false
  pub seventh_from_the_end : is_last_friday 2026 4 24 ≡ true
  pub not_a_day : is_last_friday 2026 4 31 ≡ false
  pub thursday : is_last_friday 2026 4 30 ≡ false

-- 02-7: "312 entries", "October 2035 gives 26"
pub record Entries : Type 0 where
  pub count : length LAST_FRIDAYS ≡ 312
  pub october_2035 : last_friday (month 2035 10) ≡ 26
  pub its_place : place_of (month 2035 10) ≡ 129
  pub january_2025 : last_friday (month 2025 1) ≡ 31
  pub december_2026 : last_friday (month 2026 12) ≡ 25
  pub february_2028 : last_friday (month 2028 2) ≡ 25
  pub february_2032 : last_friday (month 2032 2) ≡ 27
  pub december_2050 : last_friday (month 2050 12) ≡ 30

-- 02-7: "A month outside the table"
pub record Outside : Type 0 where
  pub year_before : is_in_table (month 2024 12) ≡ false
  pub year_after : is_in_table (month 2051 1) ≡ false
  pub month_0 : is_in_table (month 2025 0) ≡ false
  pub month_13 : is_in_table (month 2050 13) ≡ false
  pub month_13_within : is_in_table (month 2026 13) ≡ false
  pub no_friday : last_friday (month 2026 13) ≡ 0
