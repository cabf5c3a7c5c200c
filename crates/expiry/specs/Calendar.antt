-- The Gregorian calendar, and which day of a month is its last Friday.
use Rattle.std.specs.Prelude.{Bool, cond, not, ◌&&◌, ◌||◌, ℕ, ◌+◌, ◌-◌, ◌%◌, eqb, leb}
use Rattle.std.specs.List.{range_with_len, sum_by}

-- every fourth year, and of the hundreds every fourth
abbrev pub is_leap_year : ℕ → Bool
is_leap_year year = eqb (year % 4) 0 && (not (eqb (year % 100) 0) || eqb (year % 400) 0)

abbrev pub year_length : ℕ → ℕ
year_length year = cond (is_leap_year year) 366 365

-- February, then April, June, September and November, then the others
abbrev pub month_length : ℕ → ℕ → ℕ
month_length year month =
    cond (eqb month 2) (cond (is_leap_year year) 29 28)
    (cond (eqb month 4 || eqb month 6 || eqb month 9 || eqb month 11) 30 31)

-- the days from 1 January 2025 to the first of a month of that year or a later one: the years from 2025 on and the year's months that lie before it
unfoldable pub days_before : ℕ → ℕ → ℕ
days_before year month =
    sum_by year_length (range_with_len 2025 (year - 2025)) + sum_by (month_length year) (range_with_len 1 (month - 1))

-- days of the week, from Sunday, 0
abbrev pub tuesday : ℕ
tuesday = 2

abbrev pub wednesday : ℕ
wednesday = 3

abbrev pub friday : ℕ
friday = 5

abbrev pub saturday : ℕ
saturday = 6

-- 1 January 2025 was a Wednesday
abbrev pub weekday : ℕ → ℕ → ℕ → ℕ
weekday year month day = (wednesday + days_before year month + (day - 1)) % 7

-- 02-7: "a Friday within the month's last seven days"
unfoldable pub is_last_friday : ℕ → ℕ → ℕ → Bool
is_last_friday year month day =
    eqb (weekday year month day) friday
    && (leb 1 day && leb day (month_length year month))
    && leb (month_length year month) (day + 6)
