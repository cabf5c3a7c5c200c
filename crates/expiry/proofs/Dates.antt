-- The records of specs/Dates.antt, by computing. Assumes nothing.
use mathlib.Core.Path.{refl}
use Rattle.expiry.specs.Calendar.{days_before, is_last_friday}
use Rattle.expiry.specs.Table.{last_friday}
use Rattle.expiry.specs.Dates.{Calendar, Rule, Entries, Outside}

pub calendar : Calendar
unfolding days_before
calendar = record {
  fourth_year = refl;
  year_after = refl;
  hundred = refl;
  fourth_hundred = refl;
  first_day = refl;
  leap_day = refl;
  in_2050 = refl;
  last_day = refl;
}

pub rule : Rule
unfolding days_before is_last_friday
rule = record {
  last_day = refl;
  a_week_before = refl;
  seventh_from_the_end = refl;
  not_a_day = refl;
  thursday = refl;
}

pub entries : Entries
unfolding last_friday
entries = record {
  count = refl;
  october_2035 = refl;
  its_place = refl;
  january_2025 = refl;
  december_2026 = refl;
  february_2028 = refl;
  february_2032 = refl;
  december_2050 = refl;
}

pub outside : Outside
unfolding last_friday
outside = record {
  year_before = refl;
  year_after = refl;
  month_0 = refl;
  month_13 = refl;
  month_13_within = refl;
  no_friday = refl;
}
