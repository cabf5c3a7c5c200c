-- The table is that of the last Fridays, from one computation over its 312 entries. Assumes nothing.
--     computed      that computation
--     within        what a test says of n numbers from a on, at one of them
--     each          a month's entry is its last Friday
--     Parts, parts, one_friday      the parts of the rule, as facts; a month has one last Friday
use mathlib.Core.Path.{◌≡◌, refl, subst}
use mathlib.Core.Bool.{Bool, true}
use Prim.Native.Nat.{ℕ, ◌+◌, ◌-◌, ◌<◌, ◌≤◌}
use native.Mathlib.Omega.{arith}
use lib.ListN.{get_or}
use borrow.Author.Tests.{leb-true, eqb-true}
use Rattle.std.specs.List.{range_with_len, list_all}
use Rattle.std.proofs.lemmas.Bool.{and_parts}
use Rattle.std.proofs.lemmas.Bool.Decides.{nat_tests}
use Rattle.std.proofs.lemmas.List.FromFn.{length-range_with_len, get_or-range_with_len}
use Rattle.std.proofs.lemmas.List.Sums.{AllPass-from_list_all}
use Rattle.expiry.specs.declared.Month.{Month}
use Rattle.expiry.specs.Calendar.{month_length, days_before, weekday, friday, is_last_friday}
use Rattle.expiry.specs.Table.{is_in_table, last_friday, is_right, is_right_year, table_is_right, LastFridays}

computed : table_is_right ≡ true
unfolding days_before is_last_friday last_friday
computed = refl

within : (p : ℕ → Bool) (a n k : ℕ) → list_all p (range_with_len a n) ≡ true → a ≤ k → k < a + n → p k ≡ true
within p a n k h low high =
    let at : get_or (range_with_len a n) (k - a) 0 ≡ k = omega (arith, get_or-range_with_len a n (k - a) 0 (omega arith)) in
    subst (λ x. p x ≡ true) at (AllPass-from_list_all p (range_with_len a n) h (k - a) 0 (omega (arith, length-range_with_len a n)))

each : (m : Month) → is_in_table m ≡ true → is_right m.year m.month ≡ true
each m h =
    let year = within is_right_year 2025 26 m.year computed (grind (arith, nat_tests)) (grind (arith, nat_tests)) in
    within (is_right m.year) 1 12 m.month year (grind (arith, nat_tests)) (grind (arith, nat_tests))

record Parts (year month day : ℕ) : Type 0 where
  is_friday : weekday year month day ≡ friday
  first : 1 ≤ day
  last : day ≤ month_length year month
  last_seven : month_length year month ≤ day + 6

parts : (year month day : ℕ) → is_last_friday year month day ≡ true → Parts year month day
unfolding is_last_friday
parts year month day h =
    let both = and_parts _ _ h in
    let front = and_parts _ _ both.0 in
    let of_month = and_parts _ _ front.1 in
    record { is_friday = eqb-true _ _ front.0; first = leb-true _ _ of_month.0; last = leb-true _ _ of_month.1; last_seven = leb-true _ _ both.1 }

one_friday : (year month day other : ℕ) → Parts year month day → Parts year month other → day ≡ other
one_friday year month day other p q = omega arith

pub last_fridays : LastFridays
last_fridays = record {
  each = each;
  no_other = λ m day h d. one_friday m.year m.month day (last_friday m) (parts _ _ _ d) (parts _ _ _ (each m h));
}
