-- The lengths that a day may have.
--     length_most     none is longer than a full day
-- Assumes nothing.
use mathlib.Core.Path.{◌≡◌}
use mathlib.Core.Bool.{true}
use Prim.Native.Nat.{ℕ, ◌≤◌}
use lib.Dec.{eqb}
use Rattle.integers.proofs.Tests.{tests, either}
use Rattle.calls.specs.Length.{full_day, short_day, final_day, is_ordinary_length, is_length}

pub length_most : (minutes : ℕ) → is_length minutes ≡ true → minutes ≤ full_day
length_most minutes h =
    either (is_ordinary_length minutes) (eqb minutes final_day) h (λ o. either (eqb minutes full_day) (eqb minutes short_day) o (λ e. omega tests) (λ e. omega tests)) (λ e. omega tests)
