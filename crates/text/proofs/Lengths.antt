-- How long a number is in decimal.
--     decimal_short     64 digits at most
--     signed_short      and a minus
--     decimal_of_64_bits, signed_of_64_bits      20 digits at most where the number has 64 bits, a minus among them
-- Assumes nothing.
use mathlib.Core.Bool.{Bool, false}
use mathlib.Core.List.{List, []}
use Prim.Native.Nat.{ℕ, zero, suc, ◌+◌, ◌^◌, ◌<◌, ◌≤◌}
use native.Mathlib.Omega.{arith}
use lib.IntN.{ℤ, pos, negsuc}
use lib.ListN.{length}
use Rattle.std.specs.Int.Signed.{mag}
use Rattle.std.proofs.lemmas.Fmt.{length-decimal-le, length_signed_le}
use Rattle.std.specs.Fmt.{digits, digits_onto}
use Rattle.text.specs.Text.{decimal, signed}

onto_short : (k base : ℕ) (upper : Bool) (n : ℕ) (rest : List ℕ) → length (digits_onto k base upper n rest) ≤ k + length rest
onto_short zero base upper n rest = omega arith
onto_short (suc k) base upper n rest = grind (arith, onto_short k base upper)

pub decimal_short : (n : ℕ) → length (decimal n) ≤ 64
unfolding digits
decimal_short n = onto_short 64 10 false n []

pub signed_short : (x : ℤ) → length (signed x) ≤ 65
signed_short (pos n) = omega (arith, decimal_short n)
signed_short (negsuc n) = omega (arith, decimal_short (suc n))

pub decimal_of_64_bits : (n : ℕ) → n < 2 ^ 64 → length (decimal n) ≤ 20
decimal_of_64_bits n h = length-decimal-le 20 n (omega arith) (omega (arith, h)) h

pub signed_of_64_bits : (x : ℤ) → mag x < 2 ^ 63 → length (signed x) ≤ 20
signed_of_64_bits x h = length_signed_le 19 x (omega (arith, h)) h
