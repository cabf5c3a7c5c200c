-- The size of a signed number, held to a limit.
use Rattle.std.specs.Prelude.{Bool, ℕ}
use lib.{Dec.leb, IntN.ℤ, IntN.nat_abs}

-- 01: "within ±n"
abbrev pub within : ℤ → ℕ → Bool
within z n = leb (nat_abs z) n
