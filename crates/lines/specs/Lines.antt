-- The lines that `funding-bench` prints: document 01, "Reports, file, program".
use mathlib.Core.{Bool.Bool, Bool.not, Bool.cond, Bool.◌||◌, List.List, List.[], List.◌++◌}
use Rattle.std.specs.Prelude.{ℕ, zero, suc}
use lib.{Dec.eqb, IntN.ℤ, IntN.nat_abs}
use Rattle.text.specs.Text.{bytes, with_number, with_signed}
use Rattle.figures.specs.declared.Fixing.{Fixing}
use Rattle.columns.specs.Columns.{entry}

-- 01: "A refused record prints `refused`, its number, `record`, its place from 1"
abbrev pub refused_line : ℕ → ℕ → List ℕ
refused_line number place = with_number "refused " number ++ with_number " record " place ++ bytes "\n"

-- 01: "A fix prints the day counted from 1, P, clamped rate, amount and k", as "day 1 price 200200 rate 1000000 amount -20 valid 1320"
abbrev pub day_line : ℕ → Fixing → List ℕ
day_line day f =
    with_number "day " day ++ with_number " price " f.price ++ with_signed " rate " f.rate ++ with_signed " amount " f.amount ++ with_number " valid " f.valid
    ++ bytes "\n"

-- 02-7: "prints `final` and the Friday's day"
abbrev pub final_line : ℕ → List ℕ
final_line friday = with_number "final " friday ++ bytes "\n"

-- 01: "A close prints account, position and total cash", as "acct 3 net 12 cash -24000"
abbrev pub account_line : ℕ → ℤ → ℤ → List ℕ
account_line account position cash = with_number "acct " account ++ with_signed " net " position ++ with_signed " cash " cash ++ bytes "\n"

-- 01: "where either is nonzero"
abbrev pub is_printed : ℤ → ℤ → Bool
is_printed position cash = not (eqb (nat_abs position) 0) || not (eqb (nat_abs cash) 0)

abbrev pub printed_account : ℕ → ℤ → ℤ → List ℕ
printed_account account position cash = cond (is_printed position cash) (account_line account position cash) []

-- 01: "rising by account": the lines of the accounts below n
unfoldable pub account_lines : ℕ → List ℤ → List ℤ → List ℕ
account_lines zero position cash = []
account_lines (suc n) position cash = account_lines n position cash ++ printed_account n (entry position n) (entry cash n)
