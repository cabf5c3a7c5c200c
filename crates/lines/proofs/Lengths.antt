-- How long the lines are.
--     refused_short, day_short, final_short      those of a refusal, of a fix and of a final date
--     account_short, accounts_short      those of one and of all accounts
--     refused_of_64_bits, day_of_64_bits, account_of_64_bits, accounts_of_64_bits      shorter still where each number has 64 bits
-- Assumes nothing.
use mathlib.Core.List.{List}
use Prim.Native.Nat.{ℕ, zero, suc, ◌*◌, ◌^◌, ◌<◌, ◌≤◌}
use native.Mathlib.Omega.{arith}
use lib.IntN.{ℤ}
use lib.ListN.{length, length-append}
use Rattle.std.proofs.lemmas.Bool.{cond_both}
use Rattle.std.specs.Int.Signed.{mag}
use Rattle.text.proofs.Lengths.{decimal_short, signed_short, decimal_of_64_bits, signed_of_64_bits}
use Rattle.figures.specs.declared.Fixing.{Fixing}
use Rattle.columns.specs.Columns.{entry}
use Rattle.lines.specs.Lines.{refused_line, day_line, final_line, account_line, is_printed, printed_account, account_lines}

abbrev pub longest_account : ℕ
longest_account = 211

pub refused_short : (number place : ℕ) → length (refused_line number place) ≤ 145
refused_short number place = simp length-append (omega (arith, decimal_short number, decimal_short place))

pub day_short : (day : ℕ) (f : Fixing) → length (day_line day f) ≤ 355
day_short day f = simp length-append (omega (arith, decimal_short day, decimal_short f.price, signed_short f.rate, signed_short f.amount, decimal_short f.valid))

pub final_short : (friday : ℕ) → length (final_line friday) ≤ 71
final_short friday = simp length-append (omega (arith, decimal_short friday))

line_short : (account : ℕ) (position cash : ℤ) → length (account_line account position cash) ≤ longest_account
line_short account position cash = simp length-append (omega (arith, decimal_short account, signed_short position, signed_short cash))

pub account_short : (account : ℕ) (position cash : ℤ) → length (printed_account account position cash) ≤ longest_account
account_short account position cash =
    cond_both (is_printed position cash) _ _ (λ (l : List ℕ). length l ≤ longest_account) (λ _. line_short account position cash) (λ _. omega arith)

pub accounts_short : (n : ℕ) (position cash : List ℤ) → length (account_lines n position cash) ≤ n * longest_account
unfolding account_lines
accounts_short zero position cash = omega arith
accounts_short (suc n) position cash = simp length-append (omega (arith, accounts_short n position cash, account_short n (entry position n) (entry cash n)))

-- ---- of numbers of 64 bits

pub refused_of_64_bits : (number place : ℕ) → number < 2 ^ 64 → place < 2 ^ 64 → length (refused_line number place) ≤ 57
refused_of_64_bits number place n p = simp length-append (omega (arith, decimal_of_64_bits number n, decimal_of_64_bits place p))

pub day_of_64_bits : (day : ℕ) (f : Fixing) → day < 2 ^ 64 → f.price < 2 ^ 64 → mag f.rate < 2 ^ 63 → mag f.amount < 2 ^ 63 → f.valid < 2 ^ 64
    → length (day_line day f) ≤ 135
day_of_64_bits day f d p r a v =
    simp length-append (omega (arith, decimal_of_64_bits day d, decimal_of_64_bits f.price p, signed_of_64_bits f.rate r, signed_of_64_bits f.amount a, decimal_of_64_bits f.valid v))

line_of_64_bits : (account : ℕ) (position cash : ℤ) → account < 2 ^ 64 → mag position < 2 ^ 63 → mag cash < 2 ^ 63 → length (account_line account position cash) ≤ 79
line_of_64_bits account position cash a p c =
    simp length-append (omega (arith, decimal_of_64_bits account a, signed_of_64_bits position p, signed_of_64_bits cash c))

pub account_of_64_bits : (account : ℕ) (position cash : ℤ) → account < 2 ^ 64 → mag position < 2 ^ 63 → mag cash < 2 ^ 63
    → length (printed_account account position cash) ≤ 79
account_of_64_bits account position cash a p c =
    cond_both (is_printed position cash) _ _ (λ (l : List ℕ). length l ≤ 79) (λ _. line_of_64_bits account position cash a p c) (λ _. omega arith)

pub accounts_of_64_bits : (n : ℕ) (position cash : List ℤ) → n < 2 ^ 64 → ((j : ℕ) → mag (entry position j) < 2 ^ 63) → ((j : ℕ) → mag (entry cash j) < 2 ^ 63)
    → length (account_lines n position cash) ≤ n * 79
unfolding account_lines
accounts_of_64_bits zero position cash h p c = omega arith
accounts_of_64_bits (suc n) position cash h p c =
    simp length-append (omega (arith, accounts_of_64_bits n position cash (omega (arith, h)) p c, account_of_64_bits n (entry position n) (entry cash n) (omega (arith, h)) (p n) (c n)))
