-- A column of numbers, one for each account, and what is said of every account.
use mathlib.Core.{Bool.Bool, Bool.true, Bool.◌&&◌, List.List, List.[], List.◌∷◌}
use Rattle.std.specs.Prelude.{ℕ, zero, suc, ◌+◌}
use lib.{IntN.ℤ, IntN.pos, IntN.◌+ℤ◌, ListN.get_or, ListN.set, ListN.replicate}
use Rattle.columns.specs.declared.{Account.Account, Columns.Columns}

-- 02-5: "Accounts become two-byte numbers, 0 to 1,023"
abbrev pub accounts : ℕ
accounts = 1024

-- account j's entry of a column of signed numbers, and of one of counts
abbrev pub entry : List ℤ → ℕ → ℤ
entry l j = get_or l j (pos 0)

abbrev pub count_at : List ℕ → ℕ → ℕ
count_at l j = get_or l j 0

-- account j's entry of each column
abbrev pub account_at : Columns → ℕ → Account
account_at c j = record {
  opening = entry c.opening j;
  position = entry c.position j;
  cost = entry c.cost j;
  volume = count_at c.volume j;
  cash = entry c.cash j;
}

-- 01: "zeros", in every column of n accounts
abbrev pub zero_columns : ℕ → Columns
zero_columns n =
    let zeros = replicate n (pos 0) in
    record { opening = zeros; position = zeros; cost = zeros; volume = replicate n 0; cash = zeros }

-- account j's entry, raised
abbrev pub raise : List ℤ → ℕ → ℤ → List ℤ
raise l j z = set l j (entry l j +ℤ z)

abbrev pub raise_count : List ℕ → ℕ → ℕ → List ℕ
raise_count l j n = set l j (count_at l j + n)

-- the column f 0, f 1, .., f (n − 1)
unfoldable pub table {ℓ} : {A : Type ℓ} → ℕ → (ℕ → A) → List A
table zero f = []
table (suc n) f = f 0 ∷ table n (λ j. f (suc j))

-- whether p holds of each account below n
unfoldable pub all_below : ℕ → (ℕ → Bool) → Bool
all_below zero p = true
all_below (suc n) p = all_below n p && p n

-- the sum of f over the accounts below n
unfoldable pub sum_below : ℕ → (ℕ → ℕ) → ℕ
sum_below zero f = zero
sum_below (suc n) f = sum_below n f + f n
