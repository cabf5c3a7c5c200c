-- Prices, in cents.
use Rattle.std.specs.Prelude.{Bool, not, ◌&&◌, ◌||◌, ℕ, ◌*◌, ◌%◌, leb, eqb}

-- 01: "A price is 5,000 to 50,000,000"
abbrev pub least_price : ℕ
least_price = 5000

abbrev pub largest_price : ℕ
largest_price = 50000000

abbrev pub is_price : ℕ → Bool
is_price p = leb least_price p && leb p largest_price

-- 01: "a ticked price is also a multiple of 10"
abbrev pub tick : ℕ
tick = 10

abbrev pub is_ticked : ℕ → Bool
is_ticked p = is_price p && eqb (p % tick) 0

-- 01: "0 or a price", "0 or ticked"
abbrev pub none_or_price : ℕ → Bool
none_or_price p = eqb p 0 || is_price p

abbrev pub none_or_ticked : ℕ → Bool
none_or_ticked p = eqb p 0 || is_ticked p

-- what so many prices add up to: 01, "between 5,000n and 50,000,000n"
abbrev pub is_price_sum : ℕ → ℕ → Bool
is_price_sum n sum = leb (least_price * n) sum && leb sum (largest_price * n)

-- a price, an index or a side of a market that is there: 0 stands for none
abbrev pub is_present : ℕ → Bool
is_present n = not (eqb n 0)
