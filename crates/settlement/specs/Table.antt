-- The fourteen rows that document 01 marks for proof, as one table over the definitions.
use mathlib.Core.{Path.◌≡◌, Bool.Bool, Bool.true, Bool.false, List.List, List.[], List.◌∷◌, List.reverse}
use Rattle.std.specs.Prelude.{ℕ}
use lib.{IntN.ℤ, IntN.pos, IntN.neg_ℤ, ListN.length}
use Rattle.integers.specs.{declared.Tie.TheVariants.Even, Lists.Every}
use Rattle.funding.specs.{Terms.standard_terms, Minute.within_spread, Minute.basis_of, Minute.Minute, Minute.weighted_sum}
use Rattle.settlement.specs.Fixing.{rate_of, clamped_to, amount_of}

pub data Row : Type 0 where
  -- a futures price, an index, and their basis
  basis : ℕ → ℕ → ℤ → Row
  -- valid minutes in the order of the day, and their rate
  rate : List Minute → ℤ → Row
  -- a rate, and the clamped rate
  clamped : ℤ → ℤ → Row
  -- a clamped rate, a settlement price, a size, and the amount
  amount : ℤ → ℕ → ℕ → ℤ → Row
  -- a bid, an offer, and whether the spread is valid
  spread : ℕ → ℕ → Bool → Row

-- the definitions give the row's result
abbrev pub Holds : Row → Type 0
Holds (basis F u result) = basis_of F u ≡ result
Holds (rate minutes result) = rate_of (length minutes) (weighted_sum (reverse minutes)) ≡ result
Holds (clamped r result) = clamped_to standard_terms r ≡ result
Holds (amount r P size result) = amount_of Even r P size ≡ result
Holds (spread b a result) = within_spread standard_terms b a ≡ result

abbrev minute : ℕ → ℕ → Minute
minute F u = record { F = F; u = u }

abbrev pub table : List Row
table =
    let first = minute 8391035 8391603 in
    let second = minute 8396580 8398313 in
    let third = minute 8398605 8399016 in
    let fourth = minute 8399460 8399921 in
    let fifth = minute 8400790 8404832 in
    basis 8391035 8391603 (neg_ℤ (pos 67687))
    ∷ basis 8396580 8398313 (neg_ℤ (pos 206351))
    ∷ basis 8398605 8399016 (neg_ℤ (pos 48934))
    ∷ basis 8399460 8399921 (neg_ℤ (pos 54881))
    ∷ basis 8400790 8404832 (neg_ℤ (pos 480914))
    ∷ rate (first ∷ second ∷ third ∷ fourth ∷ fifth ∷ []) (neg_ℤ (pos 216752))
    ∷ rate (first ∷ second ∷ fourth ∷ fifth ∷ []) (neg_ℤ (pos 256869))
    ∷ clamped (neg_ℤ (pos 2148730)) (neg_ℤ (pos 2000000))
    ∷ amount (pos 250000) 11674700 1 (neg_ℤ (pos 29))
    ∷ amount (neg_ℤ (pos 180000)) 11832400 1 (pos 21)
    ∷ amount (pos 2000000) 12500 10 (neg_ℤ (pos 2))
    ∷ amount (pos 2000000) 17500 10 (neg_ℤ (pos 4))
    ∷ spread 39900 40100 true
    ∷ spread 39900 40110 false
    ∷ []

-- every row of the table holds: proved by computation in proofs/Table.antt
abbrev pub TableHolds : Type 0
TableHolds = Every Holds table
