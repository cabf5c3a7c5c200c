-- What the tests of a price say.
--     price_to, price_by     a price lies between the least and the largest
--     none_or_price-price          a price is 0 or a price;  the_price  what is present and is one of the two is a price
--     price_most             a price that may be none
--     ticked_price           what is 0 or ticked is 0 or a price
--     PriceSum, price_sum, is_price_sum-held      what so many prices add up to
-- Assumes nothing.
use mathlib.Core.Path.{◌≡◌, refl, ◌∙◌, ap, ap₂}
use mathlib.Core.Bool.{Bool, true, false, ◌&&◌, ◌||◌, or-true}
use Prim.Native.Nat.{ℕ, ◌*◌, ◌%◌, ◌≤◌}
use lib.Dec.{leb, eqb}
use borrow.Author.Tests.{leb-true, le-leb, not-true}
use Rattle.std.proofs.lemmas.Bool.{and_parts}
use Rattle.integers.proofs.Tests.{tests}
use Rattle.prices.specs.Price.{least_price, largest_price, tick, is_price, is_ticked, is_present, none_or_price, none_or_ticked, is_price_sum}

pub price_to : (p : ℕ) → is_price p ≡ true → (least_price ≤ p) × (p ≤ largest_price)
price_to p h = let k = and_parts (leb least_price p) (leb p largest_price) h in (leb-true least_price p k.0, leb-true p largest_price k.1)

pub price_by : (p : ℕ) → least_price ≤ p → p ≤ largest_price → is_price p ≡ true
price_by p l h = ap₂ ◌&&◌ (le-leb least_price p l) (le-leb p largest_price h)

pub none_or_price-price : (p : ℕ) → is_price p ≡ true → none_or_price p ≡ true
none_or_price-price p h = ap (λ t. eqb p 0 || t) h ∙ or-true (eqb p 0)

pub the_price : (p : ℕ) → is_present p ≡ true → none_or_price p ≡ true → is_price p ≡ true
the_price p g h = rw (not-true (eqb p 0) g) at h

pub price_most : (p : ℕ) → none_or_price p ≡ true → p ≤ largest_price
price_most p h = by (eqb p 0) refl
  where
    by : (t : Bool) → eqb p 0 ≡ t → p ≤ largest_price
    by true e = omega tests
    by false e = (price_to p (rw e at h)).1

pub ticked_price : (p : ℕ) → none_or_ticked p ≡ true → none_or_price p ≡ true
ticked_price p h = by (eqb p 0) h
  where
    by : (t : Bool) → t || is_ticked p ≡ true → t || is_price p ≡ true
    by true h = refl
    by false h = (and_parts (is_price p) (eqb (p % tick) 0) h).0

pub record PriceSum (n sum : ℕ) : Type 0 where
  pub low : least_price * n ≤ sum
  pub high : sum ≤ largest_price * n

pub price_sum : (n sum : ℕ) → is_price_sum n sum ≡ true → PriceSum n sum
price_sum n sum h =
    let k = and_parts (leb (least_price * n) sum) (leb sum (largest_price * n)) h in
    record { low = leb-true (least_price * n) sum k.0; high = leb-true sum (largest_price * n) k.1 }

pub is_price_sum-held : (n sum : ℕ) → PriceSum n sum → is_price_sum n sum ≡ true
is_price_sum-held n sum p = ap₂ ◌&&◌ (le-leb (least_price * n) sum p.low) (le-leb sum (largest_price * n) p.high)
