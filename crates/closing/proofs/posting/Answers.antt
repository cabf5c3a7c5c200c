-- `closing::posting` meets its contract: with numbers within their limits nothing leaves 64 bits.
use mathlib.Core.Path.{◌≡◌, refl}
use mathlib.Core.List.{◌∷◌, []}
use Prim.Native.Nat.{◌*◌}
use lib.IntN.{ℤ, pos}
use Rattle.integers.proofs.Overflow.{Op, arg, lit, add, sub, mul, val, Within, ◌▹◌, done, safe, runs}
use Rattle.prices.specs.Price.{largest_price}
use Rattle.prices.proofs.Prices.{price_most}
use Rattle.figures.specs.Figures.{tenth}
use Rattle.day.specs.Limits.{most_amount}
use Rattle.figures.proofs.Held.{held_figures, size_most}
use Rattle.columns.specs.declared.Account.{Account}
use Rattle.columns.specs.Limits.{most_position, most_volume}
use Rattle.figures.specs.declared.Figures.{Figures}
use Rattle.closing.specs.Inner.{Postable}
use Rattle.closing.proofs.posting.Goals as goal

-- the prices and the size as signed numbers
within :
    {f : Figures} {a : Account} {price previous size : ℤ} → Postable f a → price ≡ pos f.day.fixed.price → previous ≡ pos f.previous.price → size ≡ pos f.size
    → Within (val a.position ∷ val price ∷ val a.opening ∷ val previous ∷ val a.cost ∷ val size ∷ val f.day.fixed.amount ∷ []) (most_position ∷ largest_price ∷ most_position ∷ largest_price ∷ most_volume * largest_price ∷ tenth ∷ most_amount ∷ [])
within {f = f} p price_is previous_is size_is =
    let h = held_figures f p.figures in
    p.position_size ▹ rw price_is (price_most f.day.fixed.price h.day.price) ▹ p.opening_size ▹ rw previous_is (price_most f.previous.price h.price) ▹ p.cost_size ▹ rw size_is (size_most f.size h.size) ▹ h.day.amount ▹ done

abbrev value : Op
value = mul (arg 0) (arg 1)

abbrev before : Op
before = mul (arg 2) (arg 3)

abbrev gain : Op
gain = sub (sub value before) (arg 4)

abbrev funding : Op
funding = mul (mul (arg 0) (arg 6)) (lit (pos 100))

pub overflow_mul-result : goal.overflow_mul-result
overflow_mul-result c = safe (within c.requires c.from-price.ensures c.from-previous.ensures c.from-size.ensures) value tt

pub overflow_mul-result-2 : goal.overflow_mul-result-2
overflow_mul-result-2 c = safe (within c.requires c.from-price.ensures c.from-previous.ensures c.from-size.ensures) before tt

pub overflow_sub-result : goal.overflow_sub-result
overflow_sub-result c = safe (within c.requires c.from-price.ensures c.from-previous.ensures c.from-size.ensures) (sub value before) tt

pub overflow_sub-result-2 : goal.overflow_sub-result-2
overflow_sub-result-2 c = safe (within c.requires c.from-price.ensures c.from-previous.ensures c.from-size.ensures) gain tt

pub overflow_mul-result-3 : goal.overflow_mul-result-3
overflow_mul-result-3 c = safe (within c.requires c.from-price.ensures c.from-previous.ensures c.from-size.ensures) (mul gain (arg 5)) tt

pub overflow_mul-result-4 : goal.overflow_mul-result-4
overflow_mul-result-4 c = safe (within c.requires c.from-price.ensures c.from-previous.ensures c.from-size.ensures) (mul (arg 0) (arg 6)) tt

pub overflow_mul-result-5 : goal.overflow_mul-result-5
overflow_mul-result-5 c = safe (within c.requires c.from-price.ensures c.from-previous.ensures c.from-size.ensures) funding tt

pub overflow_add-result : goal.overflow_add-result
overflow_add-result c = safe (within c.requires c.from-price.ensures c.from-previous.ensures c.from-size.ensures) (add (mul gain (arg 5)) funding) tt

pub returns : goal.returns
returns c = rw (c.from-price.ensures, c.from-previous.ensures, c.from-size.ensures) (runs (within c.requires refl refl refl) (add (mul gain (arg 5)) funding) tt)
