-- `methodology::sample::Sample::normalized_spread` meets its contract: two prices and a scale of seven places stay below 2 ^ 63.
-- Assumes nothing.
use Rattle.std.proofs.Common.{[], ◌∷◌, ℕ, ◌≤◌, pos, ◌∙◌, ℤ, nat_abs, ◌*ℤ◌, w32, w64, Fits, SFits, to_z-of_z, arith, rules}
use Rattle.std.proofs.lemmas.Int.{fits_signed_mul}
use mathlib.Core.Path.{ap₂}
use Rattle.integers.specs.Rounding.{half_even}
use Rattle.integers.proofs.Overflow.{Op, arg, lit, sub, mul, val, Within, ◌▹◌, done, runs}
use Rattle.methodology.proofs.sample.Sample.normalized_spread.Goals as goal

within : (bid offer scale : ℕ) → Fits w32 bid → Fits w32 offer → scale ≤ 10_000_000 → Within (val (pos offer) ∷ val (pos bid) ∷ val (pos scale) ∷ []) (4_294_967_295 ∷ 4_294_967_295 ∷ 10_000_000 ∷ [])
within bid offer scale b a most =
    let bid_most : bid ≤ 4_294_967_295 = omega (arith, b.fits) in
    let offer_most : offer ≤ 4_294_967_295 = omega (arith, a.fits) in
    offer_most ▹ bid_most ▹ most ▹ done

abbrev scaled : Op
scaled = mul (mul (sub (arg 0) (arg 1)) (lit (pos 2))) (arg 2)

-- the spread twice, and the scale
product_fits : (x y : ℤ) → nat_abs x ≤ 8_589_934_590 → nat_abs y ≤ 10_000_000 → SFits w64 (x *ℤ y)
product_fits x y p q = fits_signed_mul w64 x y 8_589_934_590 10_000_000 p q (omega arith)

pub overflow_mul-offer-2 : goal.overflow_mul-offer-2
overflow_mul-offer-2 c = search (rules, product_fits)

pub returns : goal.returns
returns c =
    let market = c.args.self.market in
    let fits = within market.bid market.offer c.args.scale (search rules) (search rules) c.requires.1 in
    to_z-of_z {w = w64} (record { sfits = c.half_even.type_inv })
    ∙ c.half_even.ensures
    ∙ ap₂ half_even (rw (c.from-offer.ensures, c.from-bid.ensures, c.from.ensures) (runs fits scaled tt)) (search rules)
