-- The funding of few contracts fits: an amount is within its limit. Assumes nothing.
use Rattle.std.proofs.Common.{[], ◌∷◌, ◌≤◌, nat_abs, w64, SFits, to_z-of_z, arith, rules}
use Rattle.integers.specs.declared.Tie.TheVariants.{Even}
use Rattle.integers.proofs.Overflow.{arg, mul, val, Within, ◌▹◌, done, safe}
use Rattle.prices.specs.Price.{largest_price}
use Rattle.funding.specs.Terms.{clamp}
use Rattle.settlement.proofs.Bounds.{amount_size}
use Rattle.figures.specs.Figures.{tenth}
use Rattle.day.specs.Limits.{most_amount}
use Rattle.methodology_test.proofs.rows.AmountDisplay.fmt.Goals as goal

pub overflow_mul-all : goal.overflow_mul-all
overflow_mul-all g c =
    let row = c.args.self.now in
    let rate : SFits w64 row.rate = search rules in
    let size = c.hundredth-size.result.size in
    let amount : nat_abs c.amount-amount.result ≤ most_amount =
    rw (c.amount-amount.ensures, to_z-of_z rate) (amount_size row.rate row.price size clamp largest_price tenth row.rate_clamped row.price_bounded (omega (arith, c.hundredth-size.ensures)) Even most_amount (omega arith)) in
    let within : Within (val row.contracts ∷ val c.amount-amount.result ∷ []) (25 ∷ most_amount ∷ []) = row.few_contracts ▹ amount ▹ done in
    safe within (mul (arg 0) (arg 1)) tt
