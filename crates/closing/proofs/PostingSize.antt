-- What a close posts to an account is within its limit: posting_size. Assumes nothing.
use Prim.Native.Nat.{◌*◌, ◌+◌, ◌≤◌}
use native.Mathlib.Omega.{arith}
use lib.IntN.{◌*ℤ◌, ◌-ℤ◌, nat_abs, pos, ℤ}
use Rattle.integers.proofs.Sizes.{abs_add, abs_mul_le, abs_sub}
use Rattle.prices.proofs.Prices.{price_most}
use Rattle.prices.specs.Price.{largest_price}
use Rattle.day.specs.Limits.{most_amount}
use Rattle.figures.specs.declared.Figures.{Figures}
use Rattle.figures.proofs.Held.{HeldFigures, size_most}
use Rattle.columns.specs.Limits.{most_position, most_posting, most_volume}
use Rattle.closing.specs.Closing.{posting}

module _ (f : Figures) (position opening cost : ℤ) (h : HeldFigures f) (hp : nat_abs position ≤ most_position) (ho : nat_abs opening ≤ most_position) (hc : nat_abs cost ≤ most_volume * largest_price) where
  pub posting_size : nat_abs (posting f position opening cost) ≤ most_posting
  posting_size =
      let value = position *ℤ pos f.day.fixed.price in
      let before = opening *ℤ pos f.previous.price in
      let gain = value -ℤ before -ℤ cost in
      let amount = position *ℤ f.day.fixed.amount in
      let hv : nat_abs value ≤ most_position * largest_price = abs_mul_le position (pos f.day.fixed.price) hp (price_most f.day.fixed.price h.day.price) in
      let hb : nat_abs before ≤ most_position * largest_price = abs_mul_le opening (pos f.previous.price) ho (price_most f.previous.price h.price) in
      let hg : nat_abs gain ≤ 2 * (most_position * largest_price) + most_volume * largest_price = omega (arith, abs_sub (value -ℤ before) cost, abs_sub value before) in
      let ha : nat_abs amount ≤ most_position * most_amount = abs_mul_le position f.day.fixed.amount hp h.day.amount in
      omega (arith, abs_add (gain *ℤ pos f.size) (amount *ℤ pos 100), abs_mul_le gain (pos f.size) hg (size_most f.size h.size), abs_mul_le amount (pos 100) {n = 100} ha (omega arith))
