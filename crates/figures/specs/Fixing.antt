-- What a fix finds: document 01, "A trade date, call by call".
use Rattle.std.specs.Prelude.{ℕ, ◌*◌, ◌≤◌, ℤ}
use Rattle.prices.specs.Price.{largest_price}
use Rattle.settlement.specs.Fixing.{rate_of, clamped_to, amount_of, settlement_price, dime_price}
use Rattle.figures.specs.{declared.Figures.Figures, declared.Fixing.Fixing, Figures.terms_on, Figures.tie_on, Figures.tenth}

-- what a fix at this settlement price finds: P, the clamped rate, the amount and k
abbrev pub fix_rate : Figures → ℤ
fix_rate f = clamped_to (terms_on f) (rate_of f.day.minutes.valid f.day.minutes.weighted)

abbrev pub fix_amount : Figures → ℕ → ℤ
fix_amount f P = amount_of (tie_on f) (fix_rate f) P f.size

abbrev pub fixing_at : Figures → ℕ → Fixing
fixing_at f P = record { price = P; rate = fix_rate f; amount = fix_amount f P; valid = f.day.minutes.valid }

-- P by a set price, and by the hourly index value of a final date
abbrev pub fix_price : Figures → ℕ → ℕ
fix_price f set = settlement_price set f.day.trades.settling f.day.timing.midpoints f.day.minutes.index f.previous

abbrev pub ordinary_fixing : Figures → ℕ → Fixing
ordinary_fixing f set = fixing_at f (fix_price f set)

abbrev pub final_fixing : Figures → ℕ → Fixing
final_fixing f value = fixing_at f (dime_price value)

-- the figures of a fix fit: required by it, and had by figures within their limits
pub record Fixable (f : Figures) : Type 0 where
  pub gross : f.day.trades.settling.gross ≤ largest_price * f.day.trades.settling.contracts
  pub midpoints : f.day.timing.midpoints.sum ≤ largest_price * f.day.timing.midpoints.total
  pub size : f.size ≤ tenth
