-- A minute of prices can be weighed: its basis keeps the weighted sum within its limit.
--     accrues          at any price;  accrues_valid   at the futures price of its market
-- Assumes nothing.
use Rattle.std.proofs.Common.{◌≡◌, true, ℕ, ◌<◌, ◌≤◌, ℤ, nat_abs, arith}
use Rattle.prices.specs.Price.{is_price}
use Rattle.prices.proofs.Prices.{price_to, none_or_price-price}
use Rattle.funding.specs.Minute.{basis_of, futures_price, weighted_limit, Accrues}
use Rattle.funding.proofs.Bounds.{basis_size, futures_is_price}

pub accrues : (S : ℤ) (k F u : ℕ) → nat_abs S ≤ weighted_limit k → k < 10 → is_price F ≡ true → is_price u ≡ true → Accrues S k (basis_of F u)
accrues S k F u s n f i =
    let F' = price_to F f in
    let u' = price_to u i in
    record { sum = s; count = omega (arith, n); size = basis_size F u u'.0 u'.1 F'.0 F'.1 }

pub accrues_valid : (S : ℤ) (k b a last u : ℕ) → nat_abs S ≤ weighted_limit k → k < 10 → is_price b ≡ true → is_price a ≡ true → is_price last ≡ true → is_price u ≡ true → Accrues S k (basis_of (futures_price b a last) u)
accrues_valid S k b a last u s n hb ha hl i = accrues S k (futures_price b a last) u s n (futures_is_price b a last hb ha (none_or_price-price last hl)) i
