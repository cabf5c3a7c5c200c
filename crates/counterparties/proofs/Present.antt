-- The accounts of a trade that is not refused by 12.
--     in_range     both are among the n
-- Assumes nothing.
use mathlib.Core.Path.{◌≡◌}
use mathlib.Core.Bool.{false, not}
use mathlib.Core.List.{[], ◌∷◌}
use Prim.Native.Nat.{ℕ, ◌<◌}
use lib.Dec.{ltb}
use borrow.Author.Tests.{not-false}
use Rattle.integers.proofs.Tests.{tests, each}
use Rattle.calls.specs.declared.Trade.{Trade}
use Rattle.counterparties.specs.Counterparties.{are_accounts}

pub in_range : (n : ℕ) (t : Trade) → not (are_accounts n t) ≡ false → (t.buyer < n) × (t.seller < n)
in_range n t h =
    let a = each (ltb t.buyer n) (ltb t.seller n ∷ []) (not-false (are_accounts n t) h) in
    (omega (tests, a 0), omega (tests, a 1))
