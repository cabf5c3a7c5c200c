-- `counterparties::effects::exchange` meets its contract: neither entry leaves 64 bits, the seller's being read after the buyer's is written.
use mathlib.Core.List.{List, ◌∷◌, []}
use Prim.Native.Nat.{ℕ, ◌+◌, ◌≤◌}
use native.Mathlib.Omega.{arith}
use lib.IntN.{ℤ, pos, nat_abs}
use Rattle.calls.specs.declared.Trade.{Trade}
use Rattle.integers.proofs.Overflow.{arg, add, sub, val, nat, Within, ◌▹◌, done, runs}
use Rattle.columns.specs.Columns.{entry, raise}
use Rattle.counterparties.specs.Inner.{most_entry, most_moved, Exchangeable}
use Rattle.counterparties.proofs.Raised.{entry_raised}
use Rattle.counterparties.proofs.effects.exchange.Goals as goal

module _ {l : List ℤ} {t : Trade} {amount : ℕ} (p : Exchangeable l t most_entry) (most : amount ≤ most_moved) where
  buying : Within (val (entry l t.buyer) ∷ nat amount ∷ []) (most_entry ∷ most_moved ∷ [])
  buying = p.buyer ▹ most ▹ done

  selling : Within (val (entry (raise l t.buyer (pos amount)) t.seller) ∷ nat amount ∷ []) ((most_entry + most_moved) ∷ most_moved ∷ [])
  selling =
      let raised : nat_abs (entry (raise l t.buyer (pos amount)) t.seller) ≤ most_entry + most_moved = omega (arith, p.seller, most, entry_raised l t.buyer t.seller (pos amount)) in
      raised ▹ most ▹ done

pub returns : goal.returns
returns c =
    let p = c.requires in
    rw (c.from-i.ensures, c.from-j.ensures, runs (buying p.1 p.2) (add (arg 0) (arg 1)) tt, runs (selling p.1 p.2) (sub (arg 0) (arg 1)) tt)
