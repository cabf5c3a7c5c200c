-- What a trade does to the account columns, and 12, 7 and 8: document 01, "A trade date, call by call".
use mathlib.Core.{Bool.Bool, Bool.not, Bool.◌&&◌, List.List}
use Rattle.std.specs.Prelude.{ℕ}
use lib.{Dec.ltb, IntN.ℤ, IntN.pos, IntN.neg_ℤ}
use Rattle.calls.specs.declared.Trade.{Trade}
use Rattle.refusals.specs.Refusals.{Accounts}
use Rattle.columns.specs.{Columns.count_at, Columns.entry, Columns.raise, Columns.raise_count, Limits.volume_holds, Limits.position_holds}

-- 01: "The buyer's position rises by the quantity and its cost by quantity × price; the seller's fall by the same": the seller's entry is read after the buyer's is written
abbrev pub exchanged : List ℤ → Trade → ℕ → List ℤ
exchanged l t amount = raise (raise l t.buyer (pos amount)) t.seller (neg_ℤ (pos amount))

-- 01: "each account's v rises by the quantity. … Buyer and seller may be one account: v rises twice"
abbrev pub counted : List ℕ → Trade → List ℕ
counted l t = raise_count (raise_count l t.buyer t.quantity) t.seller t.quantity

-- whether both accounts of a trade are among n: 02-5, "An account above 1,023 meets the new refusal 12"
abbrev pub are_accounts : ℕ → Trade → Bool
are_accounts n t = ltb t.buyer n && ltb t.seller n

-- 7: "An account's v would pass 2,000,000". It does not where the v of both accounts stays within its limit.
abbrev pub volume_stays : List ℕ → Trade → Bool
volume_stays volume t = let after = counted volume t in volume_holds (count_at after t.buyer) && volume_holds (count_at after t.seller)

-- 8: "A position would pass ±1,200,000"
abbrev pub position_stays : List ℤ → Trade → Bool
position_stays position t =
    let after = exchanged position t t.quantity in
    position_holds (entry after t.buyer) && position_holds (entry after t.seller)

-- what n accounts with these positions and v say of a trade
abbrev pub accounts_of : ℕ → List ℤ → List ℕ → Trade → Accounts
accounts_of n position volume t = record {
  missing = not (are_accounts n t);
  volume = not (volume_stays volume t);
  position = not (position_stays position t);
}
