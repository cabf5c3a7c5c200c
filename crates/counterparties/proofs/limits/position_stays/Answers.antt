-- `counterparties::limits::position_stays` meets its contract: the two accounts' positions after the trade, of which the
-- buyer's doesn't fall and the seller's doesn't rise.
use mathlib.Core.List.{◌∷◌, []}
use mathlib.Core.Path.{◌≡◌}
use Prim.Native.Nat.{◌≤◌}
use native.Mathlib.Omega.{arith}
use lib.Dec.{eqb}
use lib.IntN.{pos, neg_ℤ, ◌+ℤ◌, ◌-ℤ◌}
use lib.ListN.{length}
use mir.Syntax.{w32}
use mir.Val.{Fits}
use borrow.Author.Differences.{sum_is_lem, neg_is}
use borrow.Author.Rules.{rules}
use Rattle.integers.proofs.Sizes.{size, apart, not_above, not_below}
use Rattle.integers.proofs.Overflow.{arg, add, sub, val, Within, ◌▹◌, done, runs}
use Rattle.std.proofs.lemmas.Bool.{cond_both}
use Rattle.columns.specs.Columns.{accounts, entry}
use Rattle.columns.specs.Limits.{most_position}
use Rattle.counterparties.proofs.Raised.{buyer_entry, seller_entry}
use Rattle.counterparties.proofs.limits.position_stays.Goals as goal

pub returns : goal.returns
returns c =
    let l = c.args.position.now in
    let t = c.args.t in
    let here = c.requires.0 in
    let p = c.requires.1 in
    let entries : length l ≡ accounts = search rules in
    let q = pos c.moves.result in
    let b = entry l t.buyer in
    let a = entry l t.seller in
    let quantity : Fits w32 t.quantity = search rules in
    let moved : c.moves.result ≤ 4294967295 = rw c.moves.ensures (cond_both (eqb t.buyer t.seller) _ _ (λ n. n ≤ 4294967295) (λ e. omega arith) (λ e. omega arith)) in
    let within : Within (val b ∷ val a ∷ val q ∷ []) (most_position ∷ most_position ∷ 4294967295 ∷ []) = p.buyer ▹ p.seller ▹ moved ▹ done in
    rw (
      c.from-i.ensures,
      c.from-j.ensures,
      c.from-moved.ensures,
      runs within (add (arg 0) (arg 2)) tt,
      runs within (sub (arg 1) (arg 2)) tt,
      not_above (b +ℤ q) most_position (omega (arith, p.buyer, size b, sum_is_lem b q, apart (b +ℤ q))),
      not_below (a -ℤ q) most_position (omega (arith, p.seller, size a, sum_is_lem a (neg_ℤ q), neg_is q, apart (a -ℤ q))),
      c.moves.ensures,
      buyer_entry l t.buyer t.seller t.quantity (rw entries here.buyer) (rw entries here.seller),
      seller_entry l t.buyer t.seller t.quantity (rw entries here.buyer) (rw entries here.seller),
    )
