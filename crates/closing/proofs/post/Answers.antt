-- `closing::post` meets its contract. The loop's invariant: the accounts passed have their cash posted.
use mathlib.Core.Path.{◌≡◌, ◌∙◌, ap, ap₂}
use mathlib.Core.List.{List, ◌∷◌, []}
use Prim.Native.Nat.{ℕ, ◌+◌, ◌*◌, ◌<◌, ◌≤◌}
use lib.IntN.{ℤ, pos, nat_abs, ◌+ℤ◌}
use lib.ListN.{length, set}
use borrow.Author.Rules.{rules}
use Rattle.integers.proofs.Overflow.{arg, add, val, Within, ◌▹◌, done, safe, runs}
use Rattle.columns.proofs.Filling.{filling, fill_start, fill_next, fill_read}
use Rattle.refusals.specs.Refusals.{most_days}
use Rattle.figures.specs.declared.Figures.{Figures}
use Rattle.figures.proofs.Held.{held_figures}
use Rattle.columns.specs.declared.Columns.{Columns}
use Rattle.columns.specs.Columns.{accounts, entry}
use Rattle.closing.specs.Closing.{posting, posted}
use Rattle.closing.specs.Inner.{Closable}
use Rattle.columns.specs.Limits.{most_posting}
use Rattle.closing.proofs.PostingSize.{posting_size}
use Rattle.closing.proofs.post.Goals as goal

-- the columns with the cash of the first i accounts posted
abbrev part : ℕ → Figures → Columns → Columns
part i f c = record { opening = c.opening; position = c.position; cost = c.cost; volume = c.volume; cash = filling i (posted f c.opening c.position c.cost c.cash) c.cash }

-- account i, whose cash is as it was, and what is added to it
module _ (f : Figures) (c d : Columns) (i : ℕ) (h : Closable f c) (inside : i < accounts) (is : d ≡ part i f c) (p : ℤ) (p_is : p ≡ posting f (entry d.position i) (entry d.opening i) (entry d.cost i)) where
  cash_at : entry d.cash i ≡ entry c.cash i
  cash_at = ap (λ (x : Columns). entry x.cash i) is ∙ fill_read i _ c.cash (pos 0)

  posting_is : p ≡ posting f (entry c.position i) (entry c.opening i) (entry c.cost i)
  posting_is = p_is ∙ ap (λ (x : Columns). posting f (entry x.position i) (entry x.opening i) (entry x.cost i)) is

  within : Within (val (entry d.cash i) ∷ val p ∷ []) (most_days * most_posting ∷ most_posting ∷ [])
  within =
      let a = h.postable i inside in
      let before : nat_abs (entry d.cash i) ≤ most_days * most_posting = rw cash_at (h.cash_size i inside) in
      let added : nat_abs p ≤ most_posting =
      rw posting_is (posting_size f (entry c.position i) (entry c.opening i) (entry c.cost i) (held_figures f a.figures) a.position_size a.opening_size a.cost_size) in
      before ▹ added ▹ done

  next : {z : ℤ} → z ≡ entry d.cash i +ℤ p → record { opening = d.opening; position = d.position; cost = d.cost; volume = d.volume; cash = set d.cash i z } ≡ part (i + 1) f c
  next {z} e =
      let inside : i < length c.cash = rw h.cash_length inside in
      ap (λ (x : Columns). record { opening = x.opening; position = x.position; cost = x.cost; volume = x.volume; cash = set x.cash i z }) is
      ∙ ap (λ (l : List ℤ). record { opening = c.opening; position = c.position; cost = c.cost; volume = c.volume; cash = l })
      (ap (set (part i f c).cash i) (e ∙ ap₂ ◌+ℤ◌ cash_at posting_is) ∙ fill_next i (posted f c.opening c.position c.cost c.cash) c.cash (pos 0) inside)

pub loop-i-init : goal.loop-i-init
loop-i-init c =
    let f = c.args.figures.now in
    let d = c.args.columns.now in
    ap (λ (l : List ℤ). record { opening = d.opening; position = d.position; cost = d.cost; volume = d.volume; cash = l }) (fill_start (posted f d.opening d.position d.cost d.cash) d.cash)

pub overflow_add-columns : goal.overflow_add-columns
overflow_add-columns c =
    let a = c.args in
    safe (within a.figures.now a.columns.now c.loop-i.columns c.loop-i.i c.requires (search rules) c.loop-i.invariant c.posting.result (c.posting.ensures ∙ rw c.account.ensures)) (add (arg 0) (arg 1)) tt

pub loop-i-preserved : goal.loop-i-preserved
loop-i-preserved c =
    let a = c.args in
    let d = c.loop-i.columns in
    let i = c.loop-i.i in
    let inside : i < accounts = search rules in
    let p_is : c.posting.result ≡ posting a.figures.now (entry d.position i) (entry d.opening i) (entry d.cost i) = c.posting.ensures ∙ rw c.account.ensures in
    next a.figures.now a.columns.now d i c.requires inside c.loop-i.invariant c.posting.result p_is
    (runs (within a.figures.now a.columns.now d i c.requires inside c.loop-i.invariant c.posting.result p_is) (add (arg 0) (arg 1)) tt)
