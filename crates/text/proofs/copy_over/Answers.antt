-- `text::copy_over` meets its contract.
use Rattle.std.proofs.Common.{slice_index_or, slice_set, ap, ◌∙◌}
use native.Mathlib.Numerals.{add-one}
use native.Mathlib.Omega.{arith}
use Rattle.text.proofs.Placing.{over_front, front_next}
use Rattle.text.proofs.copy_over.Goals as goal

pub loop-i-preserved : goal.loop-i-preserved
loop-i-preserved c =
    let i = c.loop-i.i in
    let text = c.args.text.now in
    let out = c.args.out.now in
    rw (add-one i) (ap (λ l. slice_set l i (slice_index_or text i 0)) c.loop-i.invariant ∙ front_next i text out (omega (arith, c.loop-i-test.true, c.min-i-end.ensures)) (omega (arith, c.loop-i-test.true, c.min-i-end.ensures)))

pub returns : goal.returns
returns c = c.loop-i.invariant ∙ over_front c.loop-i.i c.args.text.now c.args.out.now (omega (arith, c.loop-i-test.false, c.loop-i.auto.i-end, c.min-i-end.ensures))
