-- `text::Window::put` meets its contract: what stands before the place, and the bytes over what follows it.
use Rattle.std.proofs.Common.{◌≡◌, min, ◌-◌, ◌++◌, length, take, drop, refl, sym, ◌∙◌, ap, ap₂, arith}
use Rattle.std.proofs.lemmas.List.{take_rest, drop_all, append-nil, length-drop}
use Rattle.text.specs.Text.{Room, over}
use Rattle.text.proofs.Placing.{placed_part}
use Rattle.text.proofs.Window.put.Goals as goal

pub returns : goal.returns
returns c =
    let w = c.args.self.now in
    let bytes = c.args.bytes.now in
    let i = c.min-passed.result in
    let j = c.min-start.result in
    let passed : i ≡ min (w.from - w.at) (length bytes) = omega arith in
    let start : j ≡ min (w.at - w.from) (length w.out.now) = omega arith in
    let nothing_after = drop_all (length w.out.now - j) (drop j w.out.now) (omega (arith, length-drop j w.out.now)) in
    let copied = ap₂ ◌++◌ (c.copy_over.ensures ∙ ap₂ over (take_rest bytes i) (take_rest w.out.now j)) nothing_after ∙ append-nil _ in
    record {
      same_buffer = refl;
      from_is = refl;
      put = λ (room : Room w.at bytes). record {
        end_is = omega arith;
        out_is = ap (λ l. take j w.out.now ++ l) copied ∙ sym (placed_part w.at w.from bytes w.out.now i j passed start);
      };
    }
