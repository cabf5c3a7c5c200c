-- `printout::write` meets its contract: only the first bytes count.
use Rattle.std.proofs.Common.{◌≡◌, ℕ, List, length, take, drop, min, refl, rules, arith, sym, ◌∙◌, ap, subst}
use Rattle.std.proofs.lemmas.List.{take_min}
use Rattle.text.specs.declared.Window.{Window}
use Rattle.text.specs.Text.{Puts, Room, placed, over}
use Rattle.text.proofs.Placing.{puts_in_words, placed_over}
use Rattle.printout.specs.Printout.{most_input, printout_of_counted, printout}
use Rattle.printout.proofs.Records.{printout_short}
use Rattle.printout.proofs.write.Goals as goal

-- a text that is put from its start on
whole : {first last : Window} {text : List ℕ} → Puts first text last → first.at ≡ 0 → Room 0 text → (last.at ≡ length text) × (last.out.now ≡ over (drop first.from text) first.out.now)
whole {first} {last} {text} p e room =
    let q = p.put (subst (λ (at : ℕ). Room at text) (sym e) room) in
    (omega (arith, q.end_is, e), q.out_is ∙ ap (λ (at : ℕ). placed at text first.from first.out.now) e ∙ placed_over text first.from first.out.now)

counted : (input : List ℕ) (n : ℕ) → n ≡ min most_input (length input) → printout_of_counted (take n input) ≡ printout input
counted input n e = ap printout_of_counted (ap (λ (n : ℕ). take n input) e ∙ take_min most_input input)

pub returns-clause-length : goal.returns-clause-length
returns-clause-length c =
    let i = c.args.input.now in
    let p = puts_in_words (counted i c.min-counted.result c.min-counted.ensures) c.put_counted.ensures in
    (whole p refl (printout_short i)).0

pub returns-clause-text : goal.returns-clause-text
returns-clause-text c =
    let i = c.args.input.now in
    let p = puts_in_words (counted i c.min-counted.result c.min-counted.ensures) c.put_counted.ensures in
    search rules ∙ (whole p refl (printout_short i)).1
