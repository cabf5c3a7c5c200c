use mathlib.Core.Path.{◌≡◌}
use Rattle.columns.proofs.Filling.{filling}
use Rattle.closing.specs.Closing.{posted}
use Rattle.closing.proofs.post.Given as goal

abbrev pub invariant-loop-i : goal.invariant-loop-i
invariant-loop-i l =
    let c = l.initial.columns in
    l.columns
    ≡ record {
      opening = c.opening;
      position = c.position;
      cost = c.cost;
      volume = c.volume;
      cash = filling l.i (posted l.figures c.opening c.position c.cost c.cash) c.cash;
    }
