-- `figures::Figures::holds` meets its contract.
use Rattle.figures.specs.Figures.{figures_hold}
use Rattle.figures.proofs.Figures.holds.Goals as goal

pub returns : goal.returns
unfolding figures_hold
returns c = rw (c.is_size.ensures, c.none_or_price.ensures, c.none_or_price-2.ensures, c.holds.ensures)
