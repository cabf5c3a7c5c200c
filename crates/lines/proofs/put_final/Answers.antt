-- `lines::put_final` meets its contract: its pieces, one after the other.
use Rattle.text.proofs.Placing.{puts_then}
use Rattle.lines.proofs.put_final.Goals as goal

pub returns : goal.returns
returns c = puts_then c.put_number.ensures c.put.ensures
