-- `lines::put_refused` meets its contract: its pieces, one after another.
use Rattle.text.proofs.Placing.{puts_then}
use Rattle.lines.proofs.put_refused.Goals as goal

pub returns : goal.returns
returns c = puts_then (puts_then c.put_number.ensures c.put_number-2.ensures) c.put.ensures
