-- `lines::put_day` meets its contract: its pieces, one after another.
use Rattle.std.proofs.Common.{ap, rules}
use mir.Syntax.{w64}
use mir.Val.{SFits}
use mir.Facts.{to_z-of_z}
use Rattle.text.specs.Text.{with_signed}
use Rattle.text.proofs.Placing.{puts_then, puts_in_words}
use Rattle.lines.proofs.put_day.Goals as goal

pub returns : goal.returns
returns c =
    let rate_fits : SFits w64 c.args.fixing.rate = search rules in
    let amount_fits : SFits w64 c.args.fixing.amount = search rules in
    let rate = puts_in_words (ap (with_signed " rate ") (to_z-of_z rate_fits)) c.put_number-3.ensures in
    let amount = puts_in_words (ap (with_signed " amount ") (to_z-of_z amount_fits)) c.put_number-4.ensures in
    puts_then (puts_then (puts_then (puts_then (puts_then c.put_number.ensures c.put_number-2.ensures) rate) amount) c.put_number-5.ensures) c.put.ensures
