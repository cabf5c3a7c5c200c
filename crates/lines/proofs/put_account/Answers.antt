-- `lines::put_account` meets its contract: its pieces, one after another.
use Rattle.std.proofs.Common.{ap, rules}
use mir.Syntax.{w64}
use mir.Val.{SFits}
use mir.Facts.{to_z-of_z}
use Rattle.text.specs.Text.{with_signed}
use Rattle.text.proofs.Placing.{puts_then, puts_in_words}
use Rattle.lines.proofs.put_account.Goals as goal

pub returns : goal.returns
returns c =
    let position_fits : SFits w64 c.args.entries.position = search rules in
    let cash_fits : SFits w64 c.args.entries.cash = search rules in
    let net = puts_in_words (ap (with_signed " net ") (to_z-of_z position_fits)) c.put_number-2.ensures in
    let paid = puts_in_words (ap (with_signed " cash ") (to_z-of_z cash_fits)) c.put_number-3.ensures in
    puts_then (puts_then (puts_then c.put_number.ensures net) paid) c.put.ensures
