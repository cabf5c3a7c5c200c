-- `closing::close` meets its contract. The emptied columns are compared as they stand, and not entry by entry.
use mathlib.Core.Path.{ap, ◌∙◌}
use borrow.Author.Rules.{rules}
use lib.IntN.{pos}
use lib.ListN.{replicate}
use Rattle.columns.specs.Columns.{accounts}
use Rattle.columns.specs.declared.Columns.{Columns}
use Rattle.outcomes.specs.Effects.{fixing_of}
use Rattle.closing.specs.Closing.{carried_columns}
use Rattle.closing.proofs.close.Goals as goal

emptied : Columns → Columns
emptied c = record { opening = c.opening; position = c.position; cost = replicate accounts (pos 0); volume = replicate accounts 0; cash = c.cash }

pub returns : goal.returns
unfolding emptied fixing_of
returns c = record { answer = search rules; columns = ap emptied (c.carry.ensures ∙ ap (carried_columns accounts c.args.figures.now) c.post.ensures) }
