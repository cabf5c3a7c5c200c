-- `Quotes` plays a record as its call.
use mathlib.Core.Path.{◌∙◌, ap}
use Rattle.calls.specs.declared.Call.TheVariants as call
use Rattle.columns.specs.Columns.{accounts}
use Rattle.ledger.specs.Step.{step}
use Rattle.records.proofs.Running.{one_call}
use Rattle.records.proofs.frequent.QuotesFrequent.play.Goals as goal

pub returns : goal.returns
returns c =
    let b = c.args.book.now.book in
    rw c.is_ok.ensures.value (one_call b _ c.quote.result c.quote.new.self.book (c.quote.ensures ∙ ap (λ x. step accounts b (call.Quote x)) c.quote_at.ensures))
