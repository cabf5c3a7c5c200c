-- `Book::step` meets its contract: refusal 2, or the call on a book within its limits.
use mathlib.Core.Path.{◌≡◌, sym, ◌∙◌}
use mathlib.Core.Bool.{false}
use Rattle.columns.specs.Columns.{accounts}
use Rattle.ledger.specs.Refusals.{refusal, within_limits}
use Rattle.ledger.specs.Step.{step}
use Rattle.ledger.proofs.Book.step.Goals as goal

pub returns-then-not-is_within_limits : goal.returns-then-not-is_within_limits
unfolding step refusal
returns-then-not-is_within_limits c =
    let beyond : within_limits accounts c.args.self ≡ false = sym c.is_within_limits.ensures ∙ c.if-not-is_within_limits.true in
    rw beyond
