-- What `day_effects::timed_quoted` requires: the quote was refused by no sentence.
use mathlib.Core.Path.{sym, ◌∙◌}
use native.Mathlib.Omega.{arith}
use Rattle.calls.specs.declared.Call.TheVariants as call
use Rattle.refusals.specs.Refusals.{no_accounts}
use Rattle.figures.proofs.Held.{held_figures}
use Rattle.day_effects.proofs.Timing.{room}
use Rattle.outcomes.proofs.Passed.{passed_figures, passed_time}
use Rattle.outcomes.proofs.timed_quote.Goals as goal

pub timed_quoted-requires : goal.timed_quoted-requires
timed_quoted-requires c =
    let f = c.args.figures.now in
    let q = c.args.quote in
    let t = passed_time f q no_accounts (passed_figures f (call.TimedQuote q) no_accounts (sym (c.in_ok-timed_quote.ensures ∙ rw c.is_over.ensures))) in
    room f.day (held_figures f c.requires).day q.time t.forward (omega (arith, t.most))
