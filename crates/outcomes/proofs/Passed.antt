-- What is known of a call on figures that no refusal meets.
--     passed_figures     none of the sentences is met
--     passed_day         the two parts of sentence 3
--     passed_time        the time of a timed quote
-- Assumes nothing.
use mathlib.Core.Path.{◌≡◌}
use mathlib.Core.Bool.{false}
use mathlib.Core.List.{[], ◌∷◌}
use Prim.Native.Nat.{ℕ, ◌≤◌}
use lib.Dec.{ltb}
use Rattle.integers.proofs.Tests.{tests, none}
use Rattle.calls.specs.declared.Call.TheVariants as call
use Rattle.calls.specs.declared.Call.{Call}
use Rattle.calls.specs.declared.TimedQuote.{TimedQuote}
use Rattle.calls.specs.Time.{most_time}
use Rattle.calls.specs.Calls.{on_fix}
use Rattle.refusals.specs.Refusals.{Accounts, sides_outside, first_met}
use Rattle.refusals.proofs.Passed.{Passed, passed}
use Rattle.std.proofs.lemmas.Bool.{or_parts}
use Rattle.figures.specs.declared.Figures.{Figures}
use Rattle.figures.specs.Figures.{is_over}
use Rattle.figures.specs.Fixing.{fix_price}
use Rattle.outcomes.specs.Outcome.{day_forbids, forbids, sentences_on}

abbrev pub PassedFigures : Figures → Call → Accounts → Type 0
PassedFigures f c a = Passed (forbids f c) f.halted f.day.timing.latest (on_fix (fix_price f) 0 c) c a

pub passed_figures : (f : Figures) (c : Call) (a : Accounts) → first_met (sentences_on f c a) ≡ 0 → PassedFigures f c a
passed_figures f c a h = passed (forbids f c) f.halted f.day.timing.latest (on_fix (fix_price f) 0 c) c a h

-- the day allows the call, and the book is not over
pub passed_day : (f : Figures) (c : Call) (a : Accounts) → PassedFigures f c a → (day_forbids f.day c ≡ false) × (is_over f ≡ false)
passed_day f c a p = or_parts (day_forbids f.day c) (is_over f) p.day

pub record PassedTime (latest : ℕ) (q : TimedQuote) : Type 0 where
  pub forward : latest ≤ q.time
  pub most : q.time ≤ most_time
  pub sides : sides_outside q.market ≡ false

pub passed_time : (f : Figures) (q : TimedQuote) (a : Accounts) → PassedFigures f (call.TimedQuote q) a → PassedTime f.day.timing.latest q
passed_time f q a p =
    let t = none (ltb most_time q.time) (sides_outside q.market ∷ []) p.field in
    record { forward = omega (tests, p.time); most = omega (tests, t 0); sides = t 1 }
