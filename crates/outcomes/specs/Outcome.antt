-- What a call makes of the figures.
use mathlib.Core.{Path.◌≡◌, Bool.Bool, Bool.true, Bool.false, Bool.not, Bool.cond, Bool.◌||◌, List.List}
use Rattle.std.specs.Prelude.{ℕ, eqb, None}
use Rattle.calls.specs.{declared.Call.Call, Calls.on_minute_end, Calls.on_fix, Calls.on_close, Calls.on_day_length, Calls.on_final_date, Calls.on_final_fix}
use Rattle.refusals.specs.Refusals.{Accounts, no_accounts, sentences, first_met}
use Rattle.day.specs.{declared.Day.Day, Day.is_fixed, Day.forbids_fix, Day.forbids_final_fix, Day.forbids_minute_end, Day.forbids_length, Limits.final_holds}
use Rattle.figures.specs.{declared.Figures.Figures, Figures.Outcome, Figures.is_over, Figures.figures_hold, Fixing.fix_price}
use Rattle.outcomes.specs.Effects.{figures_after, fixing_of, friday_of}

-- 3: "a minute end after" the last "or after a fix; a fix before" it "or twice; a close without a fix"; 02-1: "a late or second record"; 02-7:
-- "a fix of the wrong kind, a tag 11 out of place"
abbrev pub day_forbids : Day → Call → Bool
day_forbids d c =
    on_minute_end (λ u. forbids_minute_end d)
    (on_fix (λ set. forbids_fix d)
    (on_close (not (is_fixed d))
    (on_day_length (λ l. forbids_length d) (on_final_date (λ m. forbids_length d) (on_final_fix (λ v. forbids_final_fix d) false c) c) c) c) c) c

-- 3: "The day doesn't allow the call"
abbrev pub forbids : Figures → Call → Bool
forbids f c = day_forbids f.day c || is_over f

-- the sentences of a call on these figures, where its accounts say so much
abbrev pub sentences_on : Figures → Call → Accounts → List (ℕ × Bool)
sentences_on f c a = sentences (forbids f c) f.halted f.day.timing.latest (on_fix (fix_price f) 0 c) c a

-- the number of a call's refusal where its accounts give none
abbrev pub figures_refusal : Figures → Call → ℕ
figures_refusal f c = first_met (sentences_on f c no_accounts)

-- what a call with this number comes to
abbrev pub outcome_by : ℕ → Figures → Call → Outcome
outcome_by number f c = record {
  code = number;
  fixing = cond (eqb number 0) (fixing_of f c) None;
  friday = cond (eqb number 0) (friday_of c) None;
  figures = cond (eqb number 0) (figures_after f c) f;
}

-- and a call whose accounts give no refusal
abbrev pub outcome : Figures → Call → Outcome
outcome f c = outcome_by (figures_refusal f c) f c

-- an accepted call leaves figures within their limits, where the accounts' v add up to so much: proved in proofs/Keeping.antt
abbrev pub FiguresKept : Type 0
FiguresKept =
    (f : Figures) (c : Call) (v : ℕ) → figures_hold f ≡ true → final_holds f.day.trades.settling v ≡ true → figures_refusal f c ≡ 0
    → figures_hold (figures_after f c) ≡ true
