-- The numbers of the refusals.
--     not_zero     no refusal has the number 0, which stands for none
--     is_zero      so that the number 0 is that of an answer without a refusal
--     own_numbers  no two refusals have one number
-- Assumes nothing.
use Rattle.std.proofs.Common.{◌≡◌, refl, sym, ◌∙◌, ap, false, cond, ℕ, nat_eq}
use Rattle.std.specs.Prelude.{Result, Ok, Err, is_ok}
use Rattle.refusals.specs.declared.Refusal.{Refusal}
use Rattle.refusals.specs.declared.Refusal.TheVariants as refusal
use Rattle.refusals.specs.Refusals.{number, number_of, OwnNumbers}

pub not_zero : (r : Refusal) → nat_eq (number r) 0 ≡ false
not_zero refusal.Record = refl
not_zero refusal.Limits = refl
not_zero refusal.Day = refl
not_zero refusal.Halt = refl
not_zero refusal.Field = refl
not_zero refusal.Crossed = refl
not_zero refusal.Volume = refl
not_zero refusal.Position = refl
not_zero refusal.Unpriced = refl
not_zero refusal.Lists = refl
not_zero refusal.Time = refl
not_zero refusal.Account = refl
not_zero refusal.SetLength = refl
not_zero refusal.Month = refl

pub is_zero : {A : Type 0} (r : Result A Refusal) → nat_eq (number_of r) 0 ≡ is_ok r
is_zero (Ok a) = refl
is_zero (Err e) = not_zero e

-- the refusal of a number
by_number : ℕ → Refusal
by_number n =
    cond (nat_eq n 1) refusal.Record
    (cond (nat_eq n 2) refusal.Limits
    (cond (nat_eq n 3) refusal.Day
    (cond (nat_eq n 4) refusal.Halt
    (cond (nat_eq n 5) refusal.Field
    (cond (nat_eq n 6) refusal.Crossed
    (cond (nat_eq n 7) refusal.Volume
    (cond (nat_eq n 8) refusal.Position
    (cond (nat_eq n 9) refusal.Unpriced
    (cond (nat_eq n 10) refusal.Lists
    (cond (nat_eq n 11) refusal.Time
    (cond (nat_eq n 12) refusal.Account
    (cond (nat_eq n 13) refusal.SetLength refusal.Month))))))))))))

its_own : (r : Refusal) → by_number (number r) ≡ r
unfolding by_number
its_own refusal.Record = refl
its_own refusal.Limits = refl
its_own refusal.Day = refl
its_own refusal.Halt = refl
its_own refusal.Field = refl
its_own refusal.Crossed = refl
its_own refusal.Volume = refl
its_own refusal.Position = refl
its_own refusal.Unpriced = refl
its_own refusal.Lists = refl
its_own refusal.Time = refl
its_own refusal.Account = refl
its_own refusal.SetLength = refl
its_own refusal.Month = refl

pub own_numbers : OwnNumbers
own_numbers r s e = sym (its_own r) ∙ ap by_number e ∙ its_own s
