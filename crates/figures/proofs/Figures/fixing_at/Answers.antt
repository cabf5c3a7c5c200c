-- `figures::Figures::fixing_at` meets its contract: a clamped rate times any price and a size fits 64 bits.
use mathlib.Core.Path.{◌≡◌, ◌∙◌, ap, ap₂}
use native.Mathlib.Omega.{arith}
use mir.Syntax.{w32, w64}
use mir.Val.{Fits, SFits, to_z, of_z}
use mir.Facts.{to_z-of_z}
use borrow.Author.Rules.{rules}
use Rattle.funding.specs.Terms.{clamp}
use Rattle.settlement.specs.Fixing.{rate_of, clamped_to}
use Rattle.settlement.proofs.Bounds.{amount_fits}
use Rattle.figures.specs.Fixing.{fix_rate}
use Rattle.figures.specs.Figures.{tenth}
use Rattle.figures.proofs.Rates.{rate_size}
use Rattle.figures.proofs.Figures.fixing_at.Goals as goal
use Rattle.figures.proofs.Figures.fixing_at.Goals.{After-tie}

-- the clamped rate
rate_is : (c : After-tie) → to_z w64 (of_z w64 c.clamp-clamped.result) ≡ fix_rate c.args.self
rate_is c =
    let m = c.args.self.day.minutes in
    let s : SFits w64 m.weighted = search rules in
    to_z-of_z {w = w64} (record { sfits = c.clamp-clamped.type_inv }) ∙ c.clamp-clamped.ensures
    ∙ ap₂ clamped_to c.terms.ensures (to_z-of_z {w = w64} (record { sfits = c.rate-rate.type_inv }) ∙ c.rate-rate.ensures ∙ ap (rate_of m.valid) (to_z-of_z s))

pub amount-requires : goal.amount-requires
amount-requires c =
    let f = c.args.self in
    let p : Fits w32 c.args.price = search rules in
    rw (rate_is c) (amount_fits (fix_rate f) _ f.size clamp 4294967295 tenth (rate_size f) (omega (arith, p.fits)) c.requires (omega arith) (omega arith))
