-- `records::play_all` meets its contract: what stands at the place is read as the call that is made.
use mathlib.Core.Path.{◌≡◌, refl, sym, ◌∙◌, ap}
use mathlib.Core.Bool.{Bool, true, cond}
use mathlib.Core.List.{List, [], ◌∷◌}
use Prim.Native.Nat.{ℕ, ◌+◌, ◌≤◌}
use native.Mathlib.Omega.{arith}
use mir.Val.{bool_byte}
use lib.ListN.{length}
use borrow.Author.Rules.{rules}
use Rattle.tags.specs.declared.Tag.{Tag}
use Rattle.tags.specs.Tags.{body_length}
use Rattle.bodies.specs.Body.{call_of}
use Rattle.dayfile.specs.Record.{is_record_at}
use Rattle.dayfile.proofs.Reading.{known_at}
use Rattle.dayfile.proofs.Forward.{further_to}
use Rattle.ledger.specs.declared.Book.{Book}
use Rattle.records.specs.Run.{run_over, Running}
use Rattle.records.proofs.Running.{started, goes_on}
use Rattle.records.proofs.play_all.Goals as goal

-- a record lies within the file
inside : (file : List ℕ) (at : ℕ) (t : Tag) → is_record_at file at t ≡ true → at + 3 + body_length t ≤ length file
inside file at t h = (further_to file at _ (known_at file at t h)).1

-- past it, with its call played
past : {file : List ℕ} {start b b' : Book} {before from count at n bytes : ℕ} (t : Bool) (tag : Tag) → Running file start before from b count at × (is_record_at file at tag ≡ true)
    → record { accepted = cond t 1 0; book = b' } ≡ run_over b (call_of file tag (at + 3) ∷ []) → n ≡ bool_byte t → bytes ≡ body_length tag → Running file start before from b' (count + n) (at + 3 + bytes)
past {file} {at = at} t tag h played number length = rw length (goes_on t h.0 _ (known_at file at tag h.1) played number)

pub loop-accepted-init : goal.loop-accepted-init
loop-accepted-init g c = (started c.requires.0 c.requires.1, rw (← c.tag.ensures) (sym c.is_record_at.ensures ∙ c.if-not-is_record_at.false))

pub overflow_add-body : goal.overflow_add-body
overflow_add-body g c = let k = inside c.args.file.now c.loop-accepted.at _ c.loop-accepted.invariant.1 in search (rules, k)

pub play-requires : goal.play-requires
play-requires g c = inside c.args.file.now c.loop-accepted.at _ c.loop-accepted.invariant.1

pub overflow_add-accepted : goal.overflow_add-accepted
overflow_add-accepted g c =
    let r = past c.play.result _ c.loop-accepted.invariant c.play.ensures c.from-accepted.ensures refl in
    let fewer = r.fewer in
    let within = r.inside in
    search (rules, fewer, within)

pub overflow_add-at : goal.overflow_add-at
overflow_add-at g c =
    let r = past c.play.result _ c.loop-accepted.invariant c.play.ensures c.from-accepted.ensures (c.body_length.ensures ∙ ap body_length c.tag-in-loop-accepted.ensures) in
    let within = r.inside in
    search (rules, within)

pub returns-then-not-is_record_at-2 : goal.returns-then-not-is_record_at-2
returns-then-not-is_record_at-2 g c =
    past c.play.result _ c.loop-accepted.invariant c.play.ensures c.from-accepted.ensures (c.body_length.ensures ∙ ap body_length c.tag-in-loop-accepted.ensures)

pub loop-accepted-smaller : goal.loop-accepted-smaller
loop-accepted-smaller g c =
    let r = past c.play.result _ c.loop-accepted.invariant c.play.ensures c.from-accepted.ensures (c.body_length.ensures ∙ ap body_length c.tag-in-loop-accepted.ensures) in
    omega (arith, r.inside)

pub loop-accepted-preserved : goal.loop-accepted-preserved
loop-accepted-preserved g c = (
  past c.play.result _ c.loop-accepted.invariant c.play.ensures c.from-accepted.ensures (c.body_length.ensures ∙ ap body_length c.tag-in-loop-accepted.ensures),
  rw (← c.tag-in-loop-accepted-2.ensures) (sym c.is_record_at-in-loop-accepted.ensures ∙ c.if-not-is_record_at-2.false),
)
