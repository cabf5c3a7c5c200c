-- `set_bench::record_at` stays within the file: a record that is no refusal 1 lies there whole. Assumes nothing.
use mathlib.Core.Path.{◌≡◌, sym, ◌∙◌, subst}
use mathlib.Core.List.{List}
use Prim.Native.Nat.{ℕ}
use native.Mathlib.Omega.{arith}
use borrow.Author.Rules.{rules}
use Rattle.std.specs.Prelude.{Option, Some, Ok}
use Rattle.calls.specs.declared.Call.{Call}
use Rattle.dayfile.specs.declared.Read.{Read}
use Rattle.dayfile.specs.Record.{read_at, Within, Leads, Onward}
use Rattle.dayfile.proofs.Forward.{forward}
use Rattle.set_bench.proofs.record.record_at.Goals as goal

within : (file : List ℕ) (at : ℕ) {result : Option Read} {r : Read} {call : Option Call} → result ≡ read_at file at → result ≡ Some r → r.call ≡ Ok call → Within file at r.next
within file at {result} {r} read_is is whole = subst (Leads file at r.next) whole (subst (Onward file at) (sym read_is ∙ is) (forward file at))

pub bounds-file-at : goal.bounds-file-at
bounds-file-at c =
    let w = within c.args.file.now c.args.at c.read_record.ensures.record c.in_ok-read.was c.in-Ok-None.is in
    omega (arith, w.0, w.1)

pub slice_bounds-set_of-count : goal.slice_bounds-set_of-count
slice_bounds-set_of-count c = (within c.args.file.now c.args.at c.read_record.ensures.record c.in_ok-read.was c.in-Ok-None.is).0

pub slice_bounds-set_of-start : goal.slice_bounds-set_of-start
slice_bounds-set_of-start c = search (rules, within c.args.file.now c.args.at c.read_record.ensures.record c.in_ok-read.was c.in-Ok-None.is)

pub slice_bounds-set_of-end : goal.slice_bounds-set_of-end
slice_bounds-set_of-end c = search (rules, within c.args.file.now c.args.at c.read_record.ensures.record c.in_ok-read.was c.in-Ok-None.is)
