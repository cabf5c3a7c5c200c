-- The lines of a file's records, one record after another.
--     text_short           how long the lines of one record are
--     records_short        and those of all records of a file
--     printout_short       and the whole printout
--     lines_left           the lines from a place on
--     played_lines         the lines of a record that was played stand before those that follow
--     lines_next, no_lines      the lines from a place on: those of the record there before those that follow, and none where nothing is left
-- Assumes nothing.
use mathlib.Core.Path.{◌≡◌, sym, ◌∙◌, ap}
use mathlib.Core.Bool.{cond}
use mathlib.Core.List.{List, [], ◌∷◌, ◌++◌}
use Prim.Native.Nat.{ℕ, zero, suc, ◌+◌, ◌*◌, ◌≤◌}
use native.Mathlib.Omega.{arith}
use lib.Dec.{eqb}
use lib.ListN.{length, take, drop, get_or, length-append, length-drop}
use Rattle.std.proofs.lemmas.List.{length-take}
use Rattle.text.specs.Text.{Room}
use Rattle.std.proofs.lemmas.Bool.{cond_both}
use Rattle.lines.specs.Lines.{refused_line}
use Rattle.ledger.specs.Step.{opening}
use Rattle.lines.proofs.Lengths.{longest_account, refused_short, day_short, final_short, accounts_short}
use Rattle.columns.specs.Columns.{accounts}
use Rattle.ledger.specs.declared.Book.{Book}
use Rattle.std.specs.Prelude.{Option, Some, None}
use Rattle.dayfile.specs.declared.Read.{Read}
use Rattle.dayfile.specs.Record.{read_at}
use Rattle.dayfile.specs.Calls.{followed, records_within, records_from, records_of}
use Rattle.dayfile.proofs.Calls.{records_at}
use Rattle.playing.specs.declared.Printed.{Printed}
use Rattle.playing.specs.declared.Printed.TheVariants as printed
use Rattle.playing.specs.Printed.{AfterRecord, played_record}
use Rattle.columns.specs.declared.Columns.{Columns}
use Rattle.printout.specs.Printout.{Lines, text_of, before, after_records, lines_of, printout_of, most_input, printout}

abbrev pub longest_text : ℕ
longest_text = accounts * longest_account

pub text_short : (p : Option Printed) (c : Columns) → length (text_of p c) ≤ longest_text
text_short None c = omega arith
text_short (Some (printed.Refused number place)) c = omega (arith, refused_short number place)
text_short (Some (printed.Day day fixing)) c = omega (arith, day_short day fixing)
text_short (Some (printed.Final friday)) c = omega (arith, final_short friday)
text_short (Some printed.Accounts) c = accounts_short accounts c.position c.cash

-- a file has no more records than bytes
few_followed : (r : Option Read) (rest : ℕ → List Read) (most : ℕ) → ((next : ℕ) → length (rest next) ≤ most) → length (followed r rest) ≤ suc most
few_followed None rest most h = omega arith
few_followed (Some r) rest most h = omega (arith, h r.next)

few : (most : ℕ) (file : List ℕ) (at : ℕ) → length (records_within most file at) ≤ most
unfolding records_within
few zero file at = omega arith
few (suc most) file at = few_followed (read_at file at) (records_within most file) most (few most file)

lines_short : (b : Book) (place : ℕ) (rs : List Read) → length (after_records b place rs).text ≤ length rs * longest_text
unfolding after_records
lines_short b place [] = omega arith
lines_short b place (r ∷ rs) =
    let p = played_record b r.call place in
    rw (length-append) (omega (arith, text_short p.printed p.book.columns, lines_short p.book (place + 1) rs))

pub records_short : (b : Book) (file : List ℕ) → length (after_records b 1 (records_of file)).text ≤ length file * longest_text
unfolding records_from
records_short b file = omega (arith, lines_short b 1 (records_of file), few (length file) file 0)

-- the whole printout has its places within 64 bits
printed_short : (size : ℕ) (file : List ℕ) → length file ≤ most_input → Room 0 (printout_of size file)
printed_short size file h =
    let o = opening accounts size in
    let short : length (cond (eqb o.code 0) (lines_of size file).text (refused_line o.code 0)) ≤ most_input * longest_text =
    cond_both (eqb o.code 0) _ _ (λ (l : List ℕ). length l ≤ most_input * longest_text) (λ _. omega (arith, h, records_short o.book file)) (λ _. omega (arith, refused_short o.code 0)) in
    rw (length-append) (omega (arith, short))

pub printout_short : (input : List ℕ) → Room 0 (printout input)
printout_short input = printed_short (get_or (take most_input input) 0 0) (drop 1 (take most_input input)) (omega (arith, length-drop 1 (take most_input input), length-take most_input input))

pub no_lines : (b : Book) (place : ℕ) (file : List ℕ) (at : ℕ) → read_at file at ≡ None → after_records b place (records_from file at) ≡ record { text = []; book = b }
unfolding after_records
no_lines b place file at e = ap (after_records b place) (records_at file at None e)

pub lines_next : (b : Book) (place : ℕ) (file : List ℕ) (at : ℕ) (r : Read) → read_at file at ≡ Some r
    → after_records b place (records_from file at) ≡ before (played_record b r.call place) (after_records (played_record b r.call place).book (place + 1) (records_from file r.next))
unfolding after_records
lines_next b place file at r e = ap (after_records b place) (records_at file at (Some r) e)

abbrev pub lines_left : List ℕ → Book → ℕ → ℕ → List ℕ
lines_left file b start place = (after_records b place (records_from file start)).text

pub played_lines :
    (file : List ℕ) (b : Book) (start place : ℕ) (r : Read) {a : AfterRecord} → read_at file start ≡ Some r → a ≡ played_record b r.call place
    → text_of a.printed a.book.columns ++ lines_left file a.book r.next (place + 1) ≡ lines_left file b start place
played_lines file b start place r {a} read_is played =
    ap (λ (a : AfterRecord). text_of a.printed a.book.columns ++ lines_left file a.book r.next (place + 1)) played
    ∙ sym (ap (λ (l : Lines). l.text) (lines_next b place file start r read_is))
