-- How a run over a file goes on.
--     started, joined, ends     a part that plays nothing, one part after another, and where nothing is left of the file
--     one_call, no_call     what one call leads to, and none
--     goes_on          past a record, with its call played
-- Assumes nothing.
use mathlib.Core.Path.{◌≡◌, refl, sym, ◌∙◌, ap, ap₂}
use mathlib.Core.Bool.{Bool, true, false, cond}
use mathlib.Core.List.{List, [], ◌∷◌, ◌++◌}
use Prim.Native.Nat.{ℕ, ◌+◌, ◌≤◌}
use native.Mathlib.Omega.{arith}
use mir.Val.{bool_byte}
use lib.ListN.{length}
use Rattle.std.specs.Prelude.{Option, Some, None, Result, Ok, Err, is_ok, nat_eq}
use Rattle.calls.specs.declared.Call.{Call}
use Rattle.columns.specs.Columns.{accounts}
use Rattle.ledger.specs.declared.Book.{Book}
use Rattle.ledger.specs.Step.{Answered, answer_of, step}
use Rattle.ledger.specs.Operations.{Operation, singles, is_accepted, run, accepted_calls}
use Rattle.figures.specs.declared.Found.{Found}
use Rattle.refusals.specs.declared.Refusal.{Refusal}
use Rattle.refusals.proofs.Numbers.{is_zero}
use Rattle.dayfile.specs.declared.RecordError.{RecordError}
use Rattle.dayfile.specs.declared.Read.{Read}
use Rattle.dayfile.specs.Record.{read_at}
use Rattle.dayfile.specs.Calls.{called, calls_from, calls_of}
use Rattle.dayfile.proofs.Calls.{calls_at, calls_at_end}
use Rattle.dayfile.proofs.Forward.{further_to}
use Rattle.records.specs.Run.{RunEnd, after_calls, accepted_of, run_over, Running}

-- a record's call and those after it: what it leads to, and then what these lead to
book_then : (b : Book) (call : Result (Option Call) RecordError) (rest : List Call) → after_calls b (called call rest) ≡ after_calls (after_calls b (called call [])) rest
unfolding run
book_then b (Ok None) rest = refl
book_then b (Ok (Some c)) rest = refl
book_then b (Err e) rest = refl

count_then : (b : Book) (call : Result (Option Call) RecordError) (rest : List Call) → accepted_of b (called call rest) ≡ accepted_of b (called call []) + accepted_of (after_calls b (called call [])) rest
unfolding run accepted_calls
count_then b (Ok None) rest = omega arith
count_then b (Ok (Some c)) rest = one_more (is_accepted accounts b (Operation.Single c)) (accepted_calls accounts (step accounts b c).book (singles rest))
  where
    one_more : (t : Bool) (cs : List Call) → length (cond t (c ∷ []) [] ++ cs) ≡ length (cond t (c ∷ []) [] ++ []) + length cs
    one_more true cs = omega arith
    one_more false cs = omega arith
count_then b (Err e) rest = omega arith

-- one call, by whether it was accepted
pub one_call : (b : Book) (c : Call) (r : Result Found Refusal) (b' : Book) → answer_of r b' ≡ step accounts b c → record { accepted = cond (is_ok r) 1 0; book = b' } ≡ run_over b (c ∷ [])
unfolding run accepted_calls step
one_call b c r b' e =
    let t : is_ok r ≡ is_accepted accounts b (Operation.Single c) = sym (is_zero r) ∙ ap (λ (a : Answered). nat_eq a.code 0) e in
    ap₂ (λ (k : ℕ) (x : Book). record { accepted = k; book = x }) (ap (λ (t : Bool). cond t 1 0) t ∙ kept (is_accepted accounts b (Operation.Single c))) (ap (λ (a : Answered). a.book) e)
  where
    kept : (t : Bool) → cond t 1 0 ≡ length (cond t (c ∷ []) [] ++ [])
    kept true = refl
    kept false = refl

pub no_call : (b : Book) → record { accepted = 0; book = b } ≡ run_over b []
unfolding run accepted_calls
no_call b = refl

-- a record is accepted once at most
once : (t : Bool) → cond t 1 0 ≤ 1
once true = omega arith
once false = omega arith

number : (t : Bool) → bool_byte t ≡ cond t 1 0
number true = refl
number false = refl

pub started : {file : List ℕ} {b : Book} {count at : ℕ} → count ≤ at → at ≤ length file → Running file b count at b count at
started fewer inside = record { fewer = fewer; inside = inside; onward = omega arith; book_is = refl; count_is = refl }

pub joined : {file : List ℕ} {start b c : Book} {before from count at count' at' : ℕ} → Running file start before from b count at → Running file b count at c count' at' → Running file start before from c count' at'
joined r s = record { fewer = s.fewer; inside = s.inside; onward = omega (arith, r.onward, s.onward); book_is = r.book_is ∙ s.book_is; count_is = r.count_is ∙ s.count_is }

pub ends : {file : List ℕ} {start b : Book} {count at : ℕ} → Running file start 0 0 b count at → read_at file at ≡ None → record { accepted = count; book = b } ≡ run_over start (calls_of file)
unfolding run accepted_calls
ends {file} {start} {b} {count} {at} r e =
    let left : calls_from file at ≡ [] = calls_at_end file at e in
    let n : count ≡ accepted_of start (calls_of file) = omega (arith, r.count_is, ap (accepted_of b) left) in
    ap₂ (λ (k : ℕ) (c : Book). record { accepted = k; book = c }) n (sym (r.book_is ∙ ap (after_calls b) left))

goes_on_by : {file : List ℕ} {start b b' : Book} {before from count at more : ℕ} → Running file start before from b count at → (r : Read) → read_at file at ≡ Some r
    → record { accepted = more; book = b' } ≡ run_over b (called r.call []) → more ≤ 1 → Running file start before from b' (count + more) r.next
goes_on_by {file} {start} {b} {b'} {before} {from} {count} {at} {more} h r e played one =
    let on = further_to file at r e in
    let calls = calls_at file at r e in
    let rest = calls_from file r.next in
    let book : after_calls b (called r.call []) ≡ b' = sym (ap (λ (x : RunEnd). x.book) played) in
    let number : accepted_of b (called r.call []) ≡ more = sym (ap (λ (x : RunEnd). x.accepted) played) in
    record {
      fewer = omega (arith, h.fewer, on.0);
      inside = on.1;
      onward = omega (arith, h.onward, on.0);
      book_is = h.book_is ∙ ap (after_calls b) calls ∙ book_then b r.call rest ∙ ap (λ (x : Book). after_calls x rest) book;
      count_is = omega (arith, h.count_is, ap (accepted_of b) calls, count_then b r.call rest, number, ap (λ (x : Book). accepted_of x rest) book);
    }

pub goes_on : {file : List ℕ} {start b b' : Book} {before from count at n : ℕ} (t : Bool) → Running file start before from b count at → (r : Read) → read_at file at ≡ Some r
    → record { accepted = cond t 1 0; book = b' } ≡ run_over b (called r.call []) → n ≡ bool_byte t → Running file start before from b' (count + n) r.next
goes_on t h r e played n = rw (n, number t) (goes_on_by h r e played (once t))
