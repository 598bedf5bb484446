-- A text has at least a byte for each line.
use Rattle.std.proofs.Common.{◌≡◌, ℕ, suc, ◌+◌, ◌≤◌, Bool, true, false, cond, List, [], ◌∷◌, length, Option, Some, None}
use Rattle.std.proofs.Common.{refl, sym, ap, subst, arith, length-append}
use Rattle.std.specs.Prelude.{Result, Ok, Err, ◌==◌}
use Rattle.std.proofs.lemmas.Option.{none-some, same_Some}
use Rattle.nz_script.specs.Bytes.{newline, onto_first, lines_in, tail_in}
use Rattle.nz_script.specs.Forms.{◌>>=◌}
use Rattle.nz_text.specs.declared.draft.Draft.{Draft}
use Rattle.nz_text.specs.declared.fault.TextFault.{TextFault}
use Rattle.nz_text.specs.declared.fault.TextFault.TheVariants.{Bad}
use Rattle.nz_text.specs.declared.line.Line.{Line}
use Rattle.nz_text.specs.declared.line.Line.TheVariants as line
use Rattle.nz_text.specs.declared.printed.Printed.{Printed}
use Rattle.nz_text.specs.Reading.{pieces_in, line_in_words, with_line, draft_if_good, draft_after_bytes, empty_draft, if_read, printed_from, printed_in}

abbrev pub size_of : Printed → ℕ
size_of p = length p.events + length p.unanswered + length p.history

good_is : (b : Bool) (x next : Draft) → draft_if_good b x ≡ Some next → x ≡ next
good_is true x next e = same_Some x next e
good_is false x next e = absurd (none-some next e)

one_line : (d next : Draft) (l : Line) → with_line d l ≡ Some next → size_of next.printed ≤ size_of d.printed + 1
one_line d next (line.Event e) h =
    let long = length-append d.printed.events (e ∷ []) in
    subst (λ (x : Draft). size_of x.printed ≤ size_of d.printed + 1) (good_is _ _ next h) (omega (arith, long))
one_line d next (line.Open id) h =
    let long = length-append d.printed.unanswered (id ∷ []) in
    subst (λ (x : Draft). size_of x.printed ≤ size_of d.printed + 1) (good_is _ _ next h) (omega (arith, long))
one_line d next (line.At place x) h =
    let long = length-append d.printed.history (x ∷ []) in
    subst (λ (x : Draft). size_of x.printed ≤ size_of d.printed + 1) (good_is _ _ next h) (omega (arith, long))
one_line d next line.End h = subst (λ (x : Draft). size_of x.printed ≤ size_of d.printed + 1) (good_is _ _ next h) (omega arith)

found_line : (d next : Draft) (o : Option Line) → (o >>= λ l. with_line d l) ≡ Some next → size_of next.printed ≤ size_of d.printed + 1
found_line d next None h = absurd (none-some next h)
found_line d next (Some l) h = one_line d next l h

bytes_line : (d next : Draft) (bytes : List ℕ) → draft_after_bytes d bytes ≡ Some next → size_of next.printed ≤ size_of d.printed + 1
unfolding draft_after_bytes
bytes_line d next bytes h = found_line d next (line_in_words (pieces_in bytes)) h

said : Result Printed TextFault → Printed → Printed
said (Ok p) other = p
said (Err fault) other = other

abbrev read_as : Printed → Result Printed TextFault
read_as p = Ok p

ok_is : (p q : Printed) → read_as p ≡ read_as q → p ≡ q
unfolding said
ok_is p q e = ap (λ (r : Result Printed TextFault). said r p) e

at_end : (b : Bool) (d : Draft) (n : ℕ) (p : Printed) → cond b (Ok d.printed) (Err (Bad n)) ≡ Ok p → size_of p ≤ size_of d.printed
at_end true d n p e = let same : size_of p ≡ size_of d.printed = ap size_of (sym (ok_is d.printed p e)) in omega (arith, same)
at_end false d n p e = absurd cc

first_read : (tail : List ℕ) (n : ℕ) (d : Draft) (bytes : List ℕ) (lines : List (List ℕ)) (p : Printed) (o : Option Draft)
    → ((next : Draft) → printed_from tail (n + 1) next lines ≡ Ok p → size_of p ≤ size_of next.printed + length lines)
    → draft_after_bytes d bytes ≡ o → if_read n (λ next. printed_from tail (n + 1) next lines) o ≡ Ok p → size_of p ≤ size_of d.printed + suc (length lines)
first_read tail n d bytes lines p None further e h = absurd cc
first_read tail n d bytes lines p (Some next) further e h =
    let one = bytes_line d next bytes e in
    let more = further next h in
    omega (arith, one, more)

from_lines : (tail : List ℕ) (n : ℕ) (d : Draft) (lines : List (List ℕ)) (p : Printed) → printed_from tail n d lines ≡ Ok p → size_of p ≤ size_of d.printed + length lines
from_lines tail n d [] p h = let low = at_end _ d n p h in omega (arith, low)
from_lines tail n d (bytes ∷ lines) p h =
    first_read tail n d bytes lines p (draft_after_bytes d bytes) (λ next k. from_lines tail (n + 1) next lines p k) refl h

onto_short : (x : ℕ) (lines : List (List ℕ)) → length (onto_first x lines) ≡ length lines
onto_short x [] = refl
onto_short x (l ∷ lines) = refl

either : (b : Bool) (x : ℕ) (xs : List ℕ) → length (lines_in xs) ≤ length xs
    → length (cond b ([] ∷ lines_in xs) (onto_first x (lines_in xs))) ≤ suc (length xs)
either true x xs h = omega (arith, h)
either false x xs h = let same = onto_short x (lines_in xs) in omega (arith, h, same)

lines_short : (bytes : List ℕ) → length (lines_in bytes) ≤ length bytes
lines_short [] = omega arith
lines_short (x ∷ xs) = either (x == newline) x xs (lines_short xs)

pub few_lines : (bytes : List ℕ) (p : Printed) → printed_in bytes ≡ Ok p → size_of p ≤ length bytes
unfolding printed_in
few_lines bytes p h =
    let all = from_lines (tail_in bytes) 1 empty_draft (lines_in bytes) p h in
    let short = lines_short bytes in
    omega (arith, all, short)
