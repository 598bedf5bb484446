-- The answer to the lines that are left, line by line.
use Rattle.std.proofs.Common.{◌≡◌, ℕ, List, ◌+◌, Some, None, true, false, Result, Err, sym, ap, ◌∙◌}
use Rattle.nz_script.specs.Bytes.{newline, cut, lines_in, tail_in}
use Rattle.nz_script.proofs.Cuts.{lines-cut, lines-none, tail-cut, tail-none}
use Rattle.nz_text.specs.declared.draft.Draft.{Draft}
use Rattle.nz_text.specs.declared.fault.TextFault.{TextFault}
use Rattle.nz_text.specs.declared.fault.TextFault.TheVariants.{Bad}
use Rattle.nz_text.specs.declared.printed.Printed.{Printed}
use Rattle.nz_text.specs.Reading.{draft_after_bytes, draft_if_good, if_read, printed_at_end, printed_from}

-- with the first line cut off
line_off : (rest w r : List ℕ) (n : ℕ) (d : Draft) → cut newline rest ≡ Some (w, r)
    → printed_from (tail_in rest) n d (lines_in rest) ≡ if_read n (λ next. printed_from (tail_in r) (n + 1) next (lines_in r)) (draft_after_bytes d w)
line_off rest w r n d e =
    ap (λ (t : List ℕ). printed_from t n d (lines_in rest)) (tail-cut rest w r e)
    ∙ ap (λ (ls : List (List ℕ)). printed_from (tail_in r) n d ls) (lines-cut rest w r e)

pub good_line : (rest w r : List ℕ) (n : ℕ) (d next : Draft) (answer : Result Printed TextFault)
    → cut newline rest ≡ Some (w, r) → draft_after_bytes d w ≡ draft_if_good true next
    → printed_from (tail_in rest) n d (lines_in rest) ≡ answer → printed_from (tail_in r) (n + 1) next (lines_in r) ≡ answer
good_line rest w r n d next answer e s inv =
    sym (line_off rest w r n d e ∙ ap (if_read n (λ next. printed_from (tail_in r) (n + 1) next (lines_in r))) s) ∙ inv

pub bad_line : (rest w r : List ℕ) (n : ℕ) (d next : Draft) (answer : Result Printed TextFault)
    → cut newline rest ≡ Some (w, r) → draft_after_bytes d w ≡ draft_if_good false next
    → printed_from (tail_in rest) n d (lines_in rest) ≡ answer → Err (Bad n) ≡ answer
bad_line rest w r n d next answer e s inv =
    sym (line_off rest w r n d e ∙ ap (if_read n (λ next. printed_from (tail_in r) (n + 1) next (lines_in r))) s) ∙ inv

pub last_line : (rest : List ℕ) (n : ℕ) (d : Draft) (answer : Result Printed TextFault) → cut newline rest ≡ None
    → printed_from (tail_in rest) n d (lines_in rest) ≡ answer → printed_at_end rest n d ≡ answer
last_line rest n d answer e inv =
    sym (ap (λ (t : List ℕ). printed_from t n d (lines_in rest)) (tail-none rest e)
    ∙ ap (λ (ls : List (List ℕ)). printed_from rest n d ls) (lines-none rest e)) ∙ inv
