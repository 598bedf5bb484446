-- The answer to the lines that are left, line by line.
use Rattle.std.proofs.Common.{◌≡◌, ◌≢◌, ℕ, Bool, List, ◌+◌, Some, None, Result, Ok, Err, sym, ap, ◌∙◌}
use Rattle.std.specs.Prelude.{IfOk, IfErr}
use Rattle.nz_base.specs.declared.scenario.Scenario.{Scenario}
use Rattle.nz_script.specs.declared.faults.Kind.{Kind}
use Rattle.nz_script.specs.declared.faults.ScriptFault.{ScriptFault}
use Rattle.nz_script.specs.declared.faults.ScriptFault.TheVariants as script_fault
use Rattle.nz_script.specs.declared.draft.Draft.{Draft}
use Rattle.nz_script.specs.Bytes.{newline, cut, lines_in, tail_in}
use Rattle.nz_script.specs.Reading.{draft_after_line, if_taken, scenario_at_end, scenario_from}
use Rattle.nz_script.proofs.Cuts.{lines-cut, lines-none, tail-cut, tail-none}

-- with the first line cut off
line_off : (long : Bool) (rest w r : List ℕ) (n : ℕ) (d : Draft) → cut newline rest ≡ Some (w, r)
    → scenario_from long (tail_in rest) n d (lines_in rest)
    ≡ if_taken n (λ next. scenario_from long (tail_in r) (n + 1) next (lines_in r)) (draft_after_line d w)
line_off long rest w r n d e =
    ap (λ (t : List ℕ). scenario_from long t n d (lines_in rest)) (tail-cut rest w r e)
    ∙ ap (λ (ls : List (List ℕ)). scenario_from long (tail_in r) n d ls) (lines-cut rest w r e)

pub good_line : (long : Bool) (rest w r : List ℕ) (n : ℕ) (d next : Draft) (answer : Result Scenario ScriptFault)
    → cut newline rest ≡ Some (w, r) → draft_after_line d w ≡ Ok next
    → scenario_from long (tail_in rest) n d (lines_in rest) ≡ answer → scenario_from long (tail_in r) (n + 1) next (lines_in r) ≡ answer
good_line long rest w r n d next answer e s inv =
    sym (line_off long rest w r n d e ∙ ap (if_taken n (λ next. scenario_from long (tail_in r) (n + 1) next (lines_in r))) s) ∙ inv

pub bad_line : (long : Bool) (rest w r : List ℕ) (n : ℕ) (d : Draft) (kind : Kind) (answer : Result Scenario ScriptFault)
    → cut newline rest ≡ Some (w, r) → draft_after_line d w ≡ Err kind
    → scenario_from long (tail_in rest) n d (lines_in rest) ≡ answer → Err (script_fault.Refusal n kind) ≡ answer
bad_line long rest w r n d kind answer e s inv =
    sym (line_off long rest w r n d e ∙ ap (if_taken n (λ next. scenario_from long (tail_in r) (n + 1) next (lines_in r))) s) ∙ inv

pub last_line : (long : Bool) (rest : List ℕ) (n : ℕ) (d : Draft) (answer : Result Scenario ScriptFault) → cut newline rest ≡ None
    → scenario_from long (tail_in rest) n d (lines_in rest) ≡ answer → scenario_at_end long rest n d ≡ answer
last_line long rest n d answer e inv =
    sym (ap (λ (t : List ℕ). scenario_from long t n d (lines_in rest)) (tail-none rest e)
    ∙ ap (λ (ls : List (List ℕ)). scenario_from long rest n d ls) (lines-none rest e)) ∙ inv

pub answered_ok : (r answer : Result Scenario ScriptFault) → r ≡ answer → IfOk r (λ s. answer ≡ Ok s)
answered_ok (Ok s) answer e = sym e
answered_ok (Err f) answer e = tt

pub answered_err : (r answer : Result Scenario ScriptFault) → r ≡ answer → IfErr r (λ fault. fault ≢ script_fault.NoMemory → answer ≡ Err fault)
answered_err (Ok s) answer e = tt
answered_err (Err f) answer e = λ _. sym e
