-- A scenario, or the first bad line, line by line.
use Rattle.std.specs.Prelude.{ℕ, ◌+◌, Bool, true, not, nat_lt, ◌==◌, if◌then◌else◌, List, [], ◌∷◌, length, take, Option, Some, None, Result, Ok, Err}
use Rattle.nz_base.specs.declared.scenario.Scenario.{Scenario}
use Rattle.nz_base.specs.declared.limits.TheConstants.{MAX_TEXT}
use Rattle.nz_script.specs.declared.faults.Kind.{Kind}
use Rattle.nz_script.specs.declared.faults.Kind.TheVariants.{Syntax, Order, Name, Limit}
use Rattle.nz_script.specs.declared.faults.ScriptFault.{ScriptFault}
use Rattle.nz_script.specs.declared.faults.ScriptFault.TheVariants.{Refusal}
use Rattle.nz_script.specs.declared.line.Line.{Line}
use Rattle.nz_script.specs.declared.draft.Draft.{Draft}
use Rattle.nz_script.specs.Bytes.{lines_in, tail_in}
use Rattle.nz_script.specs.Shapes.{place_rank}
use Rattle.nz_script.specs.Lines.{line_of}
use Rattle.nz_script.specs.Drafts.{version_has, keeps_order, names_known, within_limits, with_words, first_draft, scenario_of}

-- An empty line, or one that begins with `#`.
abbrev pub is_passed_over : List ℕ → Bool
is_passed_over [] = true
is_passed_over (byte ∷ bytes) = byte == 35

-- What is wrong with a line that has its shape: it is none of this version, or the first test that fails.
abbrev pub fault_of : Draft → Line → Option Kind
fault_of d line =
    if not (version_has d.version line.verb) then Some Syntax
    else (if not (keeps_order d line) then Some Order
    else (if not (names_known d line) then Some Name
    else (if not (within_limits d line) then Some Limit else None)))

-- The draft with a line, unless the line is at fault.
abbrev pub draft_if_sound : Draft → Line → Option Kind → Result Draft Kind
draft_if_sound d line (Some kind) = Err kind
draft_if_sound d line None = Ok (with_words d line.verb line.words)

-- The same of a line that may have no shape.
abbrev pub taken_if_shaped : Draft → Option Line → Result Draft Kind
taken_if_shaped d None = Err Syntax
taken_if_shaped d (Some line) = draft_if_sound d line (fault_of d line)

-- What has been read with one line more, or what is wrong with that line.
unfoldable pub draft_after_line : Draft → List ℕ → Result Draft Kind
draft_after_line d bytes = if is_passed_over bytes then Ok d else taken_if_shaped d (line_of bytes)

-- What has been read with the line, or what is wrong with it.
abbrev pub draft_or_kind : Option Kind → Draft → Result Draft Kind
draft_or_kind None d = Ok d
draft_or_kind (Some kind) d = Err kind

-- After the last newline: an input that goes on past the most bytes is at its limit in this line, a line without its
-- newline is no line, and a text that ends before its last line lacks this one.
abbrev pub scenario_at_end : Bool → List ℕ → ℕ → Draft → Result Scenario ScriptFault
scenario_at_end long tail n d =
    if long then Err (Refusal n Limit)
    else (if not (length tail == 0) then Err (Refusal n Syntax)
    else (if place_rank d.place == 9 then Ok (scenario_of d) else Err (Refusal n Order)))

-- The answer to the lines after, where nothing is wrong with line n.
abbrev pub if_taken : ℕ → (Draft → Result Scenario ScriptFault) → Result Draft Kind → Result Scenario ScriptFault
if_taken n further (Err kind) = Err (Refusal n kind)
if_taken n further (Ok next) = further next

-- The lines from line n on, and what follows the last newline.
abbrev pub scenario_from : Bool → List ℕ → ℕ → Draft → List (List ℕ) → Result Scenario ScriptFault
scenario_from long tail n d [] = scenario_at_end long tail n d
scenario_from long tail n d (line ∷ lines) = if_taken n (λ next. scenario_from long tail (n + 1) next lines) (draft_after_line d line)

-- The scenario that the bytes are the text of, or the first bad line with its kind.
unfoldable pub scenario : List ℕ → Result Scenario ScriptFault
scenario bytes =
    let text = take MAX_TEXT bytes in
    scenario_from (nat_lt MAX_TEXT (length bytes)) (tail_in text) 1 first_draft (lines_in text)
