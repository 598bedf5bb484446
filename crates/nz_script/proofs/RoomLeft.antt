-- What lines leave of a room, one part after the other.
use Rattle.std.proofs.Common.{◌≡◌, ℕ, suc, ◌+◌, ◌/◌, ◌<◌, ◌≤◌, ◌^◌, List, [], ◌∷◌, ◌++◌, Option, Some, None}
use Rattle.std.proofs.Common.{sym, ap, ◌∙◌, arith, length, drop, get_or, length-append, add-one, drop-cons}
use Rattle.std.specs.Fmt.{decimal}
use Rattle.std.proofs.lemmas.Fmt.{decimal_step}
use Rattle.nz_base.specs.declared.actor.Actor.TheVariants.{Client}
use Rattle.nz_base.specs.declared.scenario.Request.{Request}
use Rattle.nz_script.specs.declared.line_forms.Verb.TheVariants as verb
use Rattle.nz_script.specs.declared.word.Word.TheVariants as word
use Rattle.nz_script.specs.declared.line.Line.{Line}
use Rattle.nz_script.specs.Lines.{a_line}
use Rattle.nz_script.specs.Texts.{text_of_lines, script_lines, scripts_lines}
use Rattle.nz_script.specs.Sizes.{room_after}
use Rattle.nz_script.proofs.Written.{text-append}

pub length-decimal_step : (n : ℕ) → 10 ≤ n → n < 2 ^ 64 → length (decimal n) ≡ length (decimal (n / 10)) + 1
length-decimal_step n low high = ap length (decimal_step n low high) ∙ length-append (decimal (n / 10)) _

room-none : (room a b : ℕ) → room_after room a ≡ None → room_after room (a + b) ≡ None
room-none room a b e = grind (arith, e)

room-some : (room a b r : ℕ) → room_after room a ≡ Some r → room_after r b ≡ room_after room (a + b)
room-some room a b r e = grind (arith, e)

abbrev pub left : ℕ → List Line → Option ℕ
left room lines = room_after room (length (text_of_lines lines))

pub size-append : (a b : List Line) → length (text_of_lines (a ++ b)) ≡ length (text_of_lines a) + length (text_of_lines b)
size-append a b = ap length (text-append a b) ∙ length-append (text_of_lines a) (text_of_lines b)

pub some_left : (room r : ℕ) (a rest : List Line) → left room a ≡ Some r → left r rest ≡ left room (a ++ rest)
some_left room r a rest e = room-some room (length (text_of_lines a)) (length (text_of_lines rest)) r e ∙ ap (room_after room) (sym (size-append a rest))

pub none_left : (room : ℕ) (a rest : List Line) → left room a ≡ None → None ≡ left room (a ++ rest)
none_left room a rest e = sym (ap (room_after room) (size-append a rest) ∙ room-none room (length (text_of_lines a)) (length (text_of_lines rest)) e)

abbrev client_line : ℕ → Line
client_line client = a_line verb.Client (word.Named (Client client) ∷ [])

scripts_parts : (client i : ℕ) (scripts : List (List Request)) (script : List Request) → i < length scripts → script ≡ get_or scripts i script
    → scripts_lines client (drop i scripts) ≡ client_line client ∷ (script_lines script ++ scripts_lines (client + 1) (drop (i + 1) scripts))
scripts_parts client i scripts script lt is =
    ap (scripts_lines client) (drop-cons scripts i script lt
    ∙ ap (λ (x : List Request). x ∷ drop (suc i) scripts) (sym is) ∙ ap (λ (n : ℕ). script ∷ drop n scripts) (sym (add-one i)))

pub script_left : (room r1 r2 client i : ℕ) (scripts : List (List Request)) (script : List Request) (whole : Option ℕ)
    → i < length scripts → script ≡ get_or scripts i script
    → left room (client_line client ∷ []) ≡ Some r1 → left r1 (script_lines script) ≡ Some r2 → left room (scripts_lines client (drop i scripts)) ≡ whole
    → left r2 (scripts_lines (client + 1) (drop (i + 1) scripts)) ≡ whole
script_left room r1 r2 client i scripts script whole lt is e1 e2 inv =
    some_left r1 r2 (script_lines script) _ e2 ∙ some_left room r1 (client_line client ∷ []) _ e1
    ∙ ap (left room) (sym (scripts_parts client i scripts script lt is)) ∙ inv

pub no_script_left : (room r1 client i : ℕ) (scripts : List (List Request)) (script : List Request) (whole : Option ℕ)
    → i < length scripts → script ≡ get_or scripts i script
    → left room (client_line client ∷ []) ≡ Some r1 → left r1 (script_lines script) ≡ None
    → left room (scripts_lines client (drop i scripts)) ≡ whole → None ≡ whole
no_script_left room r1 client i scripts script whole lt is e1 e2 inv =
    none_left r1 (script_lines script) (scripts_lines (client + 1) (drop (i + 1) scripts)) e2
    ∙ some_left room r1 (client_line client ∷ []) _ e1 ∙ ap (left room) (sym (scripts_parts client i scripts script lt is)) ∙ inv
