-- What is written line by line is the text of the lines.
use Rattle.std.proofs.Common.{◌≡◌, ℕ, suc, ◌+◌, ◌<◌, List, [], ◌∷◌, ◌++◌, refl, sym, ap, ◌∙◌, length, drop, get_or, append_assoc, add-one, drop-cons}
use Rattle.nz_base.specs.declared.actor.Actor.TheVariants.{Client}
use Rattle.nz_base.specs.declared.scenario.Request.{Request}
use Rattle.nz_script.specs.declared.line_forms.Verb.TheVariants as verb
use Rattle.nz_script.specs.declared.word.Word.TheVariants as word
use Rattle.nz_script.specs.declared.line.Line.{Line}
use Rattle.nz_script.specs.Bytes.{newline}
use Rattle.nz_script.specs.Lines.{a_line}
use Rattle.nz_script.specs.Texts.{line_text, text_of_lines, script_lines, scripts_lines}

pub text-append : (a b : List Line) → text_of_lines (a ++ b) ≡ text_of_lines a ++ text_of_lines b
text-append [] b = refl
text-append (l ∷ ls) b =
    ap (λ (t : List ℕ). line_text l ++ newline ∷ t) (text-append ls b) ∙ sym (append_assoc (line_text l) (newline ∷ text_of_lines ls) (text_of_lines b))

-- the client's line
abbrev client_line : ℕ → Line
client_line client = a_line verb.Client (word.Named (Client client) ∷ [])

block_written : (o o1 o2 : List ℕ) (line : Line) (block rest : List Line) → o1 ≡ o ++ text_of_lines (line ∷ []) → o2 ≡ o1 ++ text_of_lines block
    → o2 ++ text_of_lines rest ≡ o ++ text_of_lines (line ∷ (block ++ rest))
block_written o o1 o2 line block rest e1 e2 =
    ap (λ (t : List ℕ). t ++ text_of_lines rest) (e2 ∙ ap (λ (t : List ℕ). t ++ text_of_lines block) e1)
    ∙ append_assoc (o ++ text_of_lines (line ∷ [])) (text_of_lines block) (text_of_lines rest)
    ∙ append_assoc o (text_of_lines (line ∷ [])) (text_of_lines block ++ text_of_lines rest)
    ∙ ap (λ (t : List ℕ). o ++ (text_of_lines (line ∷ []) ++ t)) (sym (text-append block rest))
    ∙ ap (λ (t : List ℕ). o ++ t) (sym (text-append (line ∷ []) (block ++ rest)))

pub script_written : (o o1 o2 whole : List ℕ) (client i : ℕ) (scripts : List (List Request)) (script written : List Request) → i < length scripts
    → script ≡ get_or scripts i script → written ≡ script
    → o1 ≡ o ++ text_of_lines (client_line client ∷ []) → o2 ≡ o1 ++ text_of_lines (script_lines written)
    → o ++ text_of_lines (scripts_lines client (drop i scripts)) ≡ whole → o2 ++ text_of_lines (scripts_lines (client + 1) (drop (i + 1) scripts)) ≡ whole
script_written o o1 o2 whole client i scripts script written lt is same e1 e2 inv =
    let parts : drop i scripts ≡ script ∷ drop (i + 1) scripts =
    drop-cons scripts i script lt ∙ ap (λ (x : List Request). x ∷ drop (suc i) scripts) (sym is)
    ∙ ap (λ (n : ℕ). script ∷ drop n scripts) (sym (add-one i)) in
    block_written o o1 o2 (client_line client) (script_lines script)
    (scripts_lines (client + 1) (drop (i + 1) scripts)) e1 (e2 ∙ ap (λ (x : List Request). o1 ++ text_of_lines (script_lines x)) same)
    ∙ ap (λ (x : List (List Request)). o ++ text_of_lines (scripts_lines client x)) (sym parts) ∙ inv

pub all_written : (o o1 o2 o3 o4 o5 : List ℕ) (h k s f d : List Line) → o ≡ [] → o1 ≡ o ++ text_of_lines h
    → o2 ≡ o1 ++ text_of_lines k → o3 ≡ o2 ++ text_of_lines s
    → o4 ≡ o3 ++ text_of_lines f → o5 ≡ o4 ++ text_of_lines d → o5 ≡ text_of_lines (h ++ (k ++ (s ++ (f ++ d))))
all_written o o1 o2 o3 o4 o5 h k s f d e0 e1 e2 e3 e4 e5 =
    e5 ∙ ap (λ (t : List ℕ). t ++ text_of_lines d)
    (e4 ∙ ap (λ (t : List ℕ). t ++ text_of_lines f)
    (e3 ∙ ap (λ (t : List ℕ). t ++ text_of_lines s)
    (e2 ∙ ap (λ (t : List ℕ). t ++ text_of_lines k) (e1 ∙ ap (λ (t : List ℕ). t ++ text_of_lines h) e0))))
    ∙ append_assoc ((text_of_lines h ++ text_of_lines k) ++ text_of_lines s) (text_of_lines f) (text_of_lines d)
    ∙ append_assoc (text_of_lines h ++ text_of_lines k) (text_of_lines s) (text_of_lines f ++ text_of_lines d)
    ∙ append_assoc (text_of_lines h) (text_of_lines k) (text_of_lines s ++ (text_of_lines f ++ text_of_lines d))
    ∙ sym (text-append h (k ++ (s ++ (f ++ d)))
    ∙ ap (λ (t : List ℕ). text_of_lines h ++ t)
    (text-append k (s ++ (f ++ d))
    ∙ ap (λ (t : List ℕ). text_of_lines k ++ t) (text-append s (f ++ d) ∙ ap (λ (t : List ℕ). text_of_lines s ++ t) (text-append f d))))
