-- What is drawn one after another is the drawn list, and what is drawn can be spelled.
use Rattle.std.proofs.Common.{◌≡◌, ℕ, zero, suc, ◌+◌, ◌-◌, ◌<◌, ◌≤◌, ◌^◌, Bool, true, false, cond, List}
use Rattle.std.proofs.Common.{[], ◌∷◌, ◌++◌, refl, sym, ap, ◌∙◌, arith, length, append_assoc}
use Rattle.std.specs.Prelude.{◌==◌}
use Rattle.std.specs.List.{list_all}
use Rattle.std.specs.Char.{is_ascii_digit}
use Rattle.std.specs.Fmt.{decimal}
use Rattle.std.proofs.lemmas.Fmt.{digits_decimal, length-decimal-le}
use Rattle.std.proofs.lemmas.Bool.{and_from, le-leb}
use Rattle.nz_base.specs.declared.scenario.Request.{Request}
use Rattle.nz_base.specs.declared.scenario.Fault.{Fault}
use Rattle.nz_store.specs.declared.command.Command.{Command}
use Rattle.nz_store.specs.Grammar.{IsValidCommand, is_graphic}
use Rattle.nz_store.specs.Reading.{is_text, is_key_text, is_value_text, has_spelling}
use Rattle.nz_store.proofs.Texts.{validity_is}
use Rattle.nz_script.specs.Draws.{next, draws_after, drawn_key, drawn_value, command_for, request_for}
use Rattle.nz_script.specs.Draws.{requests_for, script_for, scripts_for, fault_for, faults_for}
use Rattle.nz_script.proofs.Numerals.{own, all-digits}

gap : (j n : ℕ) → j < n → n - j ≡ suc (n - (j + 1))
gap j n lt = omega (arith, lt)

pub next_fault : (count x j n : ℕ) (prefix whole : List Fault) (f : Fault) → j < n → f ≡ fault_for count x j → prefix ++ faults_for count x j (n - j) ≡ whole
    → (prefix ++ f ∷ []) ++ faults_for count (next (next x)) (j + 1) (n - (j + 1)) ≡ whole
next_fault count x j n prefix whole f lt same inv =
    append_assoc prefix (f ∷ []) (faults_for count (next (next x)) (j + 1) (n - (j + 1)))
    ∙ ap (λ (y : Fault). prefix ++ y ∷ faults_for count (next (next x)) (j + 1) (n - (j + 1))) same
    ∙ ap (λ (m : ℕ). prefix ++ faults_for count x j m) (sym (gap j n lt)) ∙ inv

pub next_request : (x i n : ℕ) (prefix whole : List Request) (r : Request) → i < n → r ≡ request_for x i → prefix ++ requests_for x i (n - i) ≡ whole
    → (prefix ++ r ∷ []) ++ requests_for (next (next x)) (i + 1) (n - (i + 1)) ≡ whole
next_request x i n prefix whole r lt same inv =
    append_assoc prefix (r ∷ []) (requests_for (next (next x)) (i + 1) (n - (i + 1)))
    ∙ ap (λ (y : Request). prefix ++ y ∷ requests_for (next (next x)) (i + 1) (n - (i + 1))) same
    ∙ ap (λ (m : ℕ). prefix ++ requests_for x i m) (sym (gap i n lt)) ∙ inv

pub next_state : (x i n whole : ℕ) → i < n → draws_after (n - i) x ≡ whole → draws_after (n - (i + 1)) (next (next x)) ≡ whole
next_state x i n whole lt inv = ap (λ (m : ℕ). draws_after m x) (sym (gap i n lt)) ∙ inv

pub next_script : (client n : ℕ) (requests : List Request) (prefix whole : List (List Request)) (s : List Request)
    → client < n → s ≡ script_for client 0 requests
    → prefix ++ scripts_for client (n - client) requests ≡ whole → (prefix ++ s ∷ []) ++ scripts_for (client + 1) (n - (client + 1)) requests ≡ whole
next_script client n requests prefix whole s lt same inv =
    append_assoc prefix (s ∷ []) (scripts_for (client + 1) (n - (client + 1)) requests)
    ∙ ap (λ (y : List Request). prefix ++ y ∷ scripts_for (client + 1) (n - (client + 1)) requests) same
    ∙ ap (λ (m : ℕ). prefix ++ scripts_for client m requests) (sym (gap client n lt)) ∙ inv

pub length-requests_for : (x i n : ℕ) → length (requests_for x i n) ≡ n
length-requests_for x i zero = refl
length-requests_for x i (suc n) = ap suc (length-requests_for (next (next x)) (i + 1) n)

digit_is_graphic : (d : ℕ) → is_ascii_digit d ≡ true → is_graphic d ≡ true
digit_is_graphic d e = grind (arith, e)

digits_are_graphic : (l : List ℕ) → list_all is_ascii_digit l ≡ true → list_all is_graphic l ≡ true
digits_are_graphic [] e = refl
digits_are_graphic (d ∷ ds) e =
    let h : is_ascii_digit d ≡ true = grind (arith, e) in
    let t : list_all is_ascii_digit ds ≡ true = grind (arith, e) in
    and_from _ _ (digit_is_graphic d h) (digits_are_graphic ds t)

pub decimal_digits : (n : ℕ) → n < 2 ^ 64 → list_all is_ascii_digit (decimal n) ≡ true
decimal_digits n small = all-digits (decimal n) ∙ digits_decimal own n small

pub decimal_graphic : (n : ℕ) → n < 2 ^ 64 → list_all is_graphic (decimal n) ≡ true
decimal_graphic n small = digits_are_graphic (decimal n) (decimal_digits n small)

pub decimal_short : (n : ℕ) → n < 2 ^ 64 → length (decimal n) ≤ 20
decimal_short n small = length-decimal-le 20 n (omega arith) (omega (arith, small)) small

lettered_text : (most letter n : ℕ) → 21 ≤ most → is_graphic letter ≡ true → n < 2 ^ 64 → is_text most (letter ∷ decimal n) ≡ true
lettered_text most letter n long graphic small =
    and_from _ _ (and_from _ _ (le-leb 1 (suc (length (decimal n))) (omega arith))
    (le-leb (suc (length (decimal n))) most (omega (arith, long, decimal_short n small)))) (and_from _ _ graphic (decimal_graphic n small))

key_text : (b : ℕ) → b < 2 ^ 64 → is_key_text (drawn_key b) ≡ true
key_text b small = lettered_text 32 107 b (omega arith) refl small

value_text : (i : ℕ) → i < 2 ^ 64 → is_value_text (drawn_value i) ≡ true
value_text i small = and_from _ _ (lettered_text 256 118 i (omega arith) refl small) refl

choice : (t : Bool) (x y : Command) → has_spelling x ≡ true → has_spelling y ≡ true → has_spelling (cond t x y) ≡ true
choice true x y h k = h
choice false x y h k = k

pub command_for_is_valid : (a b i : ℕ) → b < 2 ^ 64 → i < 2 ^ 64 → IsValidCommand (command_for a b i)
command_for_is_valid a b i sb si =
    (validity_is (command_for a b i)).0 (
    choice (a == 0) _ _ (and_from _ _ (key_text b sb) (value_text i si)) (
    choice (a == 1) _ _ (key_text b sb) (
    choice (a == 2) _ _ (key_text b sb) (and_from _ _ (and_from _ _ (key_text b sb) refl) (value_text i si)))))
