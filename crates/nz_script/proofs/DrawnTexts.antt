-- The text of what is drawn is short.
use Rattle.std.proofs.Common.{◌≡◌, ℕ, zero, suc, ◌+◌, ◌*◌, ◌%◌, ◌<◌, ◌≤◌, ◌^◌, Bool, true, false, cond, List, [], ◌∷◌, ◌++◌, Some, None, refl, ap, ◌∙◌}
use Rattle.std.proofs.Common.{arith, length, map, length-append}
use Rattle.std.specs.Prelude.{◌==◌, nat_le, codes, sum_by}
use Rattle.std.specs.List.{list_all}
use Rattle.std.specs.Fmt.{decimal}
use Rattle.std.proofs.lemmas.Bool.{and_parts, le-leb, leb-true}
use Rattle.std.proofs.lemmas.List.Sums.{sum_by-cons}
use Rattle.nz_base.specs.declared.actor.Actor.TheVariants.{Client}
use Rattle.nz_base.specs.declared.scenario.Request.{Request}
use Rattle.nz_base.specs.declared.scenario.Scenario.{Scenario}
use Rattle.nz_store.specs.declared.command.Command.{Command}
use Rattle.nz_store.specs.declared.command.Command.TheVariants as command
use Rattle.nz_store.specs.Reading.{command_of}
use Rattle.nz_script.specs.declared.line_forms.Head.TheVariants as head
use Rattle.nz_script.specs.declared.line_forms.Verb.{Verb}
use Rattle.nz_script.specs.declared.line_forms.Verb.TheVariants as verb
use Rattle.nz_script.specs.declared.word.Word.TheVariants as word
use Rattle.nz_script.specs.declared.line.Line.{Line}
use Rattle.nz_script.specs.Lines.{a_line}
use Rattle.nz_script.specs.Messages.{name_of}
use Rattle.nz_script.specs.Shapes.{verb_word}
use Rattle.nz_script.specs.Sizes.{command_len}
use Rattle.nz_script.specs.Texts.{line_text, number_line, command_line, wait_lines, lines_of_command, request_lines, script_lines}
use Rattle.nz_script.specs.Texts.{scripts_lines, fault_line, lines_of, text_of_lines, text_of}
use Rattle.nz_script.specs.Draws.{next, draw_after, drawn_key, drawn_value, command_for, fault_for, faults_for}
use Rattle.nz_script.proofs.Drawing.{decimal_short}
use Rattle.nz_script.proofs.RoomLeft.{size-append}

-- how many bytes the lines take
abbrev pub size : List Line → ℕ
size lines = length (text_of_lines lines)

-- ---- commands

choice : (most : ℕ) (t : Bool) (x y : Command) → command_len x ≤ most → command_len y ≤ most → command_len (cond t x y) ≤ most
choice most true x y h k = h
choice most false x y h k = k

pub drawn_len : (a b i : ℕ) → b < 2 ^ 64 → i < 2 ^ 64 → command_len (command_for a b i) ≤ 60
drawn_len a b i sb si =
    let k = decimal_short b sb in
    let v = decimal_short i si in
    let none = length-append (decimal b) [] in
    let value = length-append (decimal i) [] in
    let put : command_len (command.Put (drawn_key b) (drawn_value i)) ≤ 60 =
    let both = length-append (decimal b) (32 ∷ 118 ∷ (decimal i ++ [])) in omega (arith, k, v, value, both) in
    let get : command_len (command.Get (drawn_key b)) ≤ 60 = omega (arith, k, none) in
    let del : command_len (command.Del (drawn_key b)) ≤ 60 = omega (arith, k, none) in
    let cas : command_len (command.Cas (drawn_key b) None (Some (drawn_value i))) ≤ 60 =
    let both = length-append (decimal b) (32 ∷ 45 ∷ 32 ∷ 118 ∷ (decimal i ++ [])) in omega (arith, k, v, value, both) in
    choice 60 (a == 0) _ _ put (choice 60 (a == 1) _ _ get (choice 60 (a == 2) _ _ del cas))

-- ---- requests

-- Whether the lines of the request take few bytes.
abbrev pub is_brief : Request → Bool
is_brief r = nat_le (size (request_lines r)) 61

pub brief_by : (r : Request) (c : Command) → r.wait ≡ 0 → command_of r.command ≡ Some c → command_len c ≤ 60 → is_brief r ≡ true
brief_by r c now is few =
    let one : size (command_line c ∷ []) ≡ command_len c + 1 = length-append (line_text (command_line c)) (10 ∷ []) in
    let lines : request_lines r ≡ command_line c ∷ [] =
    ap (λ (n : ℕ). wait_lines n ++ lines_of_command (command_of r.command)) now ∙ ap lines_of_command is in
    le-leb (size (request_lines r)) 61 (omega (arith, ap size lines, one, few))

script_size : (rs : List Request) → list_all is_brief rs ≡ true → size (script_lines rs) ≤ 61 * length rs + 4
script_size [] e = omega arith
script_size (r ∷ rs) e =
    let p = and_parts (is_brief r) (list_all is_brief rs) e in
    let here = leb-true (size (request_lines r)) 61 p.0 in
    let more = script_size rs p.1 in
    let both = size-append (request_lines r) (script_lines rs) in
    omega (arith, here, more, both)

-- the client's line, with its newline, and what is under it
block_size : (client : ℕ) (block rest : List Line) → client < 2 ^ 64
    → size (a_line verb.Client (word.Named (Client client) ∷ []) ∷ (block ++ rest)) ≤ 29 + (size block + size rest)
block_size client block rest small =
    let short = decimal_short client small in
    let first = length-append (decimal client) [] in
    let line = a_line verb.Client (word.Named (Client client) ∷ []) in
    let whole = length-append (line_text line) (10 ∷ text_of_lines (block ++ rest)) in
    let both = size-append block rest in
    omega (arith, short, first, whole, both)

pub scripts_size : (client : ℕ) (scripts : List (List Request)) → client + length scripts < 2 ^ 64
    → list_all (λ (script : List Request). list_all is_brief script) scripts ≡ true
    → size (scripts_lines client scripts) ≤ 61 * sum_by length scripts + 33 * length scripts
scripts_size client [] small e = omega arith
scripts_size client (script ∷ scripts) small e =
    let p = and_parts (list_all is_brief script) (list_all (λ (script : List Request). list_all is_brief script) scripts) e in
    let here = script_size script p.0 in
    let more = scripts_size (client + 1) scripts (omega (arith, small)) p.1 in
    let sum = sum_by-cons length script scripts in
    let block = block_size client (script_lines script) (scripts_lines (client + 1) scripts) (omega (arith, small)) in
    omega (arith, here, more, sum, block)

-- ---- faults

fault_len : (count x j : ℕ) → 1 ≤ count → count < 2 ^ 32 → length (line_text (fault_line (fault_for count x j))) ≤ 100
unfolding name_of
fault_len count x j some small =
    let p = j % 2 in
    let r = draw_after (next x) % 5 in
    let n = 1 + draw_after (next (next x)) % count in
    let last = length-append (decimal n) [] in
    let middle = length-append (decimal r) (32 ∷ (codes "timed" ++ 32 ∷ (decimal n ++ []))) in
    let first = length-append (decimal p) (32 ∷ 114 ∷ (decimal r ++ 32 ∷ (codes "timed" ++ 32 ∷ (decimal n ++ [])))) in
    let a = decimal_short p (omega arith) in
    let b = decimal_short r (omega arith) in
    let c = decimal_short n (omega (arith, some, small)) in
    omega (arith, a, b, c, first, middle, last)

pub faults_size : (count x j n : ℕ) → n ≤ count → count < 2 ^ 32 → size (map fault_line (faults_for count x j n)) ≤ 101 * n
faults_size count x j zero some small = omega arith
faults_size count x j (suc n) some small =
    let here = fault_len count x j (omega (arith, some)) small in
    let more = faults_size count (next (next x)) (j + 1) n (omega (arith, some)) small in
    let whole = length-append (line_text (fault_line (fault_for count x j))) (10 ∷ text_of_lines (map fault_line (faults_for count (next (next x)) (j + 1) n))) in
    omega (arith, here, more, whole)

-- ---- all of it

number_size : (v : Verb) (n : ℕ) → n < 2 ^ 64 → length (verb_word v) ≤ 8 → size (number_line v n ∷ []) ≤ 30
number_size v n small short =
    let digits = decimal_short n small in
    let none = length-append (decimal n) [] in
    let line = length-append (verb_word v) (32 ∷ (decimal n ++ [])) in
    let whole = length-append (line_text (number_line v n)) (10 ∷ []) in
    omega (arith, short, digits, none, line, whole)

-- the size of a text whose head has these five lines, and which has no skews
pub text_size : (a b c d e : Line) (scripts faults : List Line)
    → size (a ∷ []) ≤ 30 → size (b ∷ []) ≤ 30 → size (c ∷ []) ≤ 30 → size (d ∷ []) ≤ 30 → size (e ∷ []) ≤ 30
    → size ((a ∷ b ∷ c ∷ d ∷ e ∷ []) ++ (scripts ++ (faults ++ a_line verb.Done [] ∷ []))) ≤ 155 + (size scripts + size faults)
text_size a b c d e scripts faults ha hb hc hd he =
    let rest = scripts ++ (faults ++ a_line verb.Done [] ∷ []) in
    let all = size-append scripts (faults ++ a_line verb.Done [] ∷ []) in
    let last = size-append faults (a_line verb.Done [] ∷ []) in
    let one = size-append (a ∷ []) (b ∷ c ∷ d ∷ e ∷ rest) in
    let two = size-append (b ∷ []) (c ∷ d ∷ e ∷ rest) in
    let three = size-append (c ∷ []) (d ∷ e ∷ rest) in
    let four = size-append (d ∷ []) (e ∷ rest) in
    let five = size-append (e ∷ []) rest in
    omega (arith, ha, hb, hc, hd, he, all, last, one, two, three, four, five)

-- a drawn scenario with these scripts and faults
pub drawn_size : (s : Scenario) → s.cluster ≡ 2 → s.proxies ≡ 2 → s.clients ≡ 16 → s.window ≡ 1 → s.ticks ≡ 1000 → s.skews ≡ []
    → length (text_of s) ≤ 155 + (size (scripts_lines 0 s.scripts) + size (map fault_line s.faults))
unfolding text_of
drawn_size s f proxies clients window ticks skews =
    let lines : lines_of s ≡ (number_line (verb.Head head.Version) 1 ∷ number_line (verb.Head head.Faulty) 2 ∷ number_line (verb.Head head.Proxies) 2
    ∷ number_line (verb.Head head.Clients) 16 ∷ number_line (verb.Head head.Ticks) 1000 ∷ [])
    ++ (scripts_lines 0 s.scripts ++ (map fault_line s.faults ++ a_line verb.Done [] ∷ []))
    = rw (f, proxies, clients, window, ticks, skews) refl in
    let whole =
    text_size (number_line (verb.Head head.Version) 1) (number_line (verb.Head head.Faulty) 2) (number_line (verb.Head head.Proxies) 2)
    (number_line (verb.Head head.Clients) 16) (number_line (verb.Head head.Ticks) 1000) (scripts_lines 0 s.scripts) (map fault_line s.faults)
    (number_size (verb.Head head.Version) 1 (omega arith) (omega arith)) (number_size (verb.Head head.Faulty) 2 (omega arith) (omega arith))
    (number_size (verb.Head head.Proxies) 2 (omega arith) (omega arith)) (number_size (verb.Head head.Clients) 16 (omega arith) (omega arith))
    (number_size (verb.Head head.Ticks) 1000 (omega arith) (omega arith)) in
    omega (arith, ap size lines, whole)
