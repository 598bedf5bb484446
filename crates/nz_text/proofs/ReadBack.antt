-- Each line that is written is read again.
use Rattle.std.proofs.Common.{◌≡◌, ℕ, ◌+◌, ◌-◌, ◌<◌, ◌^◌, Bool, true, cond, List, [], ◌∷◌, ◌++◌, map}
use Rattle.std.proofs.Common.{Option, Some, None, refl, sym, ap, subst, ◌∙◌, arith, append_assoc}
use Rattle.std.specs.Prelude.{nat_le, codes}
use Rattle.std.specs.Fmt.{decimal}
use Rattle.std.specs.List.{list_all, AllByRecursion}
use Rattle.std.proofs.lemmas.List.{append-nil}
use Rattle.nz_base.specs.declared.key.Id.{Id}
use Rattle.nz_store.specs.declared.command.Command.{Command}
use Rattle.nz_store.specs.declared.command.Answer.{Answer}
use Rattle.nz_store.specs.declared.command.Answer.TheVariants.{Done, Value, Absent, Differs}
use Rattle.nz_store.specs.Grammar.{is_graphic, spelling}
use Rattle.nz_store.specs.Reading.{has_spelling, command_of}
use Rattle.nz_msg.specs.declared.message.Path.{Path}
use Rattle.nz_msg.specs.declared.message.Path.TheVariants.{Fast, Slow}
use Rattle.nz_script.specs.declared.word.Word.{Word}
use Rattle.nz_script.specs.Bytes.{space, newline, Lacks, lines_in, tail_in}
use Rattle.nz_script.specs.Forms.{◌>>=◌}
use Rattle.nz_script.specs.declared.line_forms.Form.{Form}
use Rattle.nz_script.specs.declared.line_forms.Verb.TheVariants as verb
use Rattle.nz_script.specs.Shapes.{verb_word, ask_shape_of}
use Rattle.nz_script.specs.Texts.{word_text, words_text, command_line}
use Rattle.nz_script.proofs.ReadAgain.{AreReadAs, first_word, graphic_lacks_space, graphic_are_printed, printed_lacks_newline}
use Rattle.nz_script.proofs.Asking.{command_words, command_again, asked_by}
use Rattle.nz_script.proofs.Cuts.{lines-line, tail-line}
use Rattle.nz_script.proofs.Drawing.{decimal_graphic}
use Rattle.nz_script.proofs.Readable.{number_of-decimal, value_read}
use Rattle.nz_machine.specs.declared.journal.Executed.{Executed}
use Rattle.nz_text.specs.declared.draft.Draft.{Draft}
use Rattle.nz_text.specs.declared.line.Line.{Line}
use Rattle.nz_text.specs.declared.line.Line.TheVariants as line
use Rattle.nz_machine.specs.declared.client_event.ClientEvent.TheVariants.{Sent, Accepted}
use Rattle.nz_text.specs.Fit.{FitsId, FitsAnswer}
use Rattle.nz_text.specs.Text.{text_newline, id_text, found_text, answer_text, path_text, event_line, open_line, at_line}
use Rattle.nz_text.specs.Reading.{pieces_in, number_in_digits, id_first, answer_first, path_of, alone, send_of, accept_of, answer_in_words}
use Rattle.nz_text.specs.Reading.{executed_of, at_in_words, line_in_words, with_line, draft_after_bytes, if_read, printed_from}
use Rattle.nz_text.proofs.Pieces.{pieces-word, pieces-last}

-- ---- words with one space before each

abbrev pub tail_text : List (List ℕ) → List ℕ
tail_text [] = []
tail_text (w ∷ ws) = space ∷ (w ++ tail_text ws)

tail-append : (xs ys : List (List ℕ)) → tail_text (xs ++ ys) ≡ tail_text xs ++ tail_text ys
tail-append [] ys = refl
tail-append (x ∷ xs) ys =
    ap (λ (l : List ℕ). space ∷ (x ++ l)) (tail-append xs ys) ∙ ap (λ (l : List ℕ). space ∷ l) (sym (append_assoc x (tail_text xs) (tail_text ys)))

-- no space and no newline is in the word
pub record IsPlain (w : List ℕ) : Type 0 where
  pub no_space : Lacks space w
  pub no_newline : Lacks newline w

graphic_plain : (w : List ℕ) → list_all is_graphic w ≡ true → IsPlain w
graphic_plain w e = record { no_space = graphic_lacks_space w e; no_newline = printed_lacks_newline w (graphic_are_printed w e) }

pieces_again : (w : List ℕ) (ws : List (List ℕ)) → AllByRecursion IsPlain (w ∷ ws) → pieces_in (w ++ tail_text ws) ≡ w ∷ ws
pieces_again w [] h = ap pieces_in (append-nil w) ∙ pieces-last w h.0.no_space
pieces_again w (v ∷ ws) h = pieces-word w (v ++ tail_text ws) h.0.no_space ∙ ap (λ (l : List (List ℕ)). w ∷ l) (pieces_again v ws h.1)

lacks-append : (b : ℕ) (xs ys : List ℕ) → Lacks b xs → Lacks b ys → Lacks b (xs ++ ys)
lacks-append b [] ys h k = k
lacks-append b (x ∷ xs) ys h k = (h.0, lacks-append b xs ys h.1 k)

lacks_newline : (w : List ℕ) (ws : List (List ℕ)) → AllByRecursion IsPlain (w ∷ ws) → Lacks newline (w ++ tail_text ws)
lacks_newline w [] h = lacks-append newline w [] h.0.no_newline tt
lacks_newline w (v ∷ ws) h = lacks-append newline w (space ∷ (v ++ tail_text ws)) h.0.no_newline ((λ e. absurd cc), lacks_newline v ws h.1)

-- the bytes are the line with its newline
pub record IsLine (bytes : List ℕ) (x : Line) : Type 0 where
  pub first : List ℕ
  pub words : List (List ℕ)
  pub spelled : bytes ≡ (first ++ tail_text words) ++ text_newline
  pub plain : AllByRecursion IsPlain (first ∷ words)
  pub says : line_in_words (first ∷ words) ≡ Some x

line_step : (bytes : List ℕ) (x : Line) (h : IsLine bytes x) (d : Draft) → draft_after_bytes d (h.first ++ tail_text h.words) ≡ with_line d x
unfolding draft_after_bytes
line_step bytes x h d =
    ap (λ (ps : List (List ℕ)). line_in_words ps >>= λ l. with_line d l) (pieces_again h.first h.words h.plain)
    ∙ ap (λ (o : Option Line). o >>= λ l. with_line d l) h.says

-- the first line is read, and the rest goes on
pub line_read : (bytes rest : List ℕ) (n : ℕ) (d next : Draft) (x : Line) → IsLine bytes x → with_line d x ≡ Some next
    → printed_from (tail_in (bytes ++ rest)) n d (lines_in (bytes ++ rest)) ≡ printed_from (tail_in rest) (n + 1) next (lines_in rest)
line_read bytes rest n d next x h e =
    let w = h.first ++ tail_text h.words in
    let whole : bytes ++ rest ≡ w ++ newline ∷ rest = ap (λ (l : List ℕ). l ++ rest) h.spelled ∙ append_assoc w text_newline rest in
    ap (λ (l : List ℕ). printed_from (tail_in l) n d (lines_in l)) whole
    ∙ ap (λ (t : List ℕ). printed_from t n d (lines_in (w ++ newline ∷ rest))) (tail-line w rest)
    ∙ ap (λ (ls : List (List ℕ)). printed_from (tail_in rest) n d ls) (lines-line w rest (lacks_newline h.first h.words h.plain))
    ∙ ap (if_read n (λ d. printed_from (tail_in rest) (n + 1) d (lines_in rest))) (line_step bytes x h d ∙ e)

-- ---- what fits

abbrev client_word : ℕ → List ℕ
client_word c = 99 ∷ decimal c

number_plain : (n : ℕ) → n < 2 ^ 63 → IsPlain (decimal n)
number_plain n h = graphic_plain (decimal n) (decimal_graphic n (omega (arith, h)))

client_plain : (n : ℕ) → n < 2 ^ 63 → IsPlain (client_word n)
client_plain n h = let p = number_plain n h in record { no_space = ((λ e. absurd cc), p.no_space); no_newline = ((λ e. absurd cc), p.no_newline) }

within : (n : ℕ) → n < 2 ^ 32 → nat_le n (2 ^ 32 - 1) ≡ true
within n h = grind (arith, h)

number_again : (n : ℕ) → n < 2 ^ 32 → number_in_digits (decimal n) ≡ Some n
number_again n h =
    ap (λ (o : Option ℕ). o >>= λ n. cond (nat_le n (2 ^ 32 - 1)) (Some n) None) (number_of-decimal n (omega (arith, h)))
    ∙ ap (λ (b : Bool). cond b (Some n) None) (within n h)

-- the two words of an id
abbrev id_words : Id → List (List ℕ)
id_words id = client_word id.client ∷ decimal id.num ∷ []

id_plain : (id : Id) → FitsId id → AllByRecursion IsPlain (id_words id)
id_plain id h = (client_plain id.client (omega (arith, h.client)), (number_plain id.num (omega (arith, h.num)), tt))

id_again : (id : Id) (more : List (List ℕ)) → FitsId id → id_first (client_word id.client ∷ decimal id.num ∷ more) ≡ Some (id, more)
unfolding id_first
id_again id more h =
    ap (λ (o : Option ℕ). (o >>= λ c. number_in_digits (decimal id.num) >>= λ n. Some
    (record { client = c; num = n })) >>= λ i. Some (i, more)) (number_again id.client h.client)
    ∙ ap (λ (o : Option ℕ). (o >>= λ n. Some (record { client = id.client; num = n })) >>= λ i. Some (i, more)) (number_again id.num h.num)

-- the id's words, with words and a newline after them
id_spelled : (id : Id) (ws : List (List ℕ)) (T : List ℕ) → T ≡ tail_text ws
    → id_text id ++ (T ++ text_newline) ≡ tail_text (client_word id.client ∷ decimal id.num ∷ ws) ++ text_newline
id_spelled id ws T is =
    let D = decimal id.client in
    let N = decimal id.num in
    ap (λ (l : List ℕ). id_text id ++ (l ++ text_newline)) is
    ∙ ap (λ (l : List ℕ). space ∷ 99 ∷ l)
    (append_assoc D (space ∷ N) (tail_text ws ++ text_newline)
    ∙ ap (λ (l : List ℕ). D ++ (space ∷ l)) (sym (append_assoc N (tail_text ws) text_newline))
    ∙ sym (append_assoc D (space ∷ (N ++ tail_text ws)) text_newline))

-- ---- commands

-- The bytes are those of a command.
pub record IsCommand (bytes : List ℕ) : Type 0 where
  pub command : Command
  pub found : command_of bytes ≡ Some command
  pub whole : bytes ≡ spelling command
  pub spelled : has_spelling command ≡ true

words_tail : (words : List Word) → words_text words ≡ tail_text (map word_text words)
words_tail [] = refl
words_tail (w ∷ words) = ap (λ (l : List ℕ). space ∷ (word_text w ++ l)) (words_tail words)

found_spelled : (bytes : List ℕ) (h : IsCommand bytes) → found_text (command_of bytes) ≡ tail_text (command_words h.command)
found_spelled bytes h =
    ap found_text h.found ∙ ap (λ (l : List ℕ). space ∷ (verb_word (command_line h.command).verb ++ l)) (words_tail (command_line h.command).words)

all_plain : (forms : List Form) (words : List Word) → AreReadAs forms words → AllByRecursion IsPlain (map word_text words)
all_plain [] [] r = tt
all_plain [] (v ∷ vs) r = absurd r
all_plain (f ∷ fs) [] r = absurd r
all_plain (f ∷ fs) (v ∷ vs) r = (graphic_plain (word_text v) r.0.word.graphic, all_plain fs vs r.1)

command_plain : (c : Command) → has_spelling c ≡ true → AllByRecursion IsPlain (command_words c)
command_plain c e =
    let h = asked_by c e in
    subst (λ l. AllByRecursion IsPlain (verb_word l.verb ∷ map word_text l.words)) (sym h.line)
    (graphic_plain (verb_word (verb.Ask h.ask)) (first_word (verb.Ask h.ask)).word.graphic, all_plain (ask_shape_of h.ask).forms h.words h.read)

plain-append : (xs ys : List (List ℕ)) → AllByRecursion IsPlain xs → AllByRecursion IsPlain ys → AllByRecursion IsPlain (xs ++ ys)
plain-append [] ys h k = k
plain-append (x ∷ xs) ys h k = (h.0, plain-append xs ys h.1 k)

-- ---- answers

answer_words : Answer → List (List ℕ)
answer_words Done = codes "done" ∷ []
answer_words (Value value) = codes "value" ∷ value ∷ []
answer_words Absent = codes "absent" ∷ []
answer_words Differs = codes "differs" ∷ []

answer_spelled : (a : Answer) → answer_text a ≡ tail_text (answer_words a)
unfolding answer_words
answer_spelled Done = refl
answer_spelled (Value value) = ap (λ (l : List ℕ). codes " value " ++ l) (sym (append-nil value))
answer_spelled Absent = refl
answer_spelled Differs = refl

answer_plain : (a : Answer) → FitsAnswer a → AllByRecursion IsPlain (answer_words a)
unfolding answer_words
answer_plain Done h = (graphic_plain _ refl, tt)
answer_plain (Value value) h = (graphic_plain _ refl, (graphic_plain value (value_read value h).word.graphic, tt))
answer_plain Absent h = (graphic_plain _ refl, tt)
answer_plain Differs h = (graphic_plain _ refl, tt)

answer_again : (a : Answer) (more : List (List ℕ)) → FitsAnswer a → answer_first (answer_words a ++ more) ≡ Some (a, more)
unfolding answer_first answer_words
answer_again Done more h = refl
answer_again (Value value) more h = ap (λ (b : Bool). cond b (Some (Value value, more)) None) h
answer_again Absent more h = refl
answer_again Differs more h = refl

path_word : Path → List ℕ
path_word Fast = codes "fast"
path_word Slow = codes "slow"

path_spelled : (p : Path) → path_text p ≡ tail_text (path_word p ∷ [])
unfolding path_word
path_spelled Fast = refl
path_spelled Slow = refl

path_plain : (p : Path) → IsPlain (path_word p)
unfolding path_word
path_plain Fast = graphic_plain _ refl
path_plain Slow = graphic_plain _ refl

path_again : (p : Path) → path_of (path_word p ∷ []) ≡ Some p
unfolding path_of path_word
path_again Fast = refl
path_again Slow = refl

-- ---- lines

send_says : (id : Id) (bytes : List ℕ) (h : IsCommand bytes) → FitsId id
    → line_in_words (codes "send" ∷ client_word id.client ∷ decimal id.num ∷ command_words h.command) ≡ Some (line.Event (Sent id bytes))
unfolding line_in_words
send_says id bytes h fits =
    ap (λ (o : Option (Id × List (List ℕ))). o >>= λ i. send_of i.0 i.1) (id_again id (command_words h.command) fits)
    ∙ ap (λ (ws : List (List ℕ)). send_of id ws) (sym (append-nil (command_words h.command)))
    ∙ ap (λ (o : Option (Command × List (List ℕ))). o >>= λ c. alone (line.Event (Sent id (spelling c.0))) c.1) (command_again h.command [] h.spelled)
    ∙ ap (λ (b : List ℕ). Some (line.Event (Sent id b))) (sym h.whole)

pub send_line : (id : Id) (bytes : List ℕ) → IsCommand bytes → FitsId id → IsLine (event_line (Sent id bytes)) (line.Event (Sent id bytes))
send_line id bytes h fits = record {
  first = codes "send";
  words = client_word id.client ∷ decimal id.num ∷ command_words h.command;
  spelled = ap (λ (l : List ℕ). codes "send" ++ l) (id_spelled id (command_words h.command) (found_text (command_of bytes)) (found_spelled bytes h));
  plain = (graphic_plain _ refl, plain-append (id_words id) (command_words h.command) (id_plain id fits) (command_plain h.command h.spelled));
  says = send_says id bytes h fits;
}

accept_says : (id : Id) (a : Answer) (p : Path) → FitsId id → FitsAnswer a
    → line_in_words (codes "accept" ∷ client_word id.client ∷ decimal id.num ∷ (answer_words a ++ path_word p ∷ [])) ≡ Some (line.Event (Accepted id a p))
unfolding line_in_words
accept_says id a p fits h =
    ap (λ (o : Option (Id × List (List ℕ))). o >>= λ i. accept_of i.0 i.1) (id_again id (answer_words a ++ path_word p ∷ []) fits)
    ∙ ap (λ (o : Option (Answer × List (List ℕ))). o >>= λ x. path_of x.1 >>= λ path. Some
    (line.Event (Accepted id x.0 path))) (answer_again a (path_word p ∷ []) h)
    ∙ ap (λ (o : Option Path). o >>= λ path. Some (line.Event (Accepted id a path))) (path_again p)

pub accept_line : (id : Id) (a : Answer) (p : Path) → FitsId id → FitsAnswer a → IsLine (event_line (Accepted id a p)) (line.Event (Accepted id a p))
accept_line id a p fits h =
    let T = answer_text a ++ path_text p in
    record {
      first = codes "accept";
      words = client_word id.client ∷ decimal id.num ∷ (answer_words a ++ path_word p ∷ []);
      spelled = ap (λ (l : List ℕ). codes "accept" ++ (id_text id ++ l)) (sym (append_assoc (answer_text a) (path_text p) text_newline))
          ∙ ap (λ (l : List ℕ). codes "accept" ++ l) (id_spelled id (answer_words a ++ path_word p ∷ []) T
          (ap (λ (l : List ℕ). l ++ path_text p) (answer_spelled a)
          ∙ ap (λ (l : List ℕ). tail_text (answer_words a) ++ l) (path_spelled p) ∙ sym (tail-append (answer_words a) (path_word p ∷ []))));
      plain = (
        graphic_plain _ refl,
        plain-append (id_words id) (answer_words a ++ path_word p ∷ []) (id_plain id fits)
            (plain-append (answer_words a) (path_word p ∷ []) (answer_plain a h) (path_plain p, tt)),
      );
      says = accept_says id a p fits h;
    }

open_says : (id : Id) → FitsId id → line_in_words (codes "open" ∷ id_words id) ≡ Some (line.Open id)
unfolding line_in_words
open_says id fits = ap (λ (o : Option (Id × List (List ℕ))). o >>= λ i. alone (line.Open i.0) i.1) (id_again id [] fits)

pub open_line_is : (id : Id) → FitsId id → IsLine (open_line id) (line.Open id)
open_line_is id fits = record {
  first = codes "open";
  words = id_words id;
  spelled = ap (λ (l : List ℕ). codes "open" ++ l) (id_spelled id [] [] refl);
  plain = (graphic_plain _ refl, id_plain id fits);
  says = open_says id fits;
}

given_again : (a : Answer) → FitsAnswer a → answer_in_words (codes "gives" ∷ answer_words a) ≡ Some a
unfolding answer_in_words
given_again a h =
    ap (λ (ws : List (List ℕ)). answer_first ws >>= λ x. alone x.0 x.1) (sym (append-nil (answer_words a)))
    ∙ ap (λ (o : Option (Answer × List (List ℕ))). o >>= λ x. alone x.0 x.1) (answer_again a [] h)

executed_again : (id : Id) (bytes : List ℕ) (a : Answer) (h : IsCommand bytes) → FitsAnswer a
    → executed_of id (command_words h.command ++ codes "gives" ∷ answer_words a) ≡ Some (record { id = id; command = bytes; answer = a })
executed_again id bytes a h fits =
    ap (λ (o : Option (Command × List (List ℕ))). o >>= λ c. answer_in_words c.1 >>= λ answer. Some
    (record { id = id; command = spelling c.0; answer = answer })) (command_again h.command (codes "gives" ∷ answer_words a) h.spelled)
    ∙ ap (λ (o : Option Answer). o >>= λ answer. Some (record { id = id; command = spelling h.command; answer = answer })) (given_again a fits)
    ∙ ap (λ (b : List ℕ). Some (record { id = id; command = b; answer = a })) (sym h.whole)

placed_again : (place : ℕ) (e : Executed) (h : IsCommand e.command) → place < 2 ^ 63 → FitsId e.id → FitsAnswer e.answer
    → at_in_words (decimal place ∷ client_word e.id.client ∷ decimal e.id.num
    ∷ (command_words h.command ++ codes "gives" ∷ answer_words e.answer)) ≡ Some (line.At place e)
unfolding at_in_words
placed_again place e h few fits a =
    let ws = command_words h.command ++ codes "gives" ∷ answer_words e.answer in
    ap (λ (o : Option ℕ). o >>= λ n. id_first
    (client_word e.id.client ∷ decimal e.id.num ∷ ws) >>= λ i. executed_of i.0 i.1 >>= λ x. Some (line.At n x)) (number_of-decimal place few)
    ∙ ap (λ (o : Option (Id × List (List ℕ))). o >>= λ i. executed_of i.0 i.1 >>= λ x. Some (line.At place x)) (id_again e.id ws fits)
    ∙ ap (λ (o : Option Executed). o >>= λ x. Some (line.At place x)) (executed_again e.id e.command e.answer h a)

at_says : (place : ℕ) (e : Executed) (h : IsCommand e.command) → place < 2 ^ 63 → FitsId e.id → FitsAnswer e.answer
    → line_in_words (codes "at" ∷ decimal place ∷ client_word e.id.client ∷ decimal e.id.num
    ∷ (command_words h.command ++ codes "gives" ∷ answer_words e.answer)) ≡ Some (line.At place e)
unfolding line_in_words
at_says place e h few fits a = placed_again place e h few fits a

-- the part of the line after the id
at_rest : (e : Executed) (h : IsCommand e.command)
    → found_text (command_of e.command) ++ (codes " gives" ++ answer_text e.answer)
    ≡ tail_text (command_words h.command ++ codes "gives" ∷ answer_words e.answer)
at_rest e h =
    ap (λ (l : List ℕ). l ++ (codes " gives" ++ answer_text e.answer)) (found_spelled e.command h)
    ∙ ap (λ (l : List ℕ). tail_text (command_words h.command) ++ (codes " gives" ++ l)) (answer_spelled e.answer)
    ∙ sym (tail-append (command_words h.command) (codes "gives" ∷ answer_words e.answer))

at_spelled : (place : ℕ) (e : Executed) (h : IsCommand e.command)
    → at_line place e ≡ (codes "at"
    ++ tail_text (decimal place ∷ client_word e.id.client ∷ decimal e.id.num
    ∷ (command_words h.command ++ codes "gives" ∷ answer_words e.answer))) ++ text_newline
at_spelled place e h =
    let F = found_text (command_of e.command) in
    let G = codes " gives" ++ answer_text e.answer in
    let ws = command_words h.command ++ codes "gives" ∷ answer_words e.answer in
    let tail = tail_text (client_word e.id.client ∷ decimal e.id.num ∷ ws) in
    ap (λ (l : List ℕ). codes "at " ++ (decimal place ++ (id_text e.id ++ l))) (sym (append_assoc F G text_newline))
    ∙ ap (λ (l : List ℕ). codes "at " ++ (decimal place ++ l)) (id_spelled e.id ws (F ++ G) (at_rest e h))
    ∙ ap (λ (l : List ℕ). codes "at " ++ l) (sym (append_assoc (decimal place) tail text_newline))

pub at_line_is : (place : ℕ) (e : Executed) → IsCommand e.command → place < 2 ^ 63 → FitsId e.id → FitsAnswer e.answer
    → IsLine (at_line place e) (line.At place e)
at_line_is place e h few fits a = record {
  first = codes "at";
  words = decimal place ∷ client_word e.id.client ∷ decimal e.id.num ∷ (command_words h.command ++ codes "gives" ∷ answer_words e.answer);
  spelled = at_spelled place e h;
  plain = (
    graphic_plain _ refl,
    (
      number_plain place few,
      plain-append (id_words e.id) (command_words h.command ++ codes "gives" ∷ answer_words e.answer) (id_plain e.id fits)
          (plain-append (command_words h.command) (codes "gives" ∷ answer_words e.answer)
          (command_plain h.command h.spelled) (graphic_plain _ refl, answer_plain e.answer a)),
    ),
  );
  says = at_says place e h few fits a;
}

pub end_line_is : IsLine (codes "end\n") line.End
unfolding line_in_words
end_line_is = record { first = codes "end"; words = []; spelled = refl; plain = (graphic_plain _ refl, tt); says = refl }
