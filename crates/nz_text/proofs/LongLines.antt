-- A line with more than eleven words is no line of a text.
use Rattle.std.proofs.Common.{◌≡◌, ℕ, ◌+◌, ◌<◌, ◌≤◌, Bool, true, false, cond, List, [], ◌∷◌, ◌++◌, length, map, Option, Some, None}
use Rattle.std.proofs.Common.{refl, ap, subst, arith, length-append}
use Rattle.std.specs.Prelude.{codes, ◌==◌}
use Rattle.std.specs.Str.{bytes_eq}
use Rattle.std.proofs.lemmas.Option.{none-some, same_Some}
use Rattle.nz_base.specs.declared.key.Id.{Id}
use Rattle.nz_store.specs.declared.command.Command.{Command}
use Rattle.nz_store.specs.declared.command.Answer.{Answer}
use Rattle.nz_store.specs.Reading.{is_value_text}
use Rattle.nz_msg.specs.declared.message.Path.{Path}
use Rattle.nz_script.specs.declared.line_forms.Ask.{Ask}
use Rattle.nz_script.specs.declared.line_forms.Ask.TheVariants.{Put, Get, Del, Cas}
use Rattle.nz_script.specs.declared.line_forms.Form.{Form}
use Rattle.nz_script.specs.declared.word.Word.{Word}
use Rattle.std.proofs.lemmas.List.{length-map}
use Rattle.nz_script.specs.Bytes.{space, onto_first, number_of}
use Rattle.nz_script.specs.Commands.{fits_first, ask_of_verb, command_of_sort, command_first}
use Rattle.nz_script.specs.Drafts.{all_within}
use Rattle.nz_script.specs.Forms.{word_of, ◌>>=◌}
use Rattle.nz_script.specs.Shapes.{verb_of, ask_shape_of}
use Rattle.nz_machine.specs.declared.journal.Executed.{Executed}
use Rattle.nz_text.specs.declared.line.Line.{Line}
use Rattle.nz_text.specs.Reading.{pieces_in, id_of_words, id_first, value_first, answer_first, path_of, alone, answer_in_words}
use Rattle.nz_text.specs.Reading.{executed_of, send_in_words, accept_in_words, open_in_words, at_in_words, line_in_words}

-- ---- questions one after another

-- where the second question was answered, the first one was too
bound : {A B : Type 0} (P : Type 0) (o : Option A) (f : A → Option B) (y : B) → ((x : A) → o ≡ Some x → f x ≡ Some y → P) → (o >>= f) ≡ Some y → P
bound P None f y h e = absurd (none-some y e)
bound P (Some x) f y h e = h x refl e

chosen : {B : Type 0} (P : Type 0) (b : Bool) (o p : Option B) (y : B) → (o ≡ Some y → P) → (p ≡ Some y → P) → cond b o p ≡ Some y → P
chosen P true o p y h k e = h e
chosen P false o p y h k e = k e

never : {B : Type 0} (P : Type 0) (y : B) → None ≡ Some y → P
never P y e = absurd (none-some y e)

-- ---- how many words are taken

-- the words have at most this many before the rest
abbrev Takes : {X : Type 0} → ℕ → List (List ℕ) → X × List (List ℕ) → Type 0
Takes most words found = length words ≤ most + length found.1

taken : {X : Type 0} (most : ℕ) (words rest : List (List ℕ)) (x : X) (found : X × List (List ℕ)) → length words ≤ most + length rest
    → Some (x, rest) ≡ Some found → Takes most words found
taken most words rest x found few e = subst (λ f. Takes most words f) (same_Some (x, rest) found e) few

fits_take : (forms : List Form) (words : List (List ℕ)) (found : List Word × List (List ℕ)) → fits_first forms words ≡ Some found
    → Takes (length forms) words found
fits_take [] words found e = taken 0 words words [] found (omega arith) e
fits_take (form ∷ forms) [] found e = never _ found e
fits_take (form ∷ forms) (bytes ∷ more) found e =
    bound _ (word_of form bytes) _ found
    (λ word _ k. bound _ (fits_first forms more) _ found
    (λ x was last. let rest = fits_take forms more x was in
    taken (length (form ∷ forms)) (bytes ∷ more) x.1 (word ∷ x.0) found (omega (arith, rest)) last) k) e

three_forms : (ask : Ask) → length (ask_shape_of ask).forms ≤ 3
three_forms Put = omega arith
three_forms Get = omega arith
three_forms Del = omega arith
three_forms Cas = omega arith

sort_takes : (ask : Ask) (words : List (List ℕ)) (found : Command × List (List ℕ)) → command_of_sort ask words ≡ Some found → Takes 3 words found
sort_takes ask words found e =
    bound _ (fits_first (ask_shape_of ask).forms words) _ found
    (λ x was k.
    let first = fits_take (ask_shape_of ask).forms words x was in
    let few = three_forms ask in
    chosen _ (all_within (ask_shape_of ask).forms x.0) _ None found
    (λ last. taken 3 words x.1 _ found (omega (arith, first, few)) last) (λ last. never _ found last) k)
    e

command_takes : (words : List (List ℕ)) (found : Command × List (List ℕ)) → command_first words ≡ Some found → Takes 4 words found
unfolding command_first
command_takes [] found e = never _ found e
command_takes (first ∷ more) found e =
    bound _ (verb_of first) _ found
    (λ verb _ k. bound _ (ask_of_verb verb) _ found (λ ask _ last. let rest = sort_takes ask more found last in omega (arith, rest)) k) e

id_takes : (words : List (List ℕ)) (found : Id × List (List ℕ)) → id_first words ≡ Some found → Takes 2 words found
unfolding id_first
id_takes [] found e = never _ found e
id_takes (client ∷ []) found e = never _ found e
id_takes (client ∷ num ∷ more) found e =
    bound _ (id_of_words client num) _ found (λ id _ last. taken 2 (client ∷ num ∷ more) more id found (omega arith) last) e

value_takes : (words : List (List ℕ)) (found : Answer × List (List ℕ)) → value_first words ≡ Some found → Takes 1 words found
value_takes [] found e = never _ found e
value_takes (value ∷ more) found e =
    chosen _ (is_value_text value) _ None found (λ last. taken 1 (value ∷ more) more _ found (omega arith) last) (λ last. never _ found last) e

answer_takes : (words : List (List ℕ)) (found : Answer × List (List ℕ)) → answer_first words ≡ Some found → Takes 2 words found
unfolding answer_first
answer_takes [] found e = never _ found e
answer_takes (word ∷ more) found e =
    let one : (a : Answer) → Some (a, more) ≡ Some found → Takes 2 (word ∷ more) found = λ a last. taken 2 (word ∷ more) more a found (omega arith) last in
    chosen _ (bytes_eq word (codes "done")) _ _ found (one _)
    (chosen _ (bytes_eq word (codes "value")) _ _ found (λ last. let rest = value_takes more found last in omega (arith, rest))
    (chosen _ (bytes_eq word (codes "absent")) _ _ found (one _)
    (chosen _ (bytes_eq word (codes "differs")) _ _ found (one _) (λ last. never _ found last)))) e

-- ---- how many words there are

none_left : {X : Type 0} (x y : X) (words : List (List ℕ)) → alone x words ≡ Some y → length words ≤ 0
none_left x y [] e = omega arith
none_left x y (word ∷ more) e = never _ y e

one_path : (words : List (List ℕ)) (path : Path) → path_of words ≡ Some path → length words ≤ 1
unfolding path_of
one_path [] path e = never _ path e
one_path (word ∷ []) path e = omega arith
one_path (word ∷ next ∷ more) path e = never _ path e

answer_words : (words : List (List ℕ)) (answer : Answer) → answer_in_words words ≡ Some answer → length words ≤ 3
unfolding answer_in_words
answer_words [] answer e = never _ answer e
answer_words (word ∷ more) answer e =
    chosen _ (bytes_eq word (codes "gives")) _ None answer
    (λ k. bound _ (answer_first more) _ answer
    (λ a was last. let first = answer_takes more a was in let rest = none_left a.0 answer a.1 last in omega (arith, first, rest)) k)
    (λ last. never _ answer last) e

executed_words : (id : Id) (words : List (List ℕ)) (x : Executed) → executed_of id words ≡ Some x → length words ≤ 7
executed_words id words x e =
    bound _ (command_first words) _ x
    (λ c was k. bound _ (answer_in_words c.1) _ x
    (λ a given _. let first = command_takes words c was in let rest = answer_words c.1 a given in omega (arith, first, rest)) k) e

send_words : (words : List (List ℕ)) (l : Line) → send_in_words words ≡ Some l → length words ≤ 10
send_words words l e =
    bound _ (id_first words) _ l
    (λ i was k. bound _ (command_first i.1) _ l
    (λ c asked last.
    let first = id_takes words i was in
    let next = command_takes i.1 c asked in
    let rest = none_left _ l c.1 last in
    omega (arith, first, next, rest)) k) e

accept_words : (words : List (List ℕ)) (l : Line) → accept_in_words words ≡ Some l → length words ≤ 10
accept_words words l e =
    bound _ (id_first words) _ l
    (λ i was k. bound _ (answer_first i.1) _ l
    (λ a given m. bound _ (path_of a.1) _ l
    (λ path by _.
    let first = id_takes words i was in
    let next = answer_takes i.1 a given in
    let rest = one_path a.1 path by in
    omega (arith, first, next, rest)) m) k) e

open_words : (words : List (List ℕ)) (l : Line) → open_in_words words ≡ Some l → length words ≤ 10
open_words words l e =
    bound _ (id_first words) _ l
    (λ i was last. let first = id_takes words i was in let rest = none_left _ l i.1 last in omega (arith, first, rest)) e

at_words : (words : List (List ℕ)) (l : Line) → at_in_words words ≡ Some l → length words ≤ 10
unfolding at_in_words
at_words [] l e = never _ l e
at_words (place ∷ words) l e =
    bound _ (number_of place) _ l
    (λ n _ k. bound _ (id_first words) _ l
    (λ i was m. bound _ (executed_of i.0 i.1) _ l
    (λ x by _. let first = id_takes words i was in let rest = executed_words i.0 i.1 x by in omega (arith, first, rest)) m) k) e

line_words : (words : List (List ℕ)) (l : Line) → line_in_words words ≡ Some l → length words ≤ 11
unfolding line_in_words
line_words [] l e = never _ l e
line_words (first ∷ words) l e =
    let of : length words ≤ 10 → length (first ∷ words) ≤ 11 = λ rest. omega (arith, rest) in
    chosen _ (bytes_eq first (codes "send")) _ _ l (λ k. of (send_words words l k))
    (chosen _ (bytes_eq first (codes "accept")) _ _ l (λ k. of (accept_words words l k))
    (chosen _ (bytes_eq first (codes "open")) _ _ l (λ k. of (open_words words l k))
    (chosen _ (bytes_eq first (codes "at")) _ _ l (λ k. of (at_words words l k))
    (chosen _ (bytes_eq first (codes "end")) _ _ l
    (λ k. of (let rest = none_left _ l words k in omega (arith, rest))) (λ k. never _ l k))))) e

no_line : (words : List (List ℕ)) (o : Option Line) → line_in_words words ≡ o → 11 < length words → None ≡ o
no_line words None is many = refl
no_line words (Some l) is many = let few = line_words words l is in absurd (omega (arith, few, many))

pub many_words : (words : List (List ℕ)) → 11 < length words → None ≡ line_in_words words
many_words words many = no_line words (line_in_words words) refl many

-- ---- one word more than there is room for

onto_some : (x : ℕ) (pieces : List (List ℕ)) → 1 ≤ length pieces → 1 ≤ length (onto_first x pieces)
onto_some x [] h = absurd (omega (arith, h))
onto_some x (piece ∷ pieces) h = omega arith

either_some : (b : Bool) (x : ℕ) (pieces : List (List ℕ)) → 1 ≤ length pieces → 1 ≤ length (cond b ([] ∷ pieces) (onto_first x pieces))
either_some true x pieces h = omega arith
either_some false x pieces h = onto_some x pieces h

some_piece : (bytes : List ℕ) → 1 ≤ length (pieces_in bytes)
some_piece [] = omega arith
some_piece (x ∷ xs) = either_some (x == space) x (pieces_in xs) (some_piece xs)

pub too_many : {R : Type 0} (now : R → List ℕ) (ps : List R) (rest : List ℕ) (whole : List (List ℕ)) (most : ℕ)
    → length ps ≡ most → map now ps ++ pieces_in rest ≡ whole → most < length whole
too_many now ps rest whole most full is =
    let same = ap length is in
    let both = length-append (map now ps) (pieces_in rest) in
    let mapped = length-map ps now in
    let left = some_piece rest in
    omega (arith, full, same, both, mapped, left)
