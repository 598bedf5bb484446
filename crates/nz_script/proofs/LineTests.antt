-- What the tests of a line show.
use Rattle.std.proofs.Common.{◌≡◌, Bool, true, false, cond, not, List, [], ◌∷◌, Some, None, refl}
use Rattle.std.specs.Prelude.{◌&&◌}
use Rattle.std.proofs.lemmas.Bool.{false≢true, and_from, and_parts}
use Rattle.nz_store.specs.Grammar.{IsValidCommand}
use Rattle.nz_store.specs.Reading.{is_key_text, is_value_text, is_choice_text, has_spelling}
use Rattle.nz_store.proofs.Texts.{validity_is}
use Rattle.nz_script.specs.declared.faults.Kind.TheVariants as kind
use Rattle.nz_script.specs.declared.line_forms.Ask.{Ask}
use Rattle.nz_script.specs.declared.line_forms.Ask.TheVariants.{Put, Get, Del, Cas}
use Rattle.nz_script.specs.declared.word.Word.{Word}
use Rattle.nz_script.specs.declared.word.Word.TheVariants.{Number, Units, Named, Everyone, Kind, Text, Nothing}
use Rattle.nz_script.specs.declared.line.Line.{Line}
use Rattle.nz_script.specs.declared.draft.Draft.{Draft}
use Rattle.nz_script.specs.Shapes.{ask_shape_of, forms_of}
use Rattle.nz_script.specs.Forms.{text_as, choice_as}
use Rattle.nz_script.specs.Drafts.{is_key_word, has_value, has_choice, all_within, command_asked, within_limits, has_room_for_line, is_span}
use Rattle.nz_script.specs.Reading.{fault_of}

key-text : (w : Word) → is_key_word w ≡ true → is_key_text (text_as (Some w)) ≡ true
key-text (Text t) e = e
key-text (Number n) e = absurd (false≢true e)
key-text (Units b n) e = absurd (false≢true e)
key-text (Named a) e = absurd (false≢true e)
key-text Everyone e = absurd (false≢true e)
key-text (Kind k) e = absurd (false≢true e)
key-text Nothing e = absurd (false≢true e)

value-text : (w : Word) → has_value w ≡ true → is_value_text (text_as (Some w)) ≡ true
value-text (Text t) e = e
value-text (Number n) e = absurd (false≢true e)
value-text (Units b n) e = absurd (false≢true e)
value-text (Named a) e = absurd (false≢true e)
value-text Everyone e = absurd (false≢true e)
value-text (Kind k) e = absurd (false≢true e)
value-text Nothing e = absurd (false≢true e)

choice-text : (w : Word) → has_choice w ≡ true → is_choice_text (choice_as (Some w)) ≡ true
choice-text (Text t) e = e
choice-text (Number n) e = absurd (false≢true e)
choice-text (Units b n) e = absurd (false≢true e)
choice-text (Named a) e = absurd (false≢true e)
choice-text Everyone e = absurd (false≢true e)
choice-text (Kind k) e = absurd (false≢true e)
choice-text Nothing e = refl

spelled : (ask : Ask) (words : List Word) → all_within (ask_shape_of ask).forms words ≡ true → has_spelling (command_asked ask words) ≡ true
spelled Put [] e = absurd (false≢true e)
spelled Put (k ∷ []) e = absurd (false≢true (and_parts (is_key_word k) false e).1)
spelled Put (k ∷ v ∷ more) e =
    let p = and_parts (is_key_word k) (has_value v && true) e in
    and_from _ _ (key-text k p.0) (value-text v (and_parts (has_value v) true p.1).0)
spelled Get [] e = absurd (false≢true e)
spelled Get (k ∷ more) e = key-text k (and_parts (is_key_word k) true e).0
spelled Del [] e = absurd (false≢true e)
spelled Del (k ∷ more) e = key-text k (and_parts (is_key_word k) true e).0
spelled Cas [] e = absurd (false≢true e)
spelled Cas (k ∷ []) e = absurd (false≢true (and_parts (is_key_word k) false e).1)
spelled Cas (k ∷ old ∷ []) e = absurd (false≢true (and_parts (has_choice old) false (and_parts (is_key_word k) (has_choice old && false) e).1).1)
spelled Cas (k ∷ old ∷ new ∷ more) e =
    let p = and_parts (is_key_word k) (has_choice old && (has_choice new && true)) e in
    let q = and_parts (has_choice old) (has_choice new && true) p.1 in
    and_from _ _ (and_from _ _ (key-text k p.0) (choice-text old q.0)) (choice-text new (and_parts (has_choice new) true q.1).0)

-- a command whose key and values are in range can be spelled
pub command_is_valid : (ask : Ask) (words : List Word) → all_within (ask_shape_of ask).forms words ≡ true → IsValidCommand (command_asked ask words)
command_is_valid ask words e = (validity_is (command_asked ask words)).0 (spelled ask words e)

last_passed : (k a b c : Bool)
    → cond (not k) (Some kind.Syntax) (cond (not a) (Some kind.Order) (cond (not b) (Some kind.Name) (cond (not c) (Some kind.Limit) None))) ≡ None
    → c ≡ true
last_passed k a b true e = refl
last_passed true true true false e = absurd cc
last_passed true true false false e = absurd cc
last_passed true false b false e = absurd cc
last_passed false a b false e = absurd cc

-- a line with nothing wrong is within the limits
pub passed : (d : Draft) (line : Line) → fault_of d line ≡ None → within_limits d line ≡ true
passed d line e = last_passed _ _ _ _ e

pub passed_forms : (d : Draft) (line : Line) → fault_of d line ≡ None → all_within (forms_of line.verb) line.words ≡ true
passed_forms d line e =
    (and_parts (all_within (forms_of line.verb) line.words) (is_span line.verb line.words)
    (and_parts (all_within (forms_of line.verb) line.words && is_span line.verb line.words) (has_room_for_line d line.verb) (passed d line e)).0).0

pub passed_room : (d : Draft) (line : Line) → fault_of d line ≡ None → has_room_for_line d line.verb ≡ true
passed_room d line e =
    (and_parts (all_within (forms_of line.verb) line.words && is_span line.verb line.words) (has_room_for_line d line.verb) (passed d line e)).1
