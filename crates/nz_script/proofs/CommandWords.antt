-- The words of a command, one sort at a time, and that a command that was read can be spelled.
use Rattle.std.proofs.Common.{◌≡◌, ℕ, Bool, true, false, cond, not, List, [], ◌∷◌, Option, Some, None, refl, sym, ap, subst, ◌∙◌}
use Rattle.std.specs.Prelude.{◌&&◌, codes, IfSome}
use Rattle.std.specs.Option.{option_map}
use Rattle.std.specs.Str.{bytes_eq}
use Rattle.std.proofs.lemmas.Option.{none-some, same_Some}
use Rattle.nz_store.specs.declared.command.Command.{Command}
use Rattle.nz_store.specs.declared.command.Command.TheVariants as command
use Rattle.nz_store.specs.Grammar.{IsValidCommand}
use Rattle.nz_store.specs.Reading.{is_text, is_key_text, is_value_text}
use Rattle.nz_script.specs.declared.line_forms.Ask.{Ask}
use Rattle.nz_script.specs.declared.line_forms.Ask.TheVariants.{Put, Get, Del, Cas}
use Rattle.nz_script.specs.declared.line_forms.Verb.{Verb}
use Rattle.nz_script.specs.declared.word.Word.{Word}
use Rattle.nz_script.specs.Shapes.{verb_of, ask_shape_of}
use Rattle.nz_script.specs.Forms.{choice_as, choice_word, ◌>>=◌}
use Rattle.nz_script.specs.Drafts.{has_choice, all_within, command_asked}
use Rattle.nz_script.specs.Commands.{fits_first, ask_of_verb, command_of_sort, command_first}
use Rattle.nz_script.proofs.LineTests.{command_is_valid}

-- ---- the sorts

one_test : {D : Type 0} (k : Bool) (x : Option D) → cond (k && true) x None ≡ cond k x None
one_test true x = refl
one_test false x = refl

two_tests : {D : Type 0} (k v : Bool) (x : Option D) → cond (k && (v && true)) x None ≡ cond (k && v) x None
two_tests true v x = one_test v x
two_tests false v x = refl

three_tests : {D : Type 0} (k a b : Bool) (x : Option D) → cond (k && (a && (b && true))) x None ≡ cond ((k && a) && b) x None
three_tests true true b x = one_test b x
three_tests true false b x = refl
three_tests false a b x = refl

never_passed : {D : Type 0} (k t : Bool) (x : Option D) → None ≡ cond (k && (t && false)) x None
never_passed true true x = refl
never_passed true false x = refl
never_passed false t x = refl

pub put_is : (key value : List ℕ) (more : List (List ℕ))
    → command_of_sort Put (key ∷ value ∷ more) ≡ cond (is_key_text key && is_value_text value) (Some (command.Put key value, more)) None
put_is key value more =
    let found : Option (Command × List (List ℕ)) = Some (command.Put key value, more) in
    elim (bytes_eq value (codes "-")) as
    (λ (b : Bool). bytes_eq value (codes "-") ≡ b → command_of_sort Put (key ∷ value ∷ more)
    ≡ cond (is_key_text key && is_value_text value) (Some (command.Put key value, more)) None) [
      | true ↦ λ is. rw is (never_passed (is_key_text key) (is_text 256 value) found)
      | false ↦ λ is.
          rw is (two_tests (is_key_text key) (is_value_text value) found
          ∙ ap (λ (b : Bool). cond (is_key_text key && (is_text 256 value && not b)) found None) is)
    ] refl

pub get_is : (key : List ℕ) (more : List (List ℕ))
    → command_of_sort Get (key ∷ more) ≡ cond (is_key_text key) (Some (command.Get key, more)) None
get_is key more = one_test (is_key_text key) (Some (command.Get key, more))

pub del_is : (key : List ℕ) (more : List (List ℕ))
    → command_of_sort Del (key ∷ more) ≡ cond (is_key_text key) (Some (command.Del key, more)) None
del_is key more = one_test (is_key_text key) (Some (command.Del key, more))

pub cas_is : (key old new : List ℕ) (more : List (List ℕ))
    → command_of_sort Cas (key ∷ old ∷ new ∷ more)
    ≡ cond ((is_key_text key && has_choice (choice_word old)) && has_choice (choice_word new))
    (Some (command.Cas key (choice_as (Some (choice_word old))) (choice_as (Some (choice_word new))), more)) None
cas_is key old new more =
    three_tests (is_key_text key) (has_choice (choice_word old)) (has_choice (choice_word new))
    (Some (command.Cas key (choice_as (Some (choice_word old))) (choice_as (Some (choice_word new))), more))

-- ---- what was read can be spelled

when_within : (ask : Ask) (words : List Word) (rest : List (List ℕ)) (found : Command × List (List ℕ)) (b : Bool)
    → all_within (ask_shape_of ask).forms words ≡ b → cond b (Some (command_asked ask words, rest)) None ≡ Some found → IsValidCommand found.0
when_within ask words rest found true within e =
    subst (λ (f : Command × List (List ℕ)). IsValidCommand f.0) (same_Some (command_asked ask words, rest) found e) (command_is_valid ask words within)
when_within ask words rest found false within e = absurd (none-some found e)

when_fit : (ask : Ask) (first : Option (List Word × List (List ℕ))) (found : Command × List (List ℕ))
    → (first >>= λ x. cond (all_within (ask_shape_of ask).forms x.0) (Some (command_asked ask x.0, x.1)) None) ≡ Some found → IsValidCommand found.0
when_fit ask None found e = absurd (none-some found e)
when_fit ask (Some x) found e = when_within ask x.0 x.1 found (all_within (ask_shape_of ask).forms x.0) refl e

when_asked : (ask : Option Ask) (words : List (List ℕ)) (found : Command × List (List ℕ))
    → (ask >>= λ a. command_of_sort a words) ≡ Some found → IsValidCommand found.0
when_asked None words found e = absurd (none-some found e)
when_asked (Some a) words found e = when_fit a (fits_first (ask_shape_of a).forms words) found e

when_verb : (verb : Option Verb) (words : List (List ℕ)) (found : Command × List (List ℕ))
    → (verb >>= λ v. ask_of_verb v >>= λ a. command_of_sort a words) ≡ Some found → IsValidCommand found.0
when_verb None words found e = absurd (none-some found e)
when_verb (Some v) words found e = when_asked (ask_of_verb v) words found e

first_is_valid : (words : List (List ℕ)) (found : Command × List (List ℕ)) → command_first words ≡ Some found → IsValidCommand found.0
unfolding command_first
first_is_valid [] found e = absurd (none-some found e)
first_is_valid (first ∷ more) found e = when_verb (verb_of first) more found e

-- a command that was read has a spelling, lent or not
pub lent_is_valid : {A : Type 0} (f : A → Command × List (List ℕ)) (o : Option A) (words : List (List ℕ))
    → option_map f o ≡ command_first words → IfSome o (λ a. IsValidCommand (f a).0)
lent_is_valid f None words e = tt
lent_is_valid f (Some a) words e = first_is_valid words (f a) (sym e)
