-- A command whose words are written is read again.
use Rattle.std.proofs.Common.{◌≡◌, ℕ, Bool, true, cond, List, [], ◌∷◌, ◌++◌, map, Option, Some, None, refl, ap, ◌∙◌}
use Rattle.std.specs.Prelude.{◌&&◌}
use Rattle.std.proofs.lemmas.Bool.{and_from, and_parts}
use Rattle.nz_store.specs.declared.command.Command.{Command}
use Rattle.nz_store.specs.declared.command.Command.TheVariants as command
use Rattle.nz_store.specs.Reading.{is_key_text, is_value_text, is_choice_text, has_spelling}
use Rattle.nz_script.specs.declared.line_forms.Ask.{Ask}
use Rattle.nz_script.specs.declared.line_forms.Ask.TheVariants.{Put, Get, Del, Cas}
use Rattle.nz_script.specs.declared.line_forms.Form.{Form}
use Rattle.nz_script.specs.declared.line_forms.Verb.{Verb}
use Rattle.nz_script.specs.declared.line_forms.Verb.TheVariants as verb
use Rattle.nz_script.specs.declared.word.Word.{Word}
use Rattle.nz_script.specs.declared.word.Word.TheVariants as word
use Rattle.nz_script.specs.Shapes.{verb_word, ask_shape_of}
use Rattle.nz_script.specs.Forms.{◌>>=◌, choice_as}
use Rattle.nz_script.specs.Lines.{a_line}
use Rattle.nz_script.specs.Drafts.{all_within, command_asked}
use Rattle.nz_script.specs.Texts.{word_text, choice_of, command_line}
use Rattle.nz_script.specs.Commands.{fits_first, ask_of_verb, command_of_sort, command_first}
use Rattle.nz_script.proofs.Readable.{key_read, value_read}
use Rattle.nz_script.proofs.ReadAgain.{AreReadAs, first_word}
use Rattle.nz_script.proofs.Blocks.{choice_again, choice_is_read, choice_within}

-- the words of a command's line
abbrev pub command_words : Command → List (List ℕ)
command_words c = verb_word (command_line c).verb ∷ map word_text (command_line c).words

first_again : (forms : List Form) (words : List Word) (more : List (List ℕ)) → AreReadAs forms words
    → fits_first forms (map word_text words ++ more) ≡ Some (words, more)
first_again [] [] more r = refl
first_again [] (v ∷ vs) more r = absurd r
first_again (f ∷ fs) [] more r = absurd r
first_again (f ∷ fs) (v ∷ vs) more r =
    ap (λ (o : Option Word). o >>= λ w. fits_first fs (map word_text vs ++ more) >>= λ x. Some (w ∷ x.0, x.1)) r.0.read
    ∙ ap (λ (o : Option (List Word × List (List ℕ))). o >>= λ x. Some (v ∷ x.0, x.1)) (first_again fs vs more r.1)

-- the command's line is this one, and is read as it
pub record IsAskedBy (c : Command) : Type 0 where
  pub ask : Ask
  pub words : List Word
  pub line : command_line c ≡ a_line (verb.Ask ask) words
  pub read : AreReadAs (ask_shape_of ask).forms words
  pub within : all_within (ask_shape_of ask).forms words ≡ true
  pub means : command_asked ask words ≡ c

cas_again : (key : List ℕ) (old new : Option (List ℕ)) → command_asked Cas (word.Text key ∷ choice_of old ∷ choice_of new ∷ []) ≡ command.Cas key old new
cas_again key old new =
    ap (λ (o : Option (List ℕ)). command.Cas key o (choice_as (Some (choice_of new)))) (choice_again old) ∙ ap (command.Cas key old) (choice_again new)

pub asked_by : (c : Command) → has_spelling c ≡ true → IsAskedBy c
asked_by (command.Put key value) e =
    let p = and_parts (is_key_text key) (is_value_text value) e in
    record {
      ask = Put;
      words = word.Text key ∷ word.Text value ∷ [];
      line = refl;
      read = (key_read key p.0, (value_read value p.1, tt));
      within = and_from _ _ p.0 (and_from _ _ p.1 refl);
      means = refl;
    }
asked_by (command.Get key) e =
    record { ask = Get; words = word.Text key ∷ []; line = refl; read = (key_read key e, tt); within = and_from _ _ e refl; means = refl }
asked_by (command.Del key) e =
    record { ask = Del; words = word.Text key ∷ []; line = refl; read = (key_read key e, tt); within = and_from _ _ e refl; means = refl }
asked_by (command.Cas key old new) e =
    let p = and_parts (is_key_text key && is_choice_text old) (is_choice_text new) e in
    let q = and_parts (is_key_text key) (is_choice_text old) p.0 in
    record {
      ask = Cas;
      words = word.Text key ∷ choice_of old ∷ choice_of new ∷ [];
      line = refl;
      read = (key_read key q.0, (choice_is_read old q.1, (choice_is_read new p.1, tt)));
      within = and_from _ _ q.0 (and_from _ _ (choice_within old q.1) (and_from _ _ (choice_within new p.1) refl));
      means = cas_again key old new;
    }

sort_again : (c : Command) (h : IsAskedBy c) (more : List (List ℕ)) → command_of_sort h.ask (map word_text h.words ++ more) ≡ Some (c, more)
sort_again c h more =
    ap (λ (o : Option (List Word × List (List ℕ))). o >>= λ x. cond (all_within (ask_shape_of h.ask).forms x.0)
    (Some (command_asked h.ask x.0, x.1)) None) (first_again (ask_shape_of h.ask).forms h.words more h.read)
    ∙ ap (λ (b : Bool). cond b (Some (command_asked h.ask h.words, more)) None) h.within ∙ ap (λ (d : Command). Some (d, more)) h.means

words_first_again : (c : Command) (h : IsAskedBy c) (more : List (List ℕ))
    → command_first (verb_word (verb.Ask h.ask) ∷ (map word_text h.words ++ more)) ≡ Some (c, more)
unfolding command_first
words_first_again c h more =
    ap (λ (o : Option Verb). o >>= λ v. ask_of_verb v >>= λ a. command_of_sort a (map word_text h.words ++ more))
    (first_word (verb.Ask h.ask)).again ∙ sort_again c h more

pub command_again : (c : Command) (more : List (List ℕ)) → has_spelling c ≡ true → command_first (command_words c ++ more) ≡ Some (c, more)
command_again c more e =
    let h = asked_by c e in
    ap (λ l. command_first (verb_word l.verb ∷ (map word_text l.words ++ more))) h.line ∙ words_first_again c h more
