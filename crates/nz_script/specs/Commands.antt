-- The command whose words come first among some words.
use Rattle.std.specs.Prelude.{ℕ, if◌then◌else◌, List, [], ◌∷◌, Option, Some, None}
use Rattle.nz_store.specs.declared.command.Command.{Command}
use Rattle.nz_script.specs.declared.line_forms.Ask.{Ask}
use Rattle.nz_script.specs.declared.line_forms.Form.{Form}
use Rattle.nz_script.specs.declared.line_forms.Verb.{Verb}
use Rattle.nz_script.specs.declared.line_forms.Verb.TheVariants as verb
use Rattle.nz_script.specs.declared.word.Word.{Word}
use Rattle.nz_script.specs.Shapes.{verb_of, ask_shape_of}
use Rattle.nz_script.specs.Forms.{word_of, ◌>>=◌}
use Rattle.nz_script.specs.Drafts.{all_within, command_asked}

-- What the first words mean, where each has its form, and the words after them.
abbrev pub fits_first : List Form → List (List ℕ) → Option (List Word × List (List ℕ))
fits_first [] more = Some ([], more)
fits_first (form ∷ forms) [] = None
fits_first (form ∷ forms) (bytes ∷ more) = word_of form bytes >>= λ word. fits_first forms more >>= λ x. Some (word ∷ x.0, x.1)

-- The command word that a first word is, if it is one.
abbrev pub ask_of_verb : Verb → Option Ask
ask_of_verb (verb.Ask ask) = Some ask
ask_of_verb _ = None

-- A command of this sort, with its key and its values in range, and the words after it.
abbrev pub command_of_sort : Ask → List (List ℕ) → Option (Command × List (List ℕ))
command_of_sort ask words =
    fits_first (ask_shape_of ask).forms words >>= λ x. if all_within (ask_shape_of ask).forms x.0 then Some (command_asked ask x.0, x.1) else None

-- The command whose words come first, and the words after it.
unfoldable pub command_first : List (List ℕ) → Option (Command × List (List ℕ))
command_first [] = None
command_first (first ∷ more) = verb_of first >>= λ verb. ask_of_verb verb >>= λ ask. command_of_sort ask more
