-- The shape of a line: what the bytes of a line are, by the table.
use Rattle.std.specs.Prelude.{ℕ, if◌then◌else◌, List, [], ◌∷◌, Option, Some, None}
use Rattle.std.specs.List.{list_all}
use Rattle.nz_script.specs.declared.line_forms.Form.{Form}
use Rattle.nz_script.specs.declared.line_forms.Verb.{Verb}
use Rattle.nz_script.specs.declared.word.Word.{Word}
use Rattle.nz_script.specs.declared.line.Line.{Line}
use Rattle.nz_script.specs.Bytes.{is_printed, words_in}
use Rattle.nz_script.specs.Shapes.{verb_of, forms_of}
use Rattle.nz_script.specs.Forms.{word_of, ◌>>=◌}

-- What the words mean, where each has its form and none is missing or too many.
abbrev pub fits : List Form → List (List ℕ) → Option (List Word)
fits [] [] = Some []
fits [] (bytes ∷ more) = None
fits (form ∷ forms) [] = None
fits (form ∷ forms) (bytes ∷ more) = word_of form bytes >>= λ word. fits forms more >>= λ words. Some (word ∷ words)

-- A line of this sort with these words.
abbrev pub a_line : Verb → List Word → Line
a_line verb words = record { verb = verb; words = words }

-- The words after the first, which gives the sort.
abbrev pub line_from : List (List ℕ) → Option Line
line_from [] = None
line_from (first ∷ more) = verb_of first >>= λ verb. fits (forms_of verb) more >>= λ words. Some (a_line verb words)

-- What the bytes of a line are: None where they have no shape of the table.
unfoldable pub line_of : List ℕ → Option Line
line_of bytes = if list_all is_printed bytes then line_from (words_in bytes) else None
