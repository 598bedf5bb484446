-- What the words of a line mean.
use Rattle.std.specs.Prelude.{ℕ, Bool, true, false, nat_le, ◌==◌, if◌then◌else◌, List, [], ◌∷◌, Option, Some, None, codes, ℤ, pos, neg_ℤ, slice_get}
use Rattle.std.specs.Str.{bytes_eq}
use Rattle.nz_base.specs.declared.actor.Actor.{Actor}
use Rattle.nz_base.specs.declared.actor.Actor.TheVariants as actor
use Rattle.nz_script.specs.declared.line_forms.Form.{Form}
use Rattle.nz_script.specs.declared.line_forms.Form.TheVariants as form
use Rattle.nz_script.specs.declared.word.Word.{Word}
use Rattle.nz_script.specs.declared.word.Word.TheVariants.{Number, Units, Named, Everyone, Kind, Text, Nothing}
use Rattle.nz_script.specs.Bytes.{minus, number_of}
use Rattle.nz_script.specs.Messages.{kind_named}

-- The first answer, handed on to the next question.
infixl 10 ◌>>=◌
abbrev pub ◌>>=◌ : {A B : Type 0} → Option A → (A → Option B) → Option B
(Some x) >>= f = f x
None >>= f = None

-- The sort that a letter names, and the number.
abbrev pub actor_of_letter : ℕ → ℕ → Option Actor
actor_of_letter letter n =
    if letter == 114 then Some (actor.Replica n)
    else (if letter == 112 then Some (actor.Proxy n)
    else (if letter == 99 then Some (actor.Client n) else None))

-- An actor is named by `r`, `p` or `c` and a number of one or two digits.
unfoldable pub actor_named : List ℕ → Option Actor
actor_named [] = None
actor_named (letter ∷ digits) = number_of digits >>= λ n. if nat_le n 99 then actor_of_letter letter n else None

-- A word as a number.
unfoldable pub number_word : List ℕ → Option Word
number_word word = number_of word >>= λ n. Some (Number n)

-- Clock units may have `-` before them.
unfoldable pub units_word : List ℕ → Option Word
units_word [] = None
units_word (byte ∷ bytes) =
    if byte == minus then (number_of bytes >>= λ n. Some (Units true n))
    else (number_of (byte ∷ bytes) >>= λ n. Some (Units false n))

-- A word as the name of an actor.
unfoldable pub actor_word : List ℕ → Option Word
actor_word word = actor_named word >>= λ a. Some (Named a)

-- `*` is every actor.
unfoldable pub actors_word : List ℕ → Option Word
actors_word word = if bytes_eq word (codes "*") then Some Everyone else actor_word word

-- No value is `-`.
abbrev pub value_word : List ℕ → Option Word
value_word word = if bytes_eq word (codes "-") then None else Some (Text word)

-- `-` is the choice of no value.
abbrev pub choice_word : List ℕ → Word
choice_word word = if bytes_eq word (codes "-") then Nothing else Text word

-- What a word means where a word of this form is expected.
abbrev pub word_of : Form → List ℕ → Option Word
word_of (form.Number least most) word = number_word word
word_of form.Units word = units_word word
word_of form.Actor word = actor_word word
word_of form.Actors word = actors_word word
word_of form.Server word = actor_word word
word_of form.Replica word = actor_word word
word_of form.Client word = actor_word word
word_of form.Kind word = Some (Kind (kind_named word))
word_of form.Key word = Some (Text word)
word_of form.Value word = value_word word
word_of form.Choice word = Some (choice_word word)

-- What is at a place of a line, and a first of its sort where nothing of that sort is.

-- The number that a word is, at most the most.
abbrev pub number_as : ℕ → Option Word → ℕ
number_as most (Some (Number n)) = if nat_le n most then n else most
number_as most _ = 0

-- A number as 32 bits hold it, the greatest of them for a greater one.
abbrev pub number_in : ℕ → List Word → ℕ
number_in place words = number_as 4294967295 (slice_get words place)

-- A number as 8 bits hold it, the greatest of them for a greater one.
abbrev pub byte_in : ℕ → List Word → ℕ
byte_in place words = number_as 255 (slice_get words place)

-- A number of units, below 0 where the clock is behind.
abbrev pub with_sign : Bool → ℕ → ℤ
with_sign back n = if back then neg_ℤ (pos n) else pos n

-- The skew that a word is.
abbrev pub units_as : Option Word → ℤ
units_as (Some (Units back n)) = if nat_le n 4611686018427387904 then with_sign back n else pos 0
units_as _ = pos 0

-- The skew in a place of the words.
abbrev pub units_in : ℕ → List Word → ℤ
units_in place words = units_as (slice_get words place)

-- The actor that a word names.
abbrev pub actor_as : Option Word → Actor
actor_as (Some (Named a)) = a
actor_as _ = actor.Replica 0

-- The actor in a place of the words.
abbrev pub actor_in : ℕ → List Word → Actor
actor_in place words = actor_as (slice_get words place)

-- The actor that a word names, or none where it is `*`.
abbrev pub actors_as : Option Word → Option Actor
actors_as (Some (Named a)) = Some a
actors_as _ = None

-- The same, in a place of the words.
abbrev pub actors_in : ℕ → List Word → Option Actor
actors_in place words = actors_as (slice_get words place)

-- The kind of message that a word names.
abbrev pub kind_as : Option Word → ℕ
kind_as (Some (Kind (Some kind))) = kind
kind_as _ = 0

-- The same, in a place of the words.
abbrev pub kind_in : ℕ → List Word → ℕ
kind_in place words = kind_as (slice_get words place)

-- The bytes of a word that is a key or a value.
abbrev pub text_as : Option Word → List ℕ
text_as (Some (Text text)) = text
text_as _ = []

-- The same, in a place of the words.
abbrev pub text_in : ℕ → List Word → List ℕ
text_in place words = text_as (slice_get words place)

-- The value that a word is, or none where it is `-`.
abbrev pub choice_as : Option Word → Option (List ℕ)
choice_as (Some (Text text)) = Some text
choice_as _ = None

-- The same, in a place of the words.
abbrev pub choice_in : ℕ → List Word → Option (List ℕ)
choice_in place words = choice_as (slice_get words place)
