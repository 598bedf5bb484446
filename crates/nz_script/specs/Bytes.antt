-- Lines, words and numbers in a list of bytes.
use Rattle.std.specs.Prelude.{ℕ, ◌+◌, ◌-◌, ◌*◌, ◌≢◌, Bool, true, not, ◌&&◌, ◌==◌, nat_le, if◌then◌else◌, List, [], ◌∷◌, length, Option, Some, None}
use Rattle.std.specs.Char.{is_ascii_digit}
use Rattle.std.specs.List.{list_any, list_all, AllByRecursion}

-- The byte between two words.
abbrev pub space : ℕ
space = 32

-- The newline after each line.
abbrev pub newline : ℕ
newline = 10

-- The byte `-`.
abbrev pub minus : ℕ
minus = 45

-- No byte of the list is this one.
abbrev pub Lacks : ℕ → List ℕ → Type 0
Lacks byte bytes = AllByRecursion (λ b. b ≢ byte) bytes

-- The byte put before the first piece, if there is one.
abbrev pub with_byte_before : ℕ → Option (List ℕ × List ℕ) → Option (List ℕ × List ℕ)
with_byte_before x None = None
with_byte_before x (Some parts) = Some (x ∷ parts.0, parts.1)

-- What is before and after the first such byte.
abbrev pub cut : ℕ → List ℕ → Option (List ℕ × List ℕ)
cut at [] = None
cut at (x ∷ xs) = if x == at then Some ([], xs) else with_byte_before x (cut at xs)

-- The byte put before the first piece, if there is one.
abbrev pub onto_first : ℕ → List (List ℕ) → List (List ℕ)
onto_first x [] = []
onto_first x (piece ∷ pieces) = (x ∷ piece) ∷ pieces

-- The lines that end with a newline, each without it.
abbrev pub lines_in : List ℕ → List (List ℕ)
lines_in [] = []
lines_in (x ∷ xs) = if x == newline then [] ∷ lines_in xs else onto_first x (lines_in xs)

-- What follows the last newline.
abbrev pub tail_in : List ℕ → List ℕ
tail_in [] = []
tail_in (x ∷ xs) = if list_any (λ b. b == newline) (x ∷ xs) then tail_in xs else x ∷ xs

-- A word that came to these bytes has ended.
abbrev pub is_word_end : List ℕ → Bool
is_word_end [] = true
is_word_end (x ∷ xs) = x == space

-- What is between the spaces of a line.
abbrev pub words_in : List ℕ → List (List ℕ)
words_in [] = []
words_in (x ∷ xs) = if x == space then words_in xs else (if is_word_end xs then (x ∷ []) ∷ words_in xs else onto_first x (words_in xs))

-- A space, or a byte that can be in a word.
abbrev pub is_printed : ℕ → Bool
is_printed byte = nat_le 0x20 byte && nat_le byte 0x7e

-- The number that goes on from this one with these digits.
abbrev pub read_on : ℕ → List ℕ → ℕ
read_on n [] = n
read_on n (digit ∷ digits) = read_on (10 * n + (digit - 48)) digits

-- The first digit of more than one is not `0`.
abbrev pub is_without_leading_zero : List ℕ → Bool
is_without_leading_zero [] = true
is_without_leading_zero (digit ∷ []) = true
is_without_leading_zero (digit ∷ next ∷ digits) = not (digit == 48)

-- 1 to 19 digits, the first not `0` unless it is alone.
abbrev pub is_numeral : List ℕ → Bool
is_numeral word = (nat_le 1 (length word) && nat_le (length word) 19) && (list_all is_ascii_digit word && is_without_leading_zero word)

-- The number that a word is the numeral of.
unfoldable pub number_of : List ℕ → Option ℕ
number_of word = if is_numeral word then Some (read_on 0 word) else None
