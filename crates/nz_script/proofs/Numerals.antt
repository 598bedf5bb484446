-- Numerals, and the numbers that they are of.
use Rattle.std.proofs.Common.{◌≡◌, ℕ, ◌<◌, ◌≤◌, true, List, [], ◌∷◌, length, refl, sym, ◌∙◌, arith, rules, Result, Ok}
use Rattle.std.specs.Str.{all_ascii_digits, IsUtf8}
use Rattle.std.specs.List.{list_all, AllByRecursion}
use Rattle.std.specs.Char.{is_ascii_digit}
use Rattle.std.specs.Str.Parse.{ParsesUnsigned}
use Rattle.std.proofs.lemmas.Str.{IsUtf8-from_ascii}
use Rattle.std.proofs.lemmas.Str.Ascii.{IsAscii-from_all}
use Rattle.std.proofs.lemmas.List.Elements.{All-from_recursion}
use Rattle.std.proofs.lemmas.Str.Parse.{IsNumeralModel, numerals_by_fold, parse_gives, digits_value_short}
use Rattle.nz_script.specs.Bytes.{read_on, is_numeral}

-- The reading digit by digit is std's model of a numeral.
pub own : IsNumeralModel (λ ds. all_ascii_digits ds ≡ true) (read_on 0)
own = numerals_by_fold _ (search rules) read_on (search rules)

pub all-digits : (l : List ℕ) → list_all is_ascii_digit l ≡ all_ascii_digits l
all-digits [] = refl
all-digits (d ∷ ds) = let ih = all-digits ds in grind (arith, ih)

digits_are_ascii : (l : List ℕ) → list_all is_ascii_digit l ≡ true → AllByRecursion (λ b. b < 128) l
digits_are_ascii [] e = tt
digits_are_ascii (d ∷ ds) e = (grind (arith, e), digits_are_ascii ds (grind (arith, e)))

-- the parts of the test
pub record IsNumeralWord (word : List ℕ) : Type 0 where
  pub some : 1 ≤ length word
  pub short : length word ≤ 19
  pub digits : list_all is_ascii_digit word ≡ true

pub numeral_parts : (word : List ℕ) → is_numeral word ≡ true → IsNumeralWord word
numeral_parts word e = record { some = grind (arith, e); short = grind (arith, e); digits = grind (arith, e) }

pub numeral_is_utf8 : (word : List ℕ) → is_numeral word ≡ true → IsUtf8 word
numeral_is_utf8 word e =
    IsUtf8-from_ascii word (IsAscii-from_all word (All-from_recursion (λ b. b < 128) word (digits_are_ascii word (numeral_parts word e).digits)))

-- std's parser gives the number that a numeral is.
pub parsed : {E : Type 0} (word : List ℕ) (r : Result ℕ E) → is_numeral word ≡ true → ParsesUnsigned 64 10 word r → r ≡ Ok (read_on 0 word)
parsed word r e h =
    let n = numeral_parts word e in
    let digits = sym (all-digits word) ∙ n.digits in
    let small = digits_value_short own word 19 digits n.short in
    parse_gives own 64 word r h digits n.some (omega (arith, small))
