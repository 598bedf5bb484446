-- How the words of a line are read.
use Rattle.std.proofs.Common.{◌≡◌, ℕ, zero, suc, ◌<◌, List, [], ◌∷◌, ◌++◌, None, refl, sym, ap, ◌∙◌, arith, length, drop}
use Rattle.std.specs.Option.{option_map}
use Rattle.nz_script.specs.declared.line_forms.Form.{Form}
use Rattle.nz_script.specs.declared.word.Word.{Word}
use Rattle.nz_script.specs.Lines.{fits}

fits-short : (forms : List Form) (i : ℕ) → i < length forms → fits (drop i forms) [] ≡ None
fits-short [] i lt = absurd (omega (arith, lt))
fits-short (f ∷ fs) zero lt = refl
fits-short (f ∷ fs) (suc i) lt = fits-short fs i (omega (arith, lt))

-- a line that lacks a word does not fit
pub word_lacking : (forms : List Form) (i : ℕ) (rest whole : List (List ℕ)) (prefix : List Word) → i < length forms → rest ≡ []
    → option_map (λ (more : List Word). prefix ++ more) (fits (drop i forms) rest) ≡ fits forms whole → None ≡ fits forms whole
word_lacking forms i rest whole prefix lt e inv =
    sym (ap (option_map (λ (more : List Word). prefix ++ more)) (ap (fits (drop i forms)) e ∙ fits-short forms i lt)) ∙ inv
