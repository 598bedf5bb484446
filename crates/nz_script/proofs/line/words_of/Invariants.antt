-- What the loops of the function of this folder keep.
use Rattle.std.proofs.Common.{◌≡◌, ◌++◌, drop, List}
use Rattle.std.specs.Option.{option_map}
use Rattle.nz_script.specs.declared.word.Word.{Word}
use Rattle.nz_script.specs.Bytes.{words_in}
use Rattle.nz_script.specs.Lines.{fits}
use Rattle.nz_script.proofs.line.words_of.Given as goal

-- what was read so far, and what the rest means after it
abbrev pub invariant-loop-form : goal.invariant-loop-form
invariant-loop-form l = option_map (λ (more : List Word). l.words ++ more) (fits (drop l.form-index l.forms) (words_in l.rest)) ≡ fits l.forms (words_in l.line)
