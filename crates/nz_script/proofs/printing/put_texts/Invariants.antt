-- What the loops of the function of this folder keep.
use Rattle.std.proofs.Common.{◌≡◌, ◌++◌, drop, map}
use Rattle.nz_script.specs.Texts.{words_text}
use Rattle.nz_script.specs.declared.word.Word.TheVariants.{Text}
use Rattle.nz_script.proofs.printing.put_texts.Given as goal

-- what was written, and the words that are left after it
abbrev pub invariant-loop-word : goal.invariant-loop-word
invariant-loop-word l =
    l.out.items ++ words_text (map (λ w. Text w.now) (drop l.word-index l.words)) ≡ l.fn.out.items ++ words_text (map (λ w. Text w.now) l.words)
