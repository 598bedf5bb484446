-- What the loops of the function of this folder keep.
use Rattle.std.proofs.Common.{◌≡◌, drop}
use Rattle.nz_script.specs.Shapes.{verb_in}
use Rattle.nz_script.proofs.line_forms.verb_in.Given as goal

abbrev pub invariant-loop-verb : goal.invariant-loop-verb
invariant-loop-verb l = verb_in (drop l.verb-index l.verbs) l.word ≡ verb_in l.verbs l.word
