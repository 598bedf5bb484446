-- What the loops of the function of this folder keep.
use Rattle.std.proofs.Common.{◌≡◌, take}
use Rattle.nz_audit.specs.Prefixes.{all_traced}
use Rattle.nz_audit.proofs.accepted.tracing.with_sources.Given as goal

abbrev pub invariant-loop-answer : goal.invariant-loop-answer
invariant-loop-answer l = l.found.items ≡ all_traced l.journal (take l.answer-index l.answers)
