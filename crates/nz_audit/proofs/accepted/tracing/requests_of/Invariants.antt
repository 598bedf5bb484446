-- What the loops of the function of this folder keep.
use Rattle.std.proofs.Common.{◌≡◌, take}
use Rattle.std.specs.List.{list_any}
use Rattle.std.specs.HashSet.{contains}
use Rattle.nz_base.specs.Key.{id_eq}
use Rattle.nz_base.specs.declared.key.Id.{Id}
use Rattle.nz_audit.specs.Prefixes.{is_to}
use Rattle.nz_audit.proofs.accepted.tracing.requests_of.Given as goal

abbrev pub invariant-loop-answer : goal.invariant-loop-answer
invariant-loop-answer l = (id : Id) → contains id_eq l.ids id ≡ list_any (is_to id) (take l.answer-index l.answers)
