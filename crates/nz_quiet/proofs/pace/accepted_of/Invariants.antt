-- What the loops of the function of this folder keep.
use Rattle.std.proofs.Common.{◌≡◌, take}
use Rattle.std.specs.HashMap.{get}
use Rattle.nz_base.specs.Key.{id_eq}
use Rattle.nz_base.specs.declared.key.Id.{Id}
use Rattle.nz_quiet.specs.Pace.{timed, tick_accepted, requests_accepted}
use Rattle.nz_quiet.proofs.pace.accepted_of.Given as goal

abbrev pub invariant-loop-next : goal.invariant-loop-next
invariant-loop-next l = (id : Id) → get id_eq l.accepted id ≡ tick_accepted (requests_accepted (timed (take l.next-index l.events))) id
