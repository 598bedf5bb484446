-- What the loops of the function of this folder keep.
use Rattle.std.proofs.Common.{◌≡◌, map, take}
use Rattle.std.specs.HashMap.{get}
use Rattle.nz_base.specs.Key.{id_eq}
use Rattle.nz_quiet.specs.Pace.{timed, pace_by, requests_sent}
use Rattle.nz_quiet.proofs.pace.paces_of.Given as goal

abbrev pub invariant-loop-next : goal.invariant-loop-next
invariant-loop-next l = l.paces ≡ map (pace_by (get id_eq l.accepted)) (requests_sent (timed (take l.next-index l.events)))
