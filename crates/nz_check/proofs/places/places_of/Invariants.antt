-- What the loops of the function of this folder keep.
use Rattle.std.proofs.Common.{◌≡◌, drop}
use Rattle.indexmap.specs.IndexMap.{get}
use Rattle.nz_base.specs.declared.key.Id.{Id}
use Rattle.nz_base.specs.Key.{id_eq}
use Rattle.nz_check.specs.Noting.{first_place}
use Rattle.nz_check.proofs.places.places_of.Given as goal

-- the first places among the entries from here on
abbrev pub invariant-loop-place : goal.invariant-loop-place
invariant-loop-place l = (i : Id) → get id_eq l.places i ≡ first_place l.place i (drop l.place l.history)
