-- What the loops of the function of this folder keep.
use Rattle.std.proofs.Common.{◌≡◌, ◌≤◌, ◌+◌, length, take}
use Rattle.indexmap.specs.IndexMap.{get, spare}
use Rattle.nz_base.specs.declared.key.Id.{Id}
use Rattle.nz_base.specs.Key.{id_eq}
use Rattle.nz_log.specs.Places.{place_of}
use Rattle.nz_log.proofs.index.set_places.Given as goal

-- the ids up to here are known, and there is room for the others
abbrev pub invariant-loop-place : goal.invariant-loop-place
invariant-loop-place l = record {
  known : (i : Id) → get id_eq l.places i ≡ place_of (take l.place l.entries) i;
  room : length l.entries ≤ l.place + spare l.places;
}
