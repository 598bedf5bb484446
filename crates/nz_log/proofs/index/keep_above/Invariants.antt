-- What the loops of the function of this folder keep.
use Rattle.std.proofs.Common.{◌≡◌, ◌≤◌, ◌++◌, length, take, drop, filter}
use Rattle.indexmap.specs.IndexMap.{get}
use Rattle.nz_base.specs.Key.{id_eq}
use Rattle.nz_log.specs.Synced.{stays_after}
use Rattle.nz_log.specs.Keeping.{IsMidway}
use Rattle.nz_log.proofs.index.keep_above.Given as goal

-- the first entries have their places, and those from here on are still to come
abbrev pub invariant-loop-place : goal.invariant-loop-place
invariant-loop-place l = record {
  down : l.kept ≤ l.place;
  long : length l.entries ≡ length l.fn.entries;
  same : take l.kept l.entries ++ filter (stays_after l.key) (drop l.place l.entries)
      ≡ take l.from l.fn.entries ++ filter (stays_after l.key) (drop l.from l.fn.entries);
  midway : IsMidway l.key (take l.kept l.entries) (drop l.place l.entries) (get id_eq l.places);
}
