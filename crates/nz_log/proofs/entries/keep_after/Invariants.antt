-- What the loops of the function of this folder keep.
use Rattle.std.proofs.Common.{◌≡◌, ◌≤◌, ◌-◌, ◌++◌, take, drop, length}
use Rattle.std.specs.List.{filter}
use Rattle.nz_log.specs.Synced.{stays_after}
use Rattle.nz_log.proofs.entries.keep_after.Given as goal

-- what is before the place stays, and of the rest what passes
abbrev pub invariant-loop-place : goal.invariant-loop-place
invariant-loop-place l = record {
  within : l.place ≤ length l.entries.items;
  kept : take l.place l.entries.items ++ filter (stays_after l.key) (drop l.place l.entries.items)
      ≡ take l.from l.initial.entries.items ++ filter (stays_after l.key) (drop l.from l.initial.entries.items);
}

abbrev pub decreases-loop-place : goal.decreases-loop-place
decreases-loop-place l = length l.entries.items - l.place
