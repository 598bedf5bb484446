-- What the loops of the function of this folder keep.
use Rattle.std.proofs.Common.{◌≡◌, take, drop}
use Rattle.std.specs.List.{filter}
use Rattle.nz_log.specs.Synced.{is_displaced}
use Rattle.nz_log.proofs.pages.Pages.displaced_by.Given as goal

abbrev pub invariant-loop-place : goal.invariant-loop-place
invariant-loop-place l = l.list ≡ filter (is_displaced l.key) (drop l.from (take l.place l.self))
