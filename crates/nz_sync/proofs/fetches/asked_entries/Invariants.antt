-- What the loops of the function of this folder keep.
use Rattle.std.proofs.Common.{◌≡◌, take}
use Rattle.std.specs.List.{filter}
use Rattle.nz_machine.specs.rules.LogMods.{is_asked}
use Rattle.nz_sync.proofs.fetches.asked_entries.Given as goal

abbrev pub invariant-loop-place : goal.invariant-loop-place
invariant-loop-place l = l.entries ≡ filter (is_asked l.ids) (take l.place l.state.state.log.entries)
