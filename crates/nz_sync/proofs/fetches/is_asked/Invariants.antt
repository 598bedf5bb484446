-- What the loops of the function of this folder keep.
use Rattle.std.proofs.Common.{◌≡◌, false, take}
use Rattle.nz_machine.specs.rules.LogMods.{is_asked}
use Rattle.nz_sync.proofs.fetches.is_asked.Given as goal

abbrev pub invariant-loop-id : goal.invariant-loop-id
invariant-loop-id l = is_asked (take l.id-index l.ids) l.entry ≡ false
