-- What the loops of the function of this folder keep.
use Rattle.std.proofs.Common.{◌≡◌, take}
use Rattle.nz_log.specs.Synced.{left_out}
use Rattle.nz_machine.proofs.adopting.drop_ids.Given as goal

abbrev pub invariant-loop-entry : goal.invariant-loop-entry
invariant-loop-entry l = record {
  early : l.early ≡ left_out l.initial.early (take l.entry-index l.list);
  late : l.late ≡ left_out l.initial.late (take l.entry-index l.list);
}
