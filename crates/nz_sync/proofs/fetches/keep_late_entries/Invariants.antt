-- What the loops of the function of this folder keep.
use Rattle.std.proofs.Common.{◌≡◌, drop}
use Rattle.nz_machine.specs.rules.LogMods.{with_late_entries}
use Rattle.nz_sync.proofs.fetches.keep_late_entries.Given as goal

-- the entries that are left lead to the end
abbrev pub invariant-loop-entry : goal.invariant-loop-entry
invariant-loop-entry l = record {
  size : l.state.f ≡ l.initial.state.f;
  number : l.state.me ≡ l.initial.state.me;
  state : with_late_entries l.state.state (drop l.entry-index l.entries) ≡ with_late_entries l.initial.state.state l.entries;
}
