-- What the function of this folder owes, proved.
use Rattle.std.proofs.Common.{◌+◌, drop, sym, ap, ◌∙◌}
use Rattle.nz_machine.specs.rules.Facts.{ReplicaModel}
use Rattle.nz_machine.specs.rules.LogMods.{with_late_entries}
use Rattle.nz_sync.proofs.Following.{next_kept, all_kept}
use Rattle.nz_sync.proofs.fetches.keep_late_entries.Goals as goal

pub loop-entry-preserved : goal.loop-entry-preserved
loop-entry-preserved c = record {
  size = ap (λ (v : ReplicaModel). v.f) c.in_ok-keep_late_entry.ensures ∙ c.loop-entry.invariant.size;
  number = ap (λ (v : ReplicaModel). v.me) c.in_ok-keep_late_entry.ensures ∙ c.loop-entry.invariant.number;
  state = ap (λ (v : ReplicaModel). with_late_entries v.state (drop (c.loop-entry.entry-index + 1) c.args.entries.now)) c.in_ok-keep_late_entry.ensures
      ∙ sym (next_kept c.loop-entry.state.state c.args.entries.now c.loop-entry.entry-index c.entry-item.result c.loop-entry-test.true c.entry-item.is)
      ∙ c.loop-entry.invariant.state;
}

pub returns : goal.returns
returns c =
    all_kept c.loop-entry.state c.args.state.now c.args.entries.now c.loop-entry.entry-index c.loop-entry-test.false
    c.loop-entry.invariant.size c.loop-entry.invariant.number
    c.loop-entry.invariant.state
