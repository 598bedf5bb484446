-- What the loops of the function of this folder keep.
use Rattle.std.proofs.Common.{◌≡◌, ◌≤◌, take}
use Rattle.nz_machine.proofs.lists.Reports.{gathered}
use Rattle.nz_machine.proofs.commit_quorum.gather.Given as goal

abbrev pub invariant-loop-replica : goal.invariant-loop-replica
invariant-loop-replica l = record {
  few : l.count ≤ l.replica;
  all : take l.count l.reports ≡ gathered l.me l.ack l.replica;
}
