-- What contracts see of the parts that the code keeps of a replica.
use Rattle.std.specs.Prelude.{ℕ, ◌+◌, ◌==◌, [], replicate, if◌then◌else◌}
use Rattle.nz_base.specs.Cluster.{replica_count}
use Rattle.nz_machine.specs.declared.state.Parts.{Parts}
use Rattle.nz_machine.specs.rules.State.{ReplicaData}
use Rattle.nz_machine.specs.rules.Facts.{ReplicaModel, IsKeptReplica}

-- The parts as the data that the rules speak of.
abbrev pub data_of : Parts → ReplicaData
data_of p = record {
  status = p.status;
  clock = p.clock;
  view = p.view;
  last = p.last;
  log = p.held.log;
  commit = p.commit;
  results = p.results.items;
  vector = p.vector;
  early = p.held.early;
  late = p.held.late;
  origin = p.origin.entries;
  ack = p.ack.items;
  quiet = p.quiet;
  since = p.since;
  reports = p.reports.items;
  rejoin = p.rejoin;
}

-- The same, with the cluster and the number.
abbrev pub model_of : Parts → ReplicaModel
model_of p = record { f = p.cluster; me = p.me; state = data_of p }

-- The parts have what the code keeps.
abbrev pub ArePartsKept : Parts → Type 0
ArePartsKept p = IsKeptReplica p.cluster p.me (data_of p) p.store

-- Nothing waits, no request's origin is known, and nothing was reported or collected.
abbrev pub without_waiting : ReplicaModel → ReplicaModel
without_waiting m = record m { state = record m.state { early = []; late = []; origin = []; ack = replicate (replica_count m.f) 0; reports = [] } }

-- One more tick is counted. At the end of a period the count begins anew.
abbrev pub since_counted : ℕ → ReplicaData → ReplicaData
since_counted period s = record s { since = if s.since + 1 == period then 0 else s.since + 1 }
