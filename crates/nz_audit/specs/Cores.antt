-- A replica's core after some records of a run.
use Rattle.std.specs.Prelude.{IfSome}
use Rattle.nz_machine.specs.declared.journal.Journal.{Journal}
use Rattle.nz_machine.specs.journals.Journals.{group_in}
use Rattle.nz_replica.specs.Models.{IsCore}
use Rattle.nz_replay.specs.Runs.{run_up_to}
use Rattle.nz_audit.specs.declared.prefixes.replays.Replayed.{Replayed}
use Rattle.nz_audit.specs.declared.prefixes.replays.Replays.{Replays}

-- What was replayed is the replica at its source.
abbrev pub IsReplayed : Journal → Replayed → Type 0
IsReplayed journal at = IsCore (group_in journal) (run_up_to journal at.source.records) at.source.replica at.core

-- Each of the replicas is as it was at its source.
pub record AreReplayed (journal : Journal) (r : Replays) : Type 0 where
  pub at : IfSome r.at (IsReplayed journal)
  pub kept : IfSome r.kept (IsReplayed journal)
