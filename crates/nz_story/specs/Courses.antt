-- Helper definitions of story.rt: what is known of a run after some records.
use Rattle.std.specs.Prelude.{◌≡◌, ◌<◌, ℕ, List, length, get_or}
use Rattle.nz_base.specs.Cluster.{replica_count}
use Rattle.nz_base.specs.declared.scenario.Scenario.{Scenario}
use Rattle.nz_machine.specs.journals.ClientProgress.{AreAfter}
use Rattle.nz_machine.specs.runs.Schedule.{group_of}
use Rattle.nz_machine.specs.rules.State.{Group}
use Rattle.nz_machine.specs.declared.event.Record.{Record}
use Rattle.nz_replica.specs.Models.{IsCore}
use Rattle.nz_story.specs.Fates.{sent_by_run}
use Rattle.nz_story.specs.Known.{known_of}
use Rattle.nz_story.specs.Passes.{counts_of}
use Rattle.nz_story.specs.declared.story.Course.{Course}
use Rattle.nz_story.specs.declared.story.Watched.{Watched}

-- It is this replica after the records, and what is known is of this state.
pub record IsWatched (g : Group) (J : List Record) (me : ℕ) (w : Watched) : Type 0 where
  pub core : IsCore g J me w.core
  pub known : w.known ≡ known_of w.core.model.state

-- Each of them is the replica of its place after the records.
abbrev pub AreWatched : Group → List Record → List Watched → Type 0
AreWatched g J ws = (k : ℕ) (d : Watched) → k < length ws → IsWatched g J k (get_or ws k d)

-- All actors are followed up to here, and all that was sent is counted.
pub record IsFollowed (s : Scenario) (J : List Record) (c : Course) : Type 0 where
  pub clients : AreAfter (group_of s) J c.clients
  pub count : length c.replicas.items ≡ replica_count s.cluster
  pub replicas : AreWatched (group_of s) J c.replicas.items
  pub sent : c.sent ≡ counts_of s.faults (sent_by_run J)
