-- How a whole log is adopted, and the rule by which a replica starts a view that another one leads.
use Rattle.std.specs.Prelude.{ℕ, ◌&&◌, ◌||◌, ◌==◌, nat_lt, max, min, List, [], ◌++◌, length, if◌then◌else◌, Bool}
use Rattle.nz_base.specs.Cluster.{leader_of}
use Rattle.nz_base.specs.declared.key.Entry.{Entry}
use Rattle.nz_log.specs.Synced.{left_out}
use Rattle.nz_msg.specs.declared.message.Message.{Message}
use Rattle.nz_msg.specs.declared.message.Message.TheVariants as messages
use Rattle.nz_msg.specs.declared.message.StartViewBody.{StartViewBody}
use Rattle.nz_machine.specs.declared.data.Status.TheVariants.{Normal}
use Rattle.nz_machine.specs.rules.State.{ReplicaData, Out}
use Rattle.nz_machine.specs.rules.Replicas.{is_changing, is_up}
use Rattle.nz_machine.specs.rules.Vectors.{unless_stray}
use Rattle.nz_machine.specs.rules.LogMods.{overtaken_to_late}

-- The list is the log, all of it synced. Entries of the old log that it leaves out go to late, its ids leave early
-- and late, and early entries that are not above its last go to late.
abbrev pub with_log : ReplicaData → List Entry → ReplicaData
with_log s list =
    overtaken_to_late (record s {
      log = record { entries = list; synced = length list };
      early = left_out s.early list;
      late = left_out (s.late ++ s.log.entries) list;
    })

-- In normal operation in a view, with this log, of which this many entries are committed.
abbrev pub normal_in : ReplicaData → ℕ → List Entry → ℕ → ReplicaData
normal_in s view log commit = record (with_log s log) { status = Normal; view = view; last = view; commit = commit; quiet = 0 }

-- What the leader of a view sends to start it.
abbrev pub start_view_message : ReplicaData → Message
start_view_message s = messages.StartView (record { view = s.view; vector = s.vector; commit = s.commit; entries = s.log.entries })

-- Whether a view may start here: a later one, or the one of the view change.
abbrev pub may_start : ReplicaData → ℕ → Bool
may_start s view = is_up s.status && (nat_lt s.view view || ((view == s.view) && is_changing s.status))

-- The state when the view has started: what the replica or the leader knows to be committed is, as far as the log goes.
abbrev pub after_start : ReplicaData → StartViewBody → ReplicaData
after_start s b = normal_in s b.view b.entries (min (length b.entries) (max s.commit b.commit))

-- A start-view of the leader is followed where the view may start.
unfoldable pub start_view_rule : ℕ → ℕ → ReplicaData → ℕ → StartViewBody → ReplicaData × List Out
start_view_rule f me s sender b =
    if may_start s b.view && (sender == leader_of f b.view) then unless_stray me s sender b.vector (λ t. (after_start t b, []))
    else (s, [])
