-- Single steps of the rules on given states, where whole runs seldom come: what is kept, what goes, and what is
-- not done.
use Rattle.std.proofs.Common.{◌≡◌, ℕ, List, [], ◌∷◌, refl}
use Rattle.std.specs.Prelude.{◌++◌}
use Rattle.nz_base.specs.declared.actor.Actor.{Actor}
use Rattle.nz_base.specs.declared.actor.Actor.TheVariants.{Replica, Proxy}
use Rattle.nz_base.specs.declared.key.Entry.{Entry}
use Rattle.nz_base.specs.declared.limits.TheConstants.{MAX_VIEW}
use Rattle.nz_merge.specs.Merged.{merged, later_keys}
use Rattle.nz_msg.specs.declared.message.Message.{Message}
use Rattle.nz_msg.specs.declared.message.Message.TheVariants as messages
use Rattle.nz_machine.specs.declared.data.Status.TheVariants.{Normal, ViewChange}
use Rattle.nz_store.specs.declared.command.Answer.TheVariants.{Absent}
use Rattle.nz_store.specs.Reading.{command_of, command_at}
use Rattle.nz_store.specs.Sequence.{apply_bytes, replies_from}
use Rattle.nz_machine.specs.declared.data.Phase.TheVariants as phases
use Rattle.nz_machine.specs.declared.data.Rejoin.{Rejoin}
use Rattle.nz_machine.specs.declared.data.CollectedReport.{CollectedReport}
use Rattle.nz_machine.specs.rules.State.{ReplicaData}
use Rattle.nz_machine.specs.rules.Replicas.{first_replica, crashed_replica}
use Rattle.nz_machine.specs.rules.Requests.{request_rule}
use Rattle.nz_machine.specs.rules.Releases.{releases, release_rule}
use Rattle.nz_machine.specs.rules.LogMods.{log_mod_rule, fetch_rule, fetch_reply_rule, sync_report_rule}
use Rattle.nz_machine.specs.rules.Views.{enter_view, alarm_rule, view_ask_rule}
use Rattle.nz_machine.specs.rules.Adopting.{start_view_rule}
use Rattle.nz_machine.specs.rules.Begins.{begin, view_change_rule}
use Rattle.nz_machine.specs.rules.Rejoining.{restarted_replica, restart_rule, rejoin_ask_message, vector_ask_rule, vector_tell_rule}
use Rattle.nz_machine.specs.rules.Rejoining.{rejoin_ask_rule, rejoin_tell_rule, state_ask_rule, state_tell_rule}
use Rattle.nz_machine.specs.rules.Step.{replica_message, tick_rule, tick_step}
use Rattle.nz_machine.proofs.worked.WorkedRuns.{group}

-- An entry whose command is none.
abbrev entry : ℕ → Entry
entry deadline = record { key = record { deadline = deadline; client = 0; num = deadline }; command = [] }

abbrev normal : ReplicaData
normal = first_replica 1

-- In the change to view 1, which replica 1 leads.
abbrev changing : ReplicaData
changing = record normal { status = ViewChange; view = 1 }

-- A report for view 1 from a replica in its first incarnation.
abbrev reported : ℕ → CollectedReport
reported sender = record { vector = 0 ∷ 0 ∷ 0 ∷ []; report = record { sender = sender; last = 0; synced = 0; commit = 0; log = [] } }

abbrev report : List ℕ → Message
report vector = messages.ViewChange (record { view = 1; last = 0; vector = vector; synced = 0; commit = 0; entries = [] })

-- Rejoining in a phase, with nonce 5 and this claim.
abbrev rejoining : Rejoin → ReplicaData
rejoining r = record (restarted_replica 1 5) { rejoin = r }

abbrev rejoin_of : ReplicaData → Rejoin
rejoin_of s = s.rejoin

abbrev at_first : Rejoin
at_first = rejoin_of (restarted_replica 1 5)

-- ---- views

record Views : Type 0 where
  -- With two reports beside the own one, as is left when a merged log had no room, no view begins.
  exactly : replica_message 1 1 (record changing { reports = reported 0 ∷ reported 2 ∷ [] }) (Replica 0) (report (0 ∷ 0 ∷ 0 ∷ []))
      ≡ (record changing { reports = reported 2 ∷ reported 0 ∷ [] }, [])
  -- A report that the merged vector makes stray goes, and then one is too few no more: the view begins from the new
  -- one.
  purged : (replica_message 1 1 (record changing { reports = reported 2 ∷ [] }) (Replica 0) (report (0 ∷ 0 ∷ 1 ∷ []))).0.reports
      ≡ (record { vector = 0 ∷ 0 ∷ 1 ∷ []; report = record { sender = 0; last = 0; synced = 0; commit = 0; log = [] } }) ∷ []
  -- It goes in normal operation too; the sender gets the start-view.
  purged_in_normal : replica_message 1 1 (record changing { status = Normal; last = 1; reports = reported 2 ∷ [] }) (Replica 0) (report (0 ∷ 0 ∷ 1 ∷ []))
      ≡ (
        record changing { status = Normal; last = 1; vector = 0 ∷ 0 ∷ 1 ∷ []; reports = [] },
        (Replica 0, messages.StartView (record { view = 1; vector = 0 ∷ 0 ∷ 1 ∷ []; commit = 0; entries = [] })) ∷ [],
      )
  -- A stray report changes nothing.
  stray : replica_message 1 1 (record changing { vector = 1 ∷ 0 ∷ 0 ∷ [] }) (Replica 0) (report (0 ∷ 9 ∷ 9 ∷ []))
      ≡ (record changing { vector = 1 ∷ 0 ∷ 0 ∷ [] }, [])
  -- Who does not lead the view merges nothing of it.
  not_leader : replica_message 1 2 changing (Replica 0) (report (0 ∷ 0 ∷ 1 ∷ [])) ≡ (changing, [])
  -- The greatest commit is known to be committed, as far as the log goes.
  commit : (replica_message 1 1 (record changing { log = record { entries = entry 1 ∷ entry 2 ∷ []; synced = 2 }; commit = 1 }) (Replica 0)
      (messages.ViewChange (record { view = 1; last = 0; vector = 0 ∷ 0 ∷ 0 ∷ []; synced = 3; commit = 3; entries = entry 1 ∷ entry 2 ∷ entry 3 ∷ [] }))).0
      ≡ record changing {
        status = Normal;
        last = 1;
        log = record { entries = entry 1 ∷ entry 2 ∷ entry 3 ∷ []; synced = 3 };
        commit = 3;
        results = Absent ∷ Absent ∷ Absent ∷ [];
        reports =
            (record {
              vector = 0 ∷ 0 ∷ 0 ∷ [];
              report = record { sender = 0; last = 0; synced = 3; commit = 3; log = entry 1 ∷ entry 2 ∷ entry 3 ∷ [] };
            }) ∷ [];
      }
  -- Acknowledgements of an earlier view do not count.
  acks : (replica_message 1 1 (record changing { ack = 4 ∷ 4 ∷ 4 ∷ [] }) (Replica 0) (report (0 ∷ 0 ∷ 0 ∷ []))).0.ack ≡ 0 ∷ 0 ∷ 0 ∷ []
  -- A start-view: entries that it leaves out go to late, its ids leave early and late, and what is early and not
  -- above its last is late.
  adopted : (replica_message 1 2
      (record normal {
        log = record { entries = entry 1 ∷ entry 2 ∷ []; synced = 1 };
        commit = 1;
        early = entry 3 ∷ entry 4 ∷ entry 9 ∷ [];
        late = entry 5 ∷ entry 7 ∷ [];
        quiet = 9;
      }) (Replica 1)
      (messages.StartView (record { view = 1; vector = 0 ∷ 0 ∷ 0 ∷ []; commit = 0; entries = entry 1 ∷ entry 4 ∷ entry 5 ∷ [] }))).0
      ≡ record normal {
        view = 1;
        last = 1;
        log = record { entries = entry 1 ∷ entry 4 ∷ entry 5 ∷ []; synced = 3 };
        commit = 1;
        early = entry 9 ∷ [];
        late = entry 7 ∷ entry 2 ∷ entry 3 ∷ [];
      }
  -- In normal operation one of the own view changes nothing; one that another sends neither.
  started : replica_message 1 2 (record changing { status = Normal; last = 1 }) (Replica 1)
      (messages.StartView (record { view = 1; vector = 1 ∷ 0 ∷ 0 ∷ []; commit = 0; entries = entry 1 ∷ [] }))
      ≡ (record changing { status = Normal; last = 1 }, [])
  by_another : replica_message 1 2 changing (Replica 0)
      (messages.StartView (record { view = 1; vector = 1 ∷ 0 ∷ 0 ∷ []; commit = 0; entries = entry 1 ∷ [] })) ≡ (changing, [])
  -- A log modification of the own view merges nothing in a view change. One of a later view is a reason to enter it.
  own_view : replica_message 1 2 changing (Replica 1)
      (messages.LogMod (record { view = 1; vector = 1 ∷ 0 ∷ 0 ∷ []; commit = 0; start = 0; keys = [] })) ≡ (changing, [])
  later_view : replica_message 1 2 normal (Replica 1) (messages.LogMod (record { view = 1; vector = 1 ∷ 0 ∷ 0 ∷ []; commit = 0; start = 0; keys = [] }))
      ≡ (
        record changing { vector = 1 ∷ 0 ∷ 0 ∷ [] },
        (Replica 0, messages.ViewAsk (record { view = 1 })) ∷ (Replica 1, messages.ViewAsk (record { view = 1 }))
            ∷ (Replica 1, messages.ViewChange (record { view = 1; last = 0; vector = 1 ∷ 0 ∷ 0 ∷ []; synced = 0; commit = 0; entries = [] })) ∷ [],
      )
  -- Entering a view, also another in a view change: both timers start anew, nothing is collected, and what else there
  -- is stays.
  entered : replica_message 1 2 (record changing {
    clock = 7;
    last = 0;
    commit = 1;
    log = record { entries = entry 1 ∷ []; synced = 1 };
    late = entry 2 ∷ [];
    ack = 1 ∷ 1 ∷ 1 ∷ [];
    quiet = 9;
    since = 9;
    reports = reported 0 ∷ [];
  }) (Replica 0) (messages.ViewAsk (record { view = 4 }))
      ≡ (
        record changing {
          clock = 7;
          view = 4;
          last = 0;
          commit = 1;
          log = record { entries = entry 1 ∷ []; synced = 1 };
          late = entry 2 ∷ [];
          ack = 1 ∷ 1 ∷ 1 ∷ [];
        },
        (Replica 0, messages.ViewAsk (record { view = 4 })) ∷ (Replica 1, messages.ViewAsk (record { view = 4 }))
            ∷ (Replica 1, messages.ViewChange (record { view = 4; last = 0; vector = 0 ∷ 0 ∷ 0 ∷ []; synced = 1; commit = 1; entries = entry 1 ∷ [] })) ∷ [],
      )
  -- One that asks for the own view is not followed.
  same_view : replica_message 1 2 changing (Replica 0) (messages.ViewAsk (record { view = 1 })) ≡ (changing, [])
  -- There is no view after the last: an alarm is nothing, quiet stays at 20, and since begins anew.
  last_alarm : alarm_rule 1 0 (record normal { view = MAX_VIEW }) ≡ (record normal { view = MAX_VIEW }, [])
  last_quiet : tick_rule 1 2 (record normal { view = MAX_VIEW; quiet = 20 }) 0 ≡ (record normal { view = MAX_VIEW; quiet = 20 }, [])
  last_since : tick_rule 1 0 (record changing { view = MAX_VIEW; since = 19 }) 0 ≡ (record changing { view = MAX_VIEW; since = 0 }, [])
  -- Down, nothing is heard and no clock set.
  down : tick_step group (Replica 2) (crashed_replica 1) 7000 ≡ (crashed_replica 1, [])
  up : restart_rule 1 2 changing 7 ≡ (changing, [])

views : Views
unfolding request_rule releases release_rule log_mod_rule fetch_rule fetch_reply_rule sync_report_rule enter_view
    alarm_rule view_ask_rule start_view_rule begin view_change_rule restart_rule merged later_keys replies_from apply_bytes command_of command_at
views =
    record {
      exactly = refl;
      purged = refl;
      purged_in_normal = refl;
      stray = refl;
      not_leader = refl;
      commit = refl;
      acks = refl;
      adopted = refl;
      started = refl;
      by_another = refl;
      own_view = refl;
      later_view = refl;
      entered = refl;
      same_view = refl;
      last_alarm = refl;
      last_quiet = refl;
      last_since = refl;
      down = refl;
      up = refl;
    }

-- Whatever comes to a replica that is down is an empty step.
down_hears_nothing : (f me : ℕ) (from : Actor) (m : Message) → replica_message f me (crashed_replica f) from m ≡ (crashed_replica f, [])
unfolding request_rule log_mod_rule fetch_rule fetch_reply_rule sync_report_rule view_ask_rule start_view_rule
    view_change_rule vector_ask_rule vector_tell_rule rejoin_ask_rule rejoin_tell_rule state_ask_rule state_tell_rule
down_hears_nothing f me (Proxy p) (messages.Timed b) = refl
down_hears_nothing f me (Replica r) (messages.LogMod b) = refl
down_hears_nothing f me (Replica r) (messages.Fetch b) = refl
down_hears_nothing f me (Replica r) (messages.FetchReply b) = refl
down_hears_nothing f me (Replica r) (messages.SyncReport b) = refl
down_hears_nothing f me (Replica r) (messages.ViewAsk b) = refl
down_hears_nothing f me (Replica r) (messages.ViewChange b) = refl
down_hears_nothing f me (Replica r) (messages.StartView b) = refl
down_hears_nothing f me (Replica r) (messages.VectorAsk b) = refl
down_hears_nothing f me (Replica r) (messages.VectorTell b) = refl
down_hears_nothing f me (Replica r) (messages.RejoinAsk b) = refl
down_hears_nothing f me (Replica r) (messages.RejoinTell b) = refl
down_hears_nothing f me (Replica r) (messages.StateAsk b) = refl
down_hears_nothing f me (Replica r) (messages.StateTell b) = refl
down_hears_nothing f me _ _ = refl

-- ---- rejoins

-- A view that was told.
abbrev told : ℕ → ℕ → List ℕ → Rejoin → Rejoin
told sender view vector r = record r { tells = r.tells ++ (record { sender = sender; view = view; vector = vector }) ∷ [] }

abbrev in_second : Rejoin
in_second = record at_first { phase = phases.Views }

abbrev in_third : ℕ → Rejoin
in_third wanted = record at_first { phase = phases.Log; wanted = wanted }

record Rejoins : Type 0 where
  -- The counter is one more than the greatest that was told, and the second teller is enough.
  counted : replica_message 1 2 (record (rejoining (record at_first { claim = 4; tellers = 0 ∷ [] })) { since = 3 })
      (Replica 1) (messages.VectorTell (record { nonce = 5; vector = 3 ∷ 0 ∷ 2 ∷ [] }))
      ≡ (
        record (rejoining (record at_first { phase = phases.Views; claim = 4; tellers = 0 ∷ 1 ∷ [] })) { vector = 3 ∷ 0 ∷ 5 ∷ [] },
        (Replica 0, messages.RejoinAsk (record { nonce = 5; vector = 3 ∷ 0 ∷ 5 ∷ [] }))
            ∷ (Replica 1, messages.RejoinAsk (record { nonce = 5; vector = 3 ∷ 0 ∷ 5 ∷ [] })) ∷ [],
      )
  -- The same teller twice is one.
  once : replica_message 1 2 (rejoining (record at_first { tellers = 0 ∷ [] })) (Replica 0)
      (messages.VectorTell (record { nonce = 5; vector = 0 ∷ 0 ∷ 2 ∷ [] }))
      ≡ (rejoining (record at_first { claim = 2; tellers = 0 ∷ [] }), [])
  -- There is no counter after the last.
  full : replica_message 1 2 (rejoining (record at_first { tellers = 0 ∷ [] })) (Replica 1)
      (messages.VectorTell (record { nonce = 5; vector = 0 ∷ 0 ∷ 4294967295 ∷ [] }))
      ≡ (rejoining (record at_first { claim = 4294967295; tellers = 0 ∷ 1 ∷ [] }), [])
  -- Another restart's answer is nothing.
  other_nonce : replica_message 1 2 (rejoining at_first) (Replica 1)
      (messages.VectorTell (record { nonce = 4; vector = 7 ∷ 7 ∷ 7 ∷ [] })) ≡ (rejoining at_first, [])
  -- The greatest view is wanted, and its leader is asked.
  wanted : replica_message 1 2 (record (rejoining (told 0 1 (0 ∷ 0 ∷ 0 ∷ []) in_second)) { since = 3 }) (Replica 1)
      (messages.RejoinTell (record { nonce = 5; view = 0; vector = 0 ∷ 0 ∷ 0 ∷ [] }))
      ≡ (
        rejoining (record (told 1 0 (0 ∷ 0 ∷ 0 ∷ []) (told 0 1 (0 ∷ 0 ∷ 0 ∷ []) in_second)) { phase = phases.Log; wanted = 1 }),
        (Replica 1, messages.StateAsk (record { nonce = 5; view = 1; vector = 0 ∷ 0 ∷ 0 ∷ [] })) ∷ [],
      )
  -- What the new answer makes stray goes, and one is too few.
  purged : replica_message 1 2 (rejoining (told 0 1 (0 ∷ 0 ∷ 0 ∷ []) in_second)) (Replica 1)
      (messages.RejoinTell (record { nonce = 5; view = 0; vector = 1 ∷ 0 ∷ 0 ∷ [] }))
      ≡ (record (rejoining (told 1 0 (1 ∷ 0 ∷ 0 ∷ []) in_second)) { vector = 1 ∷ 0 ∷ 0 ∷ [] }, [])
  -- Its own view: nothing stays collected.
  own_view : replica_message 1 2 (record (rejoining (told 0 2 (0 ∷ 0 ∷ 0 ∷ []) in_second)) { since = 3 }) (Replica 1)
      (messages.RejoinTell (record { nonce = 5; view = 0; vector = 0 ∷ 0 ∷ 0 ∷ [] }))
      ≡ (record (rejoining in_second) { since = 3 }, [])
  -- From the third phase it goes back to the second with nothing collected.
  back : tick_rule 1 2 (record (rejoining (told 0 0 (0 ∷ 0 ∷ 0 ∷ []) (in_third 1))) { since = 4 }) 9000
      ≡ (
        record (rejoining (record in_second { wanted = 1 })) { clock = 9000 },
        (Replica 0, rejoin_ask_message (rejoining in_second)) ∷ (Replica 1, rejoin_ask_message (rejoining in_second)) ∷ [],
      )
  -- In the second what is collected stays.
  again : tick_rule 1 2 (record (rejoining (told 0 0 (0 ∷ 0 ∷ 0 ∷ []) in_second)) { since = 4 }) 9000
      ≡ (
        record (rejoining (told 0 0 (0 ∷ 0 ∷ 0 ∷ []) in_second)) { clock = 9000 },
        (Replica 0, rejoin_ask_message (rejoining in_second)) ∷ (Replica 1, rejoin_ask_message (rejoining in_second)) ∷ [],
      )
  -- The leader of an earlier view than the wanted one is not followed; that of a later one is, and its commit is taken.
  earlier : replica_message 1 2 (rejoining (in_third 1)) (Replica 0)
      (messages.StateTell (record { nonce = 5; view = 0; vector = 1 ∷ 0 ∷ 0 ∷ []; commit = 0; entries = [] })) ≡ (rejoining (in_third 1), [])
  later_view : replica_message 1 2 (rejoining (in_third 1)) (Replica 0)
      (messages.StateTell (record { nonce = 5; view = 3; vector = 1 ∷ 0 ∷ 0 ∷ []; commit = 1; entries = entry 1 ∷ entry 2 ∷ [] }))
      ≡ (
        record (rejoining (in_third 1)) {
          status = Normal;
          view = 3;
          last = 3;
          log = record { entries = entry 1 ∷ entry 2 ∷ []; synced = 2 };
          commit = 1;
          vector = 1 ∷ 0 ∷ 0 ∷ [];
        },
        [],
      )
  -- Who asks for a later view than the leader's gets no answer, and nothing of the ask is merged.
  ahead : replica_message 1 0 normal (Replica 2) (messages.StateAsk (record { nonce = 5; view = 3; vector = 0 ∷ 0 ∷ 1 ∷ [] })) ≡ (normal, [])
  -- Who is asked merges the vector first.
  answered : replica_message 1 0 normal (Replica 2) (messages.RejoinAsk (record { nonce = 5; vector = 0 ∷ 0 ∷ 1 ∷ [] }))
      ≡ (record normal { vector = 0 ∷ 0 ∷ 1 ∷ [] }, (Replica 2, messages.RejoinTell (record { nonce = 5; view = 0; vector = 0 ∷ 0 ∷ 1 ∷ [] })) ∷ [])
  -- In a view change nobody answers.
  silent : replica_message 1 0 changing (Replica 2) (messages.RejoinAsk (record { nonce = 5; vector = 0 ∷ 0 ∷ 1 ∷ [] })) ≡ (changing, [])

rejoins : Rejoins
unfolding releases release_rule vector_tell_rule rejoin_ask_rule rejoin_tell_rule state_ask_rule state_tell_rule
rejoins =
    record {
      counted = refl;
      once = refl;
      full = refl;
      other_nonce = refl;
      wanted = refl;
      purged = refl;
      own_view = refl;
      back = refl;
      again = refl;
      earlier = refl;
      later_view = refl;
      ahead = refl;
      answered = refl;
      silent = refl;
    }
