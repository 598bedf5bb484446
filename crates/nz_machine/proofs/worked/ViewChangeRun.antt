-- A view change of three replicas, played by the definitions: r1 is alarmed when one entry is in the logs, view 1
-- begins from its log and r0's, and r0 and r2 adopt the log.
use Rattle.std.proofs.Common.{◌≡◌, inl, inr, arith, List, [], ◌∷◌, Some, None, refl}
use Rattle.std.specs.Prelude.{true, false, map}
use Rattle.sha1.specs.Sha1.{first_words, schedule, rounds, compress, hash_after, digest_bytes, sha1}
use Rattle.nz_base.specs.declared.actor.Actor.TheVariants.{Replica, Proxy, Client}
use Rattle.nz_digest.specs.Digests.{key_bytes}
use Rattle.nz_math.specs.Count.{count_below}
use Rattle.nz_merge.specs.Merged.{merged, later_keys}
use Rattle.nz_store.specs.Reading.{key_at, value_at, choice_at, command_of}
use Rattle.nz_store.specs.Reading as reading
use Rattle.nz_store.specs.Reading.{command_at}
use Rattle.nz_store.specs.Sequence.{apply, apply_bytes, store_from, replies_from}
use Rattle.nz_machine.specs.rules.Clients.{wait_rule, accept_rule}
use Rattle.nz_machine.specs.rules.Proxies.{stamp_rule, reply_rule, clock_rule}
use Rattle.nz_machine.specs.rules.Quorums.{decision}
use Rattle.nz_machine.specs.rules.Requests.{request_rule}
use Rattle.nz_machine.specs.rules.Releases.{releases, release_rule}
use Rattle.nz_machine.specs.rules.LogMods.{sync_keys, log_mod_rule, fetch_rule, with_late_entries, fetch_reply_rule, sync_report_rule}
use Rattle.nz_machine.specs.rules.Views.{enter_view, alarm_rule, view_ask_rule}
use Rattle.nz_machine.specs.rules.Adopting.{start_view_rule}
use Rattle.nz_machine.specs.rules.Begins.{begin, view_change_rule}
use Rattle.nz_machine.specs.rules.Rejoining.{crash_rule, restart_rule, vector_ask_rule, vector_tell_rule, rejoin_ask_rule}
use Rattle.nz_machine.specs.rules.Rejoining.{rejoin_tell_rule, state_ask_rule, state_tell_rule}
use Rattle.std.specs.Option.{option_and_then}
use Rattle.nz_frame.specs.Grammar.{frame}
use Rattle.nz_frame.specs.Refusal.{refusal}
use Rattle.nz_msg.specs.Codec.{number_bytes, number_at, run_at, limited_at, optional_at, items_put, items_at}
use Rattle.nz_msg.specs.Envelope.{encode_of, decode_of}
use Rattle.nz_msg.specs.Messages.{body_at}
use Rattle.nz_store.specs.declared.command.Answer.TheVariants.{Done}
use Rattle.nz_machine.specs.declared.data.Status.TheVariants.{Normal, ViewChange}
use Rattle.nz_machine.specs.declared.event.Event.TheVariants.{Alarm, Crash, Restart}
use Rattle.nz_machine.specs.declared.event.Record.{Record}
use Rattle.nz_msg.specs.declared.message.Message.TheVariants as messages
use Rattle.nz_msg.specs.declared.message.Path.TheVariants.{Fast}
use Rattle.nz_machine.specs.declared.data.CollectedReport.{CollectedReport}
use Rattle.nz_machine.specs.rules.Step.{envelope_for, parcel}
use Rattle.nz_machine.specs.runs.World.{state_after, World}
use Rattle.nz_machine.specs.runs.History.{source, history}
use Rattle.nz_machine.specs.runs.Incarnations.{replica_at, incarnation, completes}
use Rattle.nz_machine.specs.runs.Begun.{begins, start, reports_used, report_parcel, IsMemberOf}
use Rattle.nz_machine.specs.runs.Committed.{accepted_view, IsAcceptedIn}
use Rattle.nz_machine.proofs.worked.Play.{play, arrive, newest, come, all_tick, played, came}
use Rattle.nz_machine.proofs.worked.WorkedRuns.{first, first_entry, holding, group, kinds_sent, opened}
use Rattle.nz_machine.proofs.worked.WorkedRuns.{stamped, spread, released, replied, accepted, is_accepted, never_restarted}

-- r1 enters view 1. r0 hears its view-ask, and enters too.
unfoldable alarmed : List Record
alarmed = play group accepted (Replica 1) Alarm

unfoldable asked : List Record
asked = come group 10 (Replica 1) (Replica 0) alarmed

-- r0's view change comes to r1: with its own log that is two.
unfoldable begun : List Record
begun = come group 11 (Replica 0) (Replica 1) asked

-- r2 is late: r1 leads view 1 already, and sends it a start-view.
unfoldable late : List Record
late = come group 11 (Replica 2) (Replica 1) (come group 10 (Replica 1) (Replica 2) begun)

-- The view starts at r0 and r2.
unfoldable ended : List Record
ended = come group 12 (Replica 1) (Replica 2) (come group 12 (Replica 1) (Replica 0) late)

-- What the definitions say of it.
record IsAsWorked : Type 0 where
  -- r1 asks the others, and not itself.
  alarm_sends : kinds_sent alarmed ≡ (Replica 0, 10) ∷ (Replica 2, 10) ∷ []
  -- r0 asks the others, and reports to the leader of view 1.
  ask_sends : kinds_sent asked ≡ (Replica 1, 10) ∷ (Replica 2, 10) ∷ (Replica 1, 11) ∷ []
  begin_sends : kinds_sent begun ≡ (Replica 0, 12) ∷ (Replica 2, 12) ∷ []
  late_sends : kinds_sent late ≡ (Replica 2, 12) ∷ []
  before : replica_at group 1 accepted ≡ holding
  -- The leader has executed the entry, which is synced there; nobody knows yet that it is committed.
  leader : replica_at group 1 begun ≡ record holding {
    status = Normal;
    view = 1;
    last = 1;
    log = record { entries = first_entry ∷ []; synced = 1 };
    results = Done ∷ [];
    quiet = 0;
    reports = (record { vector = 0 ∷ 0 ∷ 0 ∷ []; report = record { sender = 0; last = 0; synced = 1; commit = 0; log = first_entry ∷ [] } }) ∷ [];
  }
  waiting : (replica_at group 0 begun).status ≡ ViewChange
  follower : replica_at group 2 ended ≡ record holding { view = 1; last = 1; log = record { entries = first_entry ∷ []; synced = 1 }; quiet = 0 }
  old_leader : replica_at group 0 ended
      ≡ record holding { view = 1; last = 1; log = record { entries = first_entry ∷ []; synced = 1 }; results = Done ∷ []; quiet = 0 }
  -- The view begins in this very record, from the log of r0 as it was when it entered.
  begins_here : begins group 1 begun ≡ true
  begins_once : begins group 1 ended ≡ false
  starts : start group 1 ended ≡ Some (first_entry ∷ [])
  starts_first : start group 0 ended ≡ Some []
  not_before : start group 1 asked ≡ None
  reported : map (λ r. source (report_parcel group 1 r) begun) (reports_used group 1 begun) ≡ Some asked ∷ []
  -- What was accepted in view 0 is the log that view 1 starts with.
  history : history group ended ≡ first_entry ∷ []
  decided : option_and_then (λ p. accepted_view group first p ended) (newest 5 (Proxy 0) (Client 0) ended) ≡ Some 0

as_worked : IsAsWorked
unfolding alarmed asked begun late ended play arrive come all_tick opened stamped spread released replied accepted
    state_after encode_of decode_of frame refusal number_bytes number_at run_at limited_at optional_at items_put items_at
    body_at envelope_for incarnation start clock_rule wait_rule accept_rule stamp_rule reply_rule decision count_below
    key_bytes first_words schedule rounds compress hash_after digest_bytes sha1 apply apply_bytes store_from replies_from
    key_at value_at choice_at command_of reading.command_body_at command_at request_rule release_rule releases sync_keys
    log_mod_rule fetch_rule with_late_entries fetch_reply_rule sync_report_rule enter_view alarm_rule view_ask_rule
    start_view_rule begin view_change_rule crash_rule restart_rule vector_ask_rule vector_tell_rule rejoin_ask_rule
    rejoin_tell_rule state_ask_rule state_tell_rule merged later_keys
as_worked =
    record {
      alarm_sends = refl;
      ask_sends = refl;
      begin_sends = refl;
      late_sends = refl;
      before = refl;
      leader = refl;
      waiting = refl;
      follower = refl;
      old_leader = refl;
      begins_here = refl;
      begins_once = refl;
      starts = refl;
      starts_first = refl;
      not_before = refl;
      reported = refl;
      history = refl;
      decided = refl;
    }

-- ---- afterwards r0 forgets all, and rejoins

unfoldable back : List Record
back = play group (play group ended (Replica 0) Crash) (Replica 0) (Restart 3)

unfoldable counted : List Record
counted =
    come group 14 (Replica 2) (Replica 0) (come group 14 (Replica 1) (Replica 0)
    (come group 13 (Replica 0) (Replica 2) (come group 13 (Replica 0) (Replica 1) back)))

unfoldable viewed : List Record
viewed =
    come group 16 (Replica 2) (Replica 0) (come group 16 (Replica 1) (Replica 0)
    (come group 15 (Replica 0) (Replica 2) (come group 15 (Replica 0) (Replica 1) counted)))

unfoldable rejoined : List Record
rejoined = come group 18 (Replica 1) (Replica 0) (come group 17 (Replica 0) (Replica 1) viewed)

-- r0's report.
abbrev report : CollectedReport
report = record { vector = 0 ∷ 0 ∷ 0 ∷ []; report = record { sender = 0; last = 0; synced = 1; commit = 0; log = first_entry ∷ [] } }

-- An instance of what is said of views: the first incarnation of r0 reported for view 1, so the second one rejoins in
-- view 1 or above; and of prefixes: what was accepted in view 0 is a prefix of the log that view 1 starts with.
record IsInstance : Type 0 where
  begins_here : begins group 1 begun ≡ true
  is_member : IsMemberOf group 1 begun 0 asked
  first_one : incarnation group 0 asked ≡ 0
  second_one : incarnation group 0 rejoined ≡ 1
  complete : completes group 0 rejoined ≡ true
  view : (replica_at group 0 rejoined).view ≡ 1
  vector : (replica_at group 0 rejoined).vector ≡ 1 ∷ 0 ∷ 0 ∷ []
  log : (replica_at group 0 rejoined).log ≡ record { entries = first_entry ∷ []; synced = 1 }
  is_accepted_in : IsAcceptedIn group 0 (first_entry ∷ []) accepted
  starts : start group 1 rejoined ≡ Some (first_entry ∷ [])

instance_of_laws : IsInstance
unfolding alarmed asked begun late ended back counted viewed rejoined play arrive come all_tick opened stamped spread
    released replied accepted state_after encode_of decode_of frame refusal number_bytes number_at run_at limited_at
    optional_at items_put items_at body_at envelope_for incarnation start clock_rule wait_rule accept_rule stamp_rule
    reply_rule decision count_below key_bytes first_words schedule rounds compress hash_after digest_bytes sha1 apply
    apply_bytes store_from replies_from key_at value_at choice_at command_of reading.command_body_at command_at request_rule
    release_rule releases sync_keys log_mod_rule fetch_rule with_late_entries fetch_reply_rule sync_report_rule enter_view
    alarm_rule view_ask_rule start_view_rule begin view_change_rule crash_rule restart_rule vector_ask_rule
    vector_tell_rule rejoin_ask_rule rejoin_tell_rule state_ask_rule state_tell_rule merged later_keys
instance_of_laws = record {
  begins_here = refl;
  is_member = inr (record { report = report; used = inl refl; sender = refl; source = refl });
  first_one = refl;
  second_one = refl;
  complete = refl;
  view = refl;
  vector = refl;
  log = refl;
  is_accepted_in = inl (record {
    accepts = record {
      id = first;
      answer = Done;
      path = Fast;
      brought = parcel (Proxy 0) (Client 0, messages.Answer (record { num = 1; answer = Done; path = Fast }));
      accepted_there = inl refl;
      event = refl;
      prefix = refl;
    };
    view = refl;
  });
  starts = refl;
}

-- It is a run of the world.
is_run : World group rejoined
unfolding alarmed asked begun late ended back counted viewed rejoined play arrive come all_tick opened stamped spread
    released replied accepted state_after encode_of decode_of frame refusal number_bytes number_at run_at limited_at
    optional_at items_put items_at body_at envelope_for incarnation start clock_rule wait_rule accept_rule stamp_rule
    reply_rule decision count_below key_bytes first_words schedule rounds compress hash_after digest_bytes sha1 apply
    apply_bytes store_from replies_from key_at value_at choice_at command_of reading.command_body_at command_at request_rule
    release_rule releases sync_keys log_mod_rule fetch_rule with_late_entries fetch_reply_rule sync_report_rule enter_view
    alarm_rule view_ask_rule start_view_rule begin view_change_rule crash_rule restart_rule vector_ask_rule
    vector_tell_rule rejoin_ask_rule rejoin_tell_rule state_ask_rule state_tell_rule merged later_keys
is_run =
    let at_alarmed = played group accepted (Replica 1) Alarm is_accepted (omega arith) tt in
    let at_asked = came group 10 (Replica 1) (Replica 0) alarmed at_alarmed (omega arith) in
    let at_begun = came group 11 (Replica 0) (Replica 1) asked at_asked (omega arith) in
    let entered = come group 10 (Replica 1) (Replica 2) begun in
    let at_late = came group 11 (Replica 2) (Replica 1) entered (came group 10 (Replica 1) (Replica 2) begun at_begun (omega arith)) (omega arith) in
    let first = come group 12 (Replica 1) (Replica 0) late in
    let at_ended = came group 12 (Replica 1) (Replica 2) first (came group 12 (Replica 1) (Replica 0) late at_late (omega arith)) (omega arith) in
    let down = play group ended (Replica 0) Crash in
    let at_back =
    played group down (Replica 0) (Restart 3) (played group ended (Replica 0) Crash at_ended (omega arith) tt) (omega arith)
    (omega arith, never_restarted down (Replica 0) 3 refl) in
    let zero = come group 13 (Replica 0) (Replica 1) back in
    let one = come group 13 (Replica 0) (Replica 2) zero in
    let two = come group 14 (Replica 1) (Replica 0) one in
    let at_two =
    came group 14 (Replica 1) (Replica 0) one
    (came group 13 (Replica 0) (Replica 2) zero (came group 13 (Replica 0) (Replica 1) back at_back (omega arith)) (omega arith)) (omega arith) in
    let at_counted = came group 14 (Replica 2) (Replica 0) two at_two (omega arith) in
    let three = come group 15 (Replica 0) (Replica 1) counted in
    let four = come group 15 (Replica 0) (Replica 2) three in
    let five = come group 16 (Replica 1) (Replica 0) four in
    let at_four = came group 15 (Replica 0) (Replica 2) three (came group 15 (Replica 0) (Replica 1) counted at_counted (omega arith)) (omega arith) in
    let at_viewed = came group 16 (Replica 2) (Replica 0) five (came group 16 (Replica 1) (Replica 0) four at_four (omega arith)) (omega arith) in
    let six = come group 17 (Replica 0) (Replica 1) viewed in
    came group 18 (Replica 1) (Replica 0) six (came group 17 (Replica 0) (Replica 1) viewed at_viewed (omega arith)) (omega arith)
