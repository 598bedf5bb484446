-- A rejoin, played by the definitions: r2 is alarmed, its view change to r1 is delayed, and it crashes. It comes
-- back, rejoins by the answers of r0 and r1, and then the old view change comes, and is stray.
use Rattle.std.proofs.Common.{◌≡◌, arith, List, [], ◌∷◌, Some, None, refl}
use Rattle.std.specs.Prelude.{◌+◌, true, false, map, length}
use Rattle.sha1.specs.Sha1.{first_words, schedule, rounds, compress, hash_after, digest_bytes, sha1}
use Rattle.nz_base.specs.declared.actor.Actor.TheVariants.{Replica}
use Rattle.nz_digest.specs.Digests.{key_bytes}
use Rattle.nz_math.specs.Count.{count_below}
use Rattle.nz_merge.specs.Merged.{merged, later_keys}
use Rattle.nz_store.specs.Reading.{key_at, value_at, choice_at, command_of}
use Rattle.nz_store.specs.Reading as reading
use Rattle.nz_store.specs.Reading.{command_at}
use Rattle.nz_store.specs.Sequence.{apply, apply_bytes, store_from, replies_from}
use Rattle.nz_machine.specs.rules.Clients.{wait_rule, accept_rule}
use Rattle.nz_machine.specs.rules.Proxies.{stamp_rule, reply_rule, clock_rule}
use Rattle.nz_machine.specs.rules.Quorums.{decision}
use Rattle.nz_machine.specs.rules.State.{ReplicaData}
use Rattle.nz_machine.specs.rules.Replicas.{first_replica}
use Rattle.nz_machine.specs.rules.Requests.{request_rule}
use Rattle.nz_machine.specs.rules.Releases.{releases, release_rule}
use Rattle.nz_machine.specs.rules.LogMods.{sync_keys, log_mod_rule, fetch_rule, with_late_entries, fetch_reply_rule, sync_report_rule}
use Rattle.nz_machine.specs.rules.Views.{enter_view, alarm_rule, view_ask_rule}
use Rattle.nz_machine.specs.rules.Adopting.{start_view_rule}
use Rattle.nz_machine.specs.rules.Begins.{begin, view_change_rule}
use Rattle.nz_machine.specs.rules.Rejoining.{crash_rule, restart_rule, vector_ask_rule, vector_tell_rule, rejoin_ask_rule}
use Rattle.nz_machine.specs.rules.Rejoining.{rejoin_tell_rule, state_ask_rule, state_tell_rule}
use Rattle.nz_frame.specs.Grammar.{frame}
use Rattle.nz_frame.specs.Refusal.{refusal}
use Rattle.nz_msg.specs.Codec.{number_bytes, number_at, run_at, limited_at, optional_at, items_put, items_at}
use Rattle.nz_msg.specs.Envelope.{encode_of, decode_of}
use Rattle.nz_msg.specs.Messages.{body_at}
use Rattle.nz_machine.specs.declared.data.Status.TheVariants.{Down}
use Rattle.nz_machine.specs.declared.event.Event.TheVariants.{Tick, Alarm, Crash, Restart}
use Rattle.nz_machine.specs.declared.event.Record.{Record}
use Rattle.nz_machine.specs.declared.data.Phase.TheVariants as phases
use Rattle.nz_machine.specs.rules.Step.{envelope_for}
use Rattle.nz_machine.specs.runs.World.{state_after, World}
use Rattle.nz_machine.specs.runs.History.{history}
use Rattle.nz_machine.specs.runs.Incarnations.{replica_at, incarnation, own_counter, counter_at, completes, views_used, tell_source}
use Rattle.nz_machine.specs.runs.Begun.{start}
use Rattle.nz_machine.proofs.worked.Play.{play, arrive, come, all_tick, played, came}
use Rattle.nz_machine.proofs.worked.WorkedRuns.{first_entry, holding, group, kinds_sent, opened, stamped}
use Rattle.nz_machine.proofs.worked.WorkedRuns.{spread, released, replied, accepted, is_accepted, never_restarted}

unfoldable pub alarmed : List Record
alarmed = play group accepted (Replica 2) Alarm

-- While r2 is down a tick changes nothing.
unfoldable pub down : List Record
down = play group alarmed (Replica 2) Crash

unfoldable pub deaf : List Record
deaf = play group down (Replica 2) (Tick 14000)

unfoldable pub back : List Record
back = play group deaf (Replica 2) (Restart 7)

-- The others tell their vectors: r2 has enough with the second.
unfoldable pub told_once : List Record
told_once = come group 14 (Replica 0) (Replica 2) (come group 13 (Replica 2) (Replica 1) (come group 13 (Replica 2) (Replica 0) back))

unfoldable pub counted : List Record
counted = come group 14 (Replica 1) (Replica 2) told_once

-- They tell their views, each when it is asked.
unfoldable pub first_asked : List Record
first_asked = come group 15 (Replica 2) (Replica 0) counted

unfoldable pub second_asked : List Record
second_asked = come group 15 (Replica 2) (Replica 1) first_asked

unfoldable pub viewed : List Record
viewed = come group 16 (Replica 1) (Replica 2) (come group 16 (Replica 0) (Replica 2) second_asked)

-- r0 leads the latest view, and tells its log.
unfoldable pub rejoined : List Record
rejoined = come group 18 (Replica 0) (Replica 2) (come group 17 (Replica 2) (Replica 0) viewed)

-- The old view change comes to r1.
unfoldable pub strayed : List Record
strayed = come group 11 (Replica 2) (Replica 1) rejoined

-- r2 after its rejoin.
abbrev rejoined_replica : ReplicaData
rejoined_replica = record (first_replica 1) {
  log = record { entries = first_entry ∷ []; synced = 1 };
  vector = 0 ∷ 0 ∷ 1 ∷ [];
  rejoin = record {
    nonce = 7;
    phase = phases.Log;
    claim = 0;
    wanted = 0;
    tellers = 0 ∷ 1 ∷ [];
    tells = record { sender = 0; view = 0; vector = 0 ∷ 0 ∷ 1 ∷ [] } ∷ record { sender = 1; view = 0; vector = 0 ∷ 0 ∷ 1 ∷ [] } ∷ [];
  };
}

-- What the definitions say of it.
record IsAsWorked : Type 0 where
  alarm_sends : kinds_sent alarmed ≡ (Replica 0, 10) ∷ (Replica 1, 10) ∷ (Replica 1, 11) ∷ []
  lost : replica_at group 2 down ≡ record (first_replica 1) { status = Down }
  deaf_still : replica_at group 2 deaf ≡ record (first_replica 1) { status = Down }
  deaf_sends : kinds_sent deaf ≡ []
  back_sends : kinds_sent back ≡ (Replica 0, 13) ∷ (Replica 1, 13) ∷ []
  one_is_too_few : kinds_sent told_once ≡ []
  view_asks : kinds_sent counted ≡ (Replica 0, 15) ∷ (Replica 1, 15) ∷ []
  log_ask : kinds_sent viewed ≡ (Replica 0, 17) ∷ []
  again : replica_at group 2 rejoined ≡ rejoined_replica
  known : (replica_at group 0 rejoined).vector ≡ 0 ∷ 0 ∷ 1 ∷ []
  known_too : (replica_at group 1 rejoined).vector ≡ 0 ∷ 0 ∷ 1 ∷ []
  -- A stray message changes nothing, not even the vector.
  came : length strayed ≡ length rejoined + 1
  stray_stays : replica_at group 1 strayed ≡ record holding { vector = 0 ∷ 0 ∷ 1 ∷ [] }
  stray_sends : kinds_sent strayed ≡ []
  -- The second incarnation of r2 completes its rejoin in that very record, with counter 1.
  before : incarnation group 2 down ≡ 0
  after : incarnation group 2 back ≡ 1
  not_yet : completes group 2 viewed ≡ false
  complete : completes group 2 rejoined ≡ true
  counter : own_counter group 2 rejoined ≡ 1
  -- It used the answers that the first incarnations of r0 and r1 gave when they were asked.
  used : map (tell_source group 2 rejoined) (views_used group 2 rejoined) ≡ Some first_asked ∷ Some second_asked ∷ []
  answered_by : map (λ x. incarnation group x rejoined) (0 ∷ 1 ∷ []) ≡ 0 ∷ 0 ∷ []
  known_counter : counter_at group 1 2 rejoined ≡ 1
  -- No view has begun but the first.
  begun : start group 1 strayed ≡ None
  history : history group strayed ≡ first_entry ∷ []

as_worked : IsAsWorked
unfolding alarmed down deaf back told_once counted first_asked second_asked viewed rejoined strayed play arrive come
    all_tick opened stamped spread released replied accepted state_after encode_of decode_of frame refusal number_bytes
    number_at run_at limited_at optional_at items_put items_at body_at envelope_for incarnation start clock_rule wait_rule
    accept_rule stamp_rule reply_rule decision count_below key_bytes first_words schedule rounds compress hash_after
    digest_bytes sha1 apply apply_bytes store_from replies_from key_at value_at choice_at command_of reading.command_body_at
    command_at request_rule release_rule releases sync_keys log_mod_rule fetch_rule with_late_entries fetch_reply_rule
    sync_report_rule enter_view alarm_rule view_ask_rule start_view_rule begin view_change_rule crash_rule restart_rule
    vector_ask_rule vector_tell_rule rejoin_ask_rule rejoin_tell_rule state_ask_rule state_tell_rule merged later_keys
as_worked =
    record {
      alarm_sends = refl;
      lost = refl;
      deaf_still = refl;
      deaf_sends = refl;
      back_sends = refl;
      one_is_too_few = refl;
      view_asks = refl;
      log_ask = refl;
      again = refl;
      known = refl;
      known_too = refl;
      came = refl;
      stray_stays = refl;
      stray_sends = refl;
      before = refl;
      after = refl;
      not_yet = refl;
      complete = refl;
      counter = refl;
      used = refl;
      answered_by = refl;
      known_counter = refl;
      begun = refl;
      history = refl;
    }

-- It is a run of the world.
pub is_run : World group strayed
unfolding alarmed down deaf back told_once counted first_asked second_asked viewed rejoined strayed play arrive come
    all_tick opened stamped spread released replied accepted state_after encode_of decode_of frame refusal number_bytes
    number_at run_at limited_at optional_at items_put items_at body_at envelope_for incarnation start clock_rule wait_rule
    accept_rule stamp_rule reply_rule decision count_below key_bytes first_words schedule rounds compress hash_after
    digest_bytes sha1 apply apply_bytes store_from replies_from key_at value_at choice_at command_of reading.command_body_at
    command_at request_rule release_rule releases sync_keys log_mod_rule fetch_rule with_late_entries fetch_reply_rule
    sync_report_rule enter_view alarm_rule view_ask_rule start_view_rule begin view_change_rule crash_rule restart_rule
    vector_ask_rule vector_tell_rule rejoin_ask_rule rejoin_tell_rule state_ask_rule state_tell_rule merged later_keys
is_run =
    let at_alarmed = played group accepted (Replica 2) Alarm is_accepted (omega arith) tt in
    let at_deaf = played group down (Replica 2) (Tick 14000) (played group alarmed (Replica 2) Crash at_alarmed (omega arith) tt) (omega arith) (omega arith) in
    let at_back = played group deaf (Replica 2) (Restart 7) at_deaf (omega arith) (omega arith, never_restarted deaf (Replica 2) 7 refl) in
    let zero = come group 13 (Replica 2) (Replica 0) back in
    let one = come group 13 (Replica 2) (Replica 1) zero in
    let at_told =
    came group 14 (Replica 0) (Replica 2) one
    (came group 13 (Replica 2) (Replica 1) zero (came group 13 (Replica 2) (Replica 0) back at_back (omega arith)) (omega arith)) (omega arith) in
    let at_counted = came group 14 (Replica 1) (Replica 2) told_once at_told (omega arith) in
    let at_first = came group 15 (Replica 2) (Replica 0) counted at_counted (omega arith) in
    let at_second = came group 15 (Replica 2) (Replica 1) first_asked at_first (omega arith) in
    let told = come group 16 (Replica 0) (Replica 2) second_asked in
    let at_viewed = came group 16 (Replica 1) (Replica 2) told (came group 16 (Replica 0) (Replica 2) second_asked at_second (omega arith)) (omega arith) in
    let state_asked = come group 17 (Replica 2) (Replica 0) viewed in
    let at_rejoined = came group 18 (Replica 0) (Replica 2) state_asked (came group 17 (Replica 2) (Replica 0) viewed at_viewed (omega arith)) (omega arith) in
    came group 11 (Replica 2) (Replica 1) rejoined at_rejoined (omega arith)
