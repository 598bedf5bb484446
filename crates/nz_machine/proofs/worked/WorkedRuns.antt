-- Runs of three replicas, one proxy and one client, played by the definitions with real frames.
use Rattle.std.proofs.Common.{◌≡◌, ℕ, arith, subst, List, [], ◌∷◌, None, refl}
use Rattle.std.specs.List.{AllByRecursion}
use Rattle.std.proofs.lemmas.Bool.{and_parts}
use Rattle.std.specs.Prelude.{◌&&◌, Bool, true, false, not, map, slice_index}
use Rattle.nz_base.specs.declared.actor.Actor.{Actor}
use Rattle.nz_base.specs.declared.actor.Actor.TheVariants.{Replica, Proxy, Client}
use Rattle.nz_base.specs.declared.key.Id.{Id}
use Rattle.nz_base.specs.declared.key.Entry.{Entry}
use Rattle.nz_machine.specs.declared.event.Event.{Event}
use Rattle.nz_machine.specs.declared.event.Event.TheVariants.{Tick, Restart}
use Rattle.nz_machine.specs.declared.event.Record.{Record}
use Rattle.nz_machine.specs.rules.State.{Group}
use Rattle.sha1.specs.Sha1.{first_words, schedule, rounds, compress, hash_after, digest_bytes, sha1}
use Rattle.nz_digest.specs.Digests.{key_bytes}
use Rattle.nz_math.specs.Count.{count_below}
use Rattle.nz_merge.specs.Merged.{merged, later_keys}
use Rattle.nz_store.specs.Reading.{key_at, value_at, choice_at, command_of}
use Rattle.nz_store.specs.Reading as reading
use Rattle.nz_store.specs.Reading.{command_at}
use Rattle.nz_store.specs.Sequence.{apply, apply_bytes, store_from, replies_from}
use Rattle.nz_machine.specs.rules.Clients.{wait_rule, accept_rule}
use Rattle.nz_machine.specs.rules.Proxies.{stamp_rule, reply_rule, clock_rule}
use Rattle.nz_machine.specs.rules.Quorums.{decision}
use Rattle.nz_machine.specs.rules.Requests.{request_rule}
use Rattle.nz_machine.specs.rules.Releases.{releases, release_rule}
use Rattle.nz_machine.specs.rules.LogMods.{sync_keys, log_mod_rule, fetch_rule, with_late_entries, fetch_reply_rule, sync_report_rule}
use Rattle.nz_machine.specs.rules.Views.{enter_view, alarm_rule, view_ask_rule}
use Rattle.nz_machine.specs.rules.Adopting.{start_view_rule}
use Rattle.nz_machine.specs.rules.Begins.{begin, view_change_rule}
use Rattle.nz_machine.specs.rules.Rejoining.{crash_rule, restart_rule, vector_ask_rule, vector_tell_rule, rejoin_ask_rule}
use Rattle.nz_machine.specs.rules.Rejoining.{rejoin_tell_rule, state_ask_rule, state_tell_rule}
use Rattle.nz_frame.specs.Grammar.{frame}
use Rattle.nz_frame.specs.Refusal.{refusal}
use Rattle.nz_msg.specs.Codec.{number_bytes, number_at, run_at, limited_at, optional_at, items_put, items_at}
use Rattle.nz_msg.specs.Envelope.{encode_of, decode_of}
use Rattle.nz_msg.specs.Messages.{body_at}
use Rattle.nz_machine.specs.runs.Incarnations.{is_restart}
use Rattle.nz_machine.specs.rules.State.{ReplicaData}
use Rattle.nz_machine.specs.rules.Replicas.{first_replica}
use Rattle.nz_machine.specs.rules.Step.{envelope_for}
use Rattle.nz_machine.specs.runs.World.{state_after, IsGroup, Restarts, World}
use Rattle.nz_machine.proofs.worked.Play.{play, arrive, come, all_tick, played, came, all_ticked}

-- put a 1
abbrev pub put : List ℕ
put = 1 ∷ 1 ∷ 97 ∷ 0 ∷ 1 ∷ 49 ∷ []

abbrev pub first : Id
first = record { client = 0; num = 1 }

abbrev pub first_entry : Entry
first_entry = record { key = record { deadline = 12500; client = 0; num = 1 }; command = put }

abbrev pub group : Group
group = record { f = 1; proxies = 1; window = 1; scripts = (record { wait = 0; command = put } ∷ []) ∷ [] }

-- A follower after its release: the entry is in the log and not synced, and its request came from the proxy.
abbrev pub holding : ReplicaData
holding = record (first_replica 1) {
  clock = 13000;
  log = record { entries = first_entry ∷ []; synced = 0 };
  origin = (first, record { proxy = 0; delay = 1000 }) ∷ [];
  quiet = 2;
}

-- What the newest record sends: to whom, and of which kind.
abbrev pub kinds_sent : List Record → List (Actor × ℕ)
kinds_sent [] = []
kinds_sent (r ∷ J) = map (λ p. (p.to, slice_index p.frame 5)) r.sends

-- ---- a first request

unfoldable pub opened : List Record
opened = play group [] (Client 0) (Tick 1000)

unfoldable pub stamped : List Record
stamped = come group 1 (Client 0) (Proxy 0) (play group opened (Proxy 0) (Tick 2000))

unfoldable pub spread : List Record
spread = come group 2 (Proxy 0) (Replica 2) (come group 2 (Proxy 0) (Replica 1) (come group 2 (Proxy 0) (Replica 0) (all_tick group 3000 stamped)))

-- It is in all three logs, synced at the leader alone.
unfoldable pub released : List Record
released = all_tick group 13000 spread

unfoldable pub replied : List Record
replied = come group 3 (Replica 2) (Proxy 0) (come group 3 (Replica 1) (Proxy 0) (come group 3 (Replica 0) (Proxy 0) released))

-- It is accepted, by the fast replies of all three.
unfoldable pub accepted : List Record
accepted = come group 5 (Proxy 0) (Client 0) replied

-- ---- these are runs of the world

false_of : (b : Bool) → not b ≡ true → b ≡ false
false_of true e = absurd cc
false_of false e = refl

-- None of the records is a restart.
abbrev pub no_restart : List Record → Bool
no_restart [] = true
no_restart (r ∷ J) = not (is_restart r.event) && no_restart J

not_restart : (e : Event) (nonce : ℕ) → is_restart e ≡ false → e ≡ Restart nonce → ⊥
not_restart e nonce none h = absurd (let wrong : true ≡ false = subst (λ (x : Event). is_restart x ≡ false) h none in cc)

pub never_restarted : (J : List Record) (a : Actor) (nonce : ℕ) → no_restart J ≡ true → AllByRecursion (λ r. ¬ Restarts a nonce r) J
never_restarted [] a nonce e = tt
never_restarted (r ∷ J) a nonce e =
    let both : (not (is_restart r.event) ≡ true) × (no_restart J ≡ true) = and_parts (not (is_restart r.event)) (no_restart J) e in
    (λ h. not_restart r.event nonce (false_of (is_restart r.event) both.0) h.1, never_restarted J a nonce both.1)

start_group : IsGroup group
unfolding command_of command_at value_at key_at reading.command_body_at
start_group =
    record {
      least_f = omega arith;
      most_f = omega arith;
      least_proxies = omega arith;
      most_proxies = omega arith;
      least_window = omega arith;
      most_window = omega arith;
      least_clients = omega arith;
      most_clients = omega arith;
      few_requests = omega arith;
      commands = ((record { command = refl }, tt), tt);
    }

pub is_accepted : World group accepted
unfolding accepted replied released spread stamped opened play arrive come all_tick state_after encode_of decode_of
    frame refusal number_bytes number_at run_at limited_at optional_at items_put items_at body_at envelope_for clock_rule
    wait_rule accept_rule stamp_rule reply_rule decision count_below key_bytes first_words schedule rounds compress
    hash_after digest_bytes sha1 apply apply_bytes store_from replies_from key_at value_at choice_at command_of
    reading.command_body_at command_at request_rule release_rule releases sync_keys log_mod_rule fetch_rule with_late_entries
    fetch_reply_rule sync_report_rule enter_view alarm_rule view_ask_rule start_view_rule begin view_change_rule
    crash_rule restart_rule vector_ask_rule vector_tell_rule rejoin_ask_rule rejoin_tell_rule state_ask_rule state_tell_rule merged later_keys
is_accepted =
    let at_asked = played group [] (Client 0) (Tick 1000) start_group (omega arith) (omega arith) in
    let at_stamped =
    came group 1 (Client 0) (Proxy 0) (play group opened (Proxy 0) (Tick 2000))
    (played group opened (Proxy 0) (Tick 2000) at_asked (omega arith) (omega arith)) (omega arith) in
    let here = all_tick group 3000 stamped in
    let first = come group 2 (Proxy 0) (Replica 0) here in
    let at_spread =
    came group 2 (Proxy 0) (Replica 2) (come group 2 (Proxy 0) (Replica 1) first)
    (came group 2 (Proxy 0) (Replica 1) first
    (came group 2 (Proxy 0) (Replica 0) here
    (all_ticked group 3000 stamped at_stamped (omega arith) (omega arith)) (omega arith)) (omega arith)) (omega arith) in
    let at_released = all_ticked group 13000 spread at_spread (omega arith) (omega arith) in
    let one = come group 3 (Replica 0) (Proxy 0) released in
    let at_replied =
    came group 3 (Replica 2) (Proxy 0) (come group 3 (Replica 1) (Proxy 0) one)
    (came group 3 (Replica 1) (Proxy 0) one (came group 3 (Replica 0) (Proxy 0) released at_released (omega arith)) (omega arith)) (omega arith) in
    came group 5 (Proxy 0) (Client 0) replied at_replied (omega arith)
