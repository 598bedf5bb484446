-- A first put and get, played by the definitions themselves: one proxy, one client, three replicas. The
-- numbers are those of the worked example: the first stamp is 12,500, the second 17,500.
use Rattle.std.proofs.Common.{◌≡◌, ℕ, true, false, inl, inr, ◌⊎◌, arith, List, [], ◌∷◌, map, Some, refl, sym, ap, subst, ◌∙◌}
use Rattle.std.specs.Str.{bytes_eq}
use Rattle.std.proofs.lemmas.Slice.Eq.{bytes_eq-Decides}
use Rattle.std.specs.Option.{option_and_then}
use Rattle.sha1.specs.Sha1.{first_words, schedule, rounds, compress, hash_after, digest_bytes, sha1}
use Rattle.nz_base.specs.declared.actor.Actor.TheVariants.{Replica, Proxy, Client}
use Rattle.nz_base.specs.declared.key.Id.{Id}
use Rattle.nz_base.specs.declared.key.Entry.{Entry}
use Rattle.nz_digest.specs.Digests.{EntryKey, key_bytes, digest}
use Rattle.nz_log.specs.Places.{entry_key}
use Rattle.nz_frame.specs.Grammar.{frame}
use Rattle.nz_frame.specs.Refusal.{refusal}
use Rattle.nz_math.specs.Count.{count_below}
use Rattle.nz_msg.specs.Codec.{number_bytes, number_at, run_at, limited_at, optional_at, items_put, items_at}
use Rattle.nz_msg.specs.Envelope.{encode_of, decode_of}
use Rattle.nz_msg.specs.Messages.{body_at}
use Rattle.nz_store.specs.declared.command.Answer.TheVariants.{Done, Value}
use Rattle.nz_store.specs.Reading.{key_at, value_at, choice_at, command_of}
use Rattle.nz_store.specs.Reading as reading
use Rattle.nz_store.specs.Reading.{command_at}
use Rattle.nz_store.specs.Sequence.{apply, apply_bytes, store_from, replies_from, replies}
use Rattle.nz_msg.specs.declared.message.Path.TheVariants.{Fast}
use Rattle.nz_machine.specs.declared.event.Event.TheVariants.{Tick}
use Rattle.nz_machine.specs.declared.event.Record.{Record}
use Rattle.nz_machine.specs.rules.State.{Group}
use Rattle.nz_machine.specs.rules.Clients.{wait_rule, accept_rule}
use Rattle.nz_machine.specs.rules.Requests.{request_rule}
use Rattle.nz_machine.specs.rules.Releases.{releases, release_rule}
use Rattle.nz_machine.specs.rules.Proxies.{stamp_rule, reply_rule, clock_rule}
use Rattle.nz_machine.specs.rules.Quorums.{decision}
use Rattle.nz_machine.specs.rules.Replicas.{commands}
use Rattle.nz_machine.specs.rules.Step.{envelope_for}
use Rattle.nz_machine.specs.runs.World.{state_after, Has, IsGroup, World}
use Rattle.nz_machine.specs.declared.client_event.ClientEvent.TheVariants.{Sent, Accepted}
use Rattle.nz_machine.specs.runs.Events.{events}
use Rattle.nz_machine.specs.runs.History.{source, decision_moment, accepted_prefix, history}
use Rattle.nz_machine.specs.runs.OneHistory.{NoCollision}
use Rattle.nz_lin.specs.Replied.{replied_lists}
use Rattle.nz_lin.proofs.Replied.{no_collision_listed}
use Rattle.nz_machine.proofs.worked.Play.{play, arrive, newest, come, all_tick, played, came, all_ticked}

-- put a 1
put : List ℕ
put = 1 ∷ 1 ∷ 97 ∷ 0 ∷ 1 ∷ 49 ∷ []

-- get a
get : List ℕ
get = 2 ∷ 1 ∷ 97 ∷ []

first : Id
first = record { client = 0; num = 1 }

second : Id
second = record { client = 0; num = 2 }

first_entry : Entry
first_entry = record { key = record { deadline = 12500; client = 0; num = 1 }; command = put }

second_entry : Entry
second_entry = record { key = record { deadline = 17500; client = 0; num = 2 }; command = get }

group : Group
group = record { f = 1; proxies = 1; window = 1; scripts = (record { wait = 0; command = put } ∷ record { wait = 0; command = get } ∷ []) ∷ [] }

-- ---- the first request

asked : List Record
asked = play group [] (Client 0) (Tick 1000)

stamped : List Record
stamped = come group 1 (Client 0) (Proxy 0) (play group asked (Proxy 0) (Tick 2000))

-- its three timed messages come
arrived : List Record
arrived = come group 2 (Proxy 0) (Replica 2) (come group 2 (Proxy 0) (Replica 1) (come group 2 (Proxy 0) (Replica 0) (all_tick group 3000 stamped)))

released : List Record
released = all_tick group 13000 arrived

decided : List Record
decided =
    come group 3 (Replica 2) (Proxy 0) (come group 3 (Replica 1) (Proxy 0) (come group 3 (Replica 0) (Proxy 0) (play group released (Proxy 0) (Tick 14000))))

-- its answer is accepted, and the second request is sent
once : List Record
once = come group 5 (Proxy 0) (Client 0) (play group decided (Client 0) (Tick 15000))

-- ---- the second request

again_stamped : List Record
again_stamped = come group 1 (Client 0) (Proxy 0) (play group once (Proxy 0) (Tick 16000))

again_arrived : List Record
again_arrived =
    come group 2 (Proxy 0) (Replica 2) (come group 2 (Proxy 0) (Replica 1) (come group 2 (Proxy 0) (Replica 0) (all_tick group 17000 again_stamped)))

again_released : List Record
again_released = all_tick group 18000 again_arrived

again_decided : List Record
again_decided =
    come group 3 (Replica 2) (Proxy 0) (come group 3 (Replica 1) (Proxy 0)
    (come group 3 (Replica 0) (Proxy 0) (play group again_released (Proxy 0) (Tick 19000))))

ended : List Record
ended = come group 5 (Proxy 0) (Client 0) (play group again_decided (Client 0) (Tick 20000))

-- ---- it is a run of the world

-- each record may follow the older ones
is_run : World group ended
unfolding group play arrive come all_tick put get first second first_entry second_entry asked stamped arrived released
    decided once again_stamped again_arrived again_released again_decided ended state_after encode_of decode_of frame refusal
    number_bytes number_at run_at limited_at optional_at items_put items_at body_at envelope_for wait_rule accept_rule
    clock_rule stamp_rule reply_rule request_rule release_rule releases decision count_below key_bytes first_words
    schedule rounds compress hash_after digest_bytes sha1 apply apply_bytes store_from replies_from key_at value_at
    choice_at command_of reading.command_body_at command_at
is_run =
    let start : IsGroup group =
    record {
      least_f = omega arith;
      most_f = omega arith;
      least_proxies = omega arith;
      most_proxies = omega arith;
      least_window = omega arith;
      most_window = omega arith;
      least_clients = omega arith;
      most_clients = omega arith;
      few_requests = omega arith;
      commands = ((record { command = refl }, (record { command = refl }, tt)), tt);
    } in
    let at_asked = played group [] (Client 0) (Tick 1000) start (omega arith) (omega arith) in
    let at_stamped = came group 1 (Client 0) (Proxy 0) (play group asked (Proxy 0) (Tick 2000))
    (played group asked (Proxy 0) (Tick 2000) at_asked (omega arith) (omega arith)) (omega arith) in
    let here = all_tick group 3000 stamped in
    let at_arrived =
    came group 2 (Proxy 0) (Replica 2) (come group 2 (Proxy 0) (Replica 1) (come group 2 (Proxy 0) (Replica 0) here))
    (came group 2 (Proxy 0) (Replica 1) (come group 2 (Proxy 0) (Replica 0) here)
    (came group 2 (Proxy 0) (Replica 0) here
    (all_ticked group 3000 stamped at_stamped (omega arith) (omega arith)) (omega arith)) (omega arith)) (omega arith) in
    let at_released = all_ticked group 13000 arrived at_arrived (omega arith) (omega arith) in
    let now = play group released (Proxy 0) (Tick 14000) in
    let at_decided =
    came group 3 (Replica 2) (Proxy 0) (come group 3 (Replica 1) (Proxy 0) (come group 3 (Replica 0) (Proxy 0) now))
    (came group 3 (Replica 1) (Proxy 0) (come group 3 (Replica 0) (Proxy 0) now)
    (came group 3 (Replica 0) (Proxy 0) now
    (played group released (Proxy 0) (Tick 14000) at_released (omega arith) (omega arith)) (omega arith)) (omega arith)) (omega arith) in
    let at_once = came group 5 (Proxy 0) (Client 0) (play group decided (Client 0) (Tick 15000))
    (played group decided (Client 0) (Tick 15000) at_decided (omega arith) (omega arith)) (omega arith) in
    let again = came group 1 (Client 0) (Proxy 0) (play group once (Proxy 0) (Tick 16000))
    (played group once (Proxy 0) (Tick 16000) at_once (omega arith) (omega arith)) (omega arith) in
    let there = all_tick group 17000 again_stamped in
    let again_heard =
    came group 2 (Proxy 0) (Replica 2) (come group 2 (Proxy 0) (Replica 1) (come group 2 (Proxy 0) (Replica 0) there))
    (came group 2 (Proxy 0) (Replica 1) (come group 2 (Proxy 0) (Replica 0) there)
    (came group 2 (Proxy 0) (Replica 0) there
    (all_ticked group 17000 again_stamped again (omega arith) (omega arith)) (omega arith)) (omega arith)) (omega arith) in
    let again_out = all_ticked group 18000 again_arrived again_heard (omega arith) (omega arith) in
    let then_now = play group again_released (Proxy 0) (Tick 19000) in
    let at_end =
    came group 3 (Replica 2) (Proxy 0) (come group 3 (Replica 1) (Proxy 0) (come group 3 (Replica 0) (Proxy 0) then_now))
    (came group 3 (Replica 1) (Proxy 0) (come group 3 (Replica 0) (Proxy 0) then_now)
    (came group 3 (Replica 0) (Proxy 0) then_now
    (played group again_released (Proxy 0) (Tick 19000) again_out (omega arith) (omega arith)) (omega arith)) (omega arith)) (omega arith) in
    came group 5 (Proxy 0) (Client 0) (play group again_decided (Client 0) (Tick 20000))
    (played group again_decided (Client 0) (Tick 20000) at_end (omega arith) (omega arith)) (omega arith)

-- ---- what the definitions say of it

-- what the client sees; where the first answer comes from; and what was accepted, after each request
record IsAsWorked : Type 0 where
  seen_once : events group once ≡ Sent first put ∷ Accepted first Done Fast ∷ Sent second get ∷ []
  seen : events group ended ≡ Sent first put ∷ Accepted first Done Fast ∷ Sent second get ∷ Accepted second (Value (49 ∷ [])) Fast ∷ []
  first_source : option_and_then (λ p. source p ended) (newest 5 (Proxy 0) (Client 0) decided) ≡ Some decided
  first_decision : decision_moment group 0 first decided ≡ Some decided
  first_prefix : option_and_then (λ p. accepted_prefix group first p ended) (newest 5 (Proxy 0) (Client 0) decided) ≡ Some (first_entry ∷ [])
  second_prefix :
      option_and_then (λ p. accepted_prefix group second p ended) (newest 5 (Proxy 0) (Client 0) again_decided) ≡ Some (first_entry ∷ second_entry ∷ [])
  history_once : history group once ≡ first_entry ∷ []
  history_then : history group ended ≡ first_entry ∷ second_entry ∷ []
  answers : replies (commands (history group ended)) ≡ Done ∷ Value (49 ∷ []) ∷ []

as_worked : IsAsWorked
unfolding group play arrive come all_tick put get first second first_entry second_entry asked stamped arrived released
    decided once again_stamped again_arrived again_released again_decided ended state_after encode_of decode_of frame refusal
    number_bytes number_at run_at limited_at optional_at items_put items_at body_at envelope_for wait_rule accept_rule
    clock_rule stamp_rule reply_rule request_rule release_rule releases decision count_below key_bytes first_words
    schedule rounds compress hash_after digest_bytes sha1 apply apply_bytes store_from replies_from key_at value_at
    choice_at command_of reading.command_body_at command_at
as_worked =
    record {
      seen_once = refl;
      seen = refl;
      first_source = refl;
      first_decision = refl;
      first_prefix = refl;
      second_prefix = refl;
      history_once = refl;
      history_then = refl;
      answers = refl;
    }

-- ---- the premise on digests holds of it

first_list : List EntryKey
first_list = map entry_key (first_entry ∷ [])

second_list : List EntryKey
second_list = map entry_key (first_entry ∷ second_entry ∷ [])

-- each replica replied over the first entry, and then over both
lists : replied_lists group ended ≡ second_list ∷ second_list ∷ second_list ∷ first_list ∷ first_list ∷ first_list ∷ []
unfolding first_list second_list group play arrive come all_tick put get first second first_entry second_entry asked
    stamped arrived released decided once again_stamped again_arrived again_released again_decided ended state_after encode_of
    decode_of frame refusal number_bytes number_at run_at limited_at optional_at items_put items_at body_at envelope_for
    wait_rule accept_rule clock_rule stamp_rule reply_rule request_rule release_rule releases decision count_below
    key_bytes first_words schedule rounds compress hash_after digest_bytes sha1 apply apply_bytes store_from replies_from
    key_at value_at choice_at command_of reading.command_body_at command_at
lists = refl

one_or_other : (keys : List EntryKey)
    → Has (second_list ∷ second_list ∷ second_list ∷ first_list ∷ first_list ∷ first_list ∷ []) keys → (keys ≡ second_list) ⊎ (keys ≡ first_list)
one_or_other keys (inl e) = inl (sym e)
one_or_other keys (inr (inl e)) = inl (sym e)
one_or_other keys (inr (inr (inl e))) = inl (sym e)
one_or_other keys (inr (inr (inr (inl e)))) = inr (sym e)
one_or_other keys (inr (inr (inr (inr (inl e))))) = inr (sym e)
one_or_other keys (inr (inr (inr (inr (inr (inl e)))))) = inr (sym e)
one_or_other keys (inr (inr (inr (inr (inr (inr h)))))) = absurd h

-- the two have different digests
differ : bytes_eq (digest first_list) (digest second_list) ≡ false
unfolding first_list second_list first_entry second_entry put get key_bytes first_words schedule rounds compress hash_after digest_bytes sha1
differ = refl

not_same : digest first_list ≡ digest second_list → ⊥
not_same e =
    let same : bytes_eq (digest first_list) (digest second_list) ≡ true = (bytes_eq-Decides (digest first_list) (digest second_list)).1 e in
    let both : true ≡ false = sym same ∙ differ in absurd cc

none_collide : NoCollision group ended
none_collide = no_collision_listed group ended is_run (λ keys others h k same.
    let here = one_or_other keys (subst (λ l. Has l keys) lists h) in
    let there = one_or_other others (subst (λ l. Has l others) lists k) in
    elim here [
      | inl a ↦ elim there [ inl b ↦ a ∙ sym b | inr b ↦ absurd (not_same (sym (ap digest b) ∙ sym same ∙ ap digest a)) ]
      | inr a ↦ elim there [ inl b ↦ absurd (not_same (sym (ap digest a) ∙ same ∙ ap digest b)) | inr b ↦ a ∙ sym b ]
    ])
