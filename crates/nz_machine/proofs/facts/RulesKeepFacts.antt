-- Each word on a replica's state, and each of its rules, keeps what its state always has.
use Rattle.std.proofs.Common.{◌≡◌, ℕ, ◌+◌, ◌<◌, ◌≤◌, ◌^◌, Bool, true, false, List, [], ◌∷◌, ◌++◌, length}
use Rattle.std.proofs.Common.{Option, Some, None, refl, sym, ap, subst, ◌∙◌, inl, arith, length-append}
use Rattle.std.specs.Prelude.{nat_le}
use Rattle.std.proofs.lemmas.Bool.{le-leb, ltb-true, and_from, and_parts}
use Rattle.std.proofs.lemmas.List.{length-replicate}
use Rattle.indexmap.specs.IndexMap.{insert_entry}
use Rattle.nz_base.specs.Cluster.{replica_count}
use Rattle.nz_base.specs.declared.key.Id.{Id}
use Rattle.nz_base.specs.declared.key.Entry.{Entry}
use Rattle.nz_base.specs.Key.{id_eq, id_of}
use Rattle.nz_base.specs.Log.{keys_of, has_id, is_above_last}
use Rattle.nz_base.proofs.Booleans.{true_and_false}
use Rattle.nz_base.proofs.Keys.{KeyBelow-test}
use Rattle.nz_base.proofs.Logs.{above_none, above_some}
use Rattle.nz_base.specs.declared.limits.TheConstants.{MAX_DEADLINE, MAX_ENTRIES}
use Rattle.nz_log.specs.Synced.{Log}
use Rattle.nz_machine.specs.rules.Vectors.{with_vector}
use Rattle.nz_store.specs.Sequence.{replies_from, answer_after}
use Rattle.nz_store.specs.declared.command.Answer.{Answer}
use Rattle.nz_msg.specs.declared.message.TimedBody.{TimedBody}
use Rattle.nz_msg.specs.Messages.{timed}
use Rattle.nz_msg.specs.Fields.{answer}
use Rattle.nz_log.specs.Places.{last_entry}
use Rattle.nz_buffers.specs.Buffers.{insert_by_key, without}
use Rattle.nz_machine.specs.declared.data.Origin.{Origin}
use Rattle.nz_machine.specs.declared.data.Status.{Status}
use Rattle.nz_machine.specs.declared.data.Status.TheVariants.{Normal, Rejoining, Down}
use Rattle.nz_machine.specs.rules.State.{ReplicaData}
use Rattle.nz_machine.specs.rules.Facts.{FitsEntry, IsKnown, AreCounters, AreArranged, AreHeld, AreExecuted, HasFacts}
use Rattle.nz_machine.specs.rules.Replicas.{is_normal, is_up, leads, key_with_deadline, commands, first_replica, crashed_replica}
use Rattle.nz_machine.specs.rules.Requests.{to_early, entry_at, next_deadline}
use Rattle.nz_machine.specs.rules.Rejoining.{restarted_replica}
use Rattle.nz_machine.specs.rules.Releases.{log_with_entry, results_with_entry, after_release, log_has_room, may_release}
use Rattle.nz_machine.proofs.lists.EachItem.{all_append, all_imply, all_replicate}
use Rattle.nz_machine.proofs.lists.ListParts.{insert_each}
use Rattle.nz_machine.proofs.lists.Tables.{merged_counters}
use Rattle.nz_machine.proofs.facts.Stores.{answer_fits, replies_pushed}
use Rattle.nz_machine.proofs.facts.ArrangedEntries.{arranged_early, arranged_release}
use Rattle.nz_machine.proofs.facts.Guards.{normal_up}

-- the entries of a state with the facts are in order, each in one place
pub arranged : (f me : ℕ) (s : ReplicaData) → HasFacts f me s → AreArranged s.log.entries s.early s.late
arranged f me s h = h.entries.arranged

abbrev fresh : ℕ → Status → ℕ → ReplicaData
fresh f mode nonce = let s = first_replica f in record s { status = mode; rejoin = record s.rejoin { nonce = nonce } }

fresh_has_facts : (f me : ℕ) (mode : Status) (nonce : ℕ) → nonce < 2 ^ 64 → HasFacts f me (fresh f mode nonce)
unfolding replies_from
fresh_has_facts f me mode nonce low = record {
  clocks = record { clock = omega arith; quiet = omega arith; since = omega arith; rejoining = λ h. omega arith };
  mode = record { view = omega arith; last = omega arith; normal = λ h. refl };
  entries = record { arranged = record { rising = tt; own_ids = tt; fit = tt }; few = omega arith; within = omega arith };
  commit = omega arith;
  tables = record {
    vector = record { size = length-replicate (replica_count f) 0; small = all_replicate (λ n. n < 2 ^ 32) (replica_count f) 0 (omega arith) };
    acks = length-replicate (replica_count f) 0;
    few = all_replicate (λ n. n ≤ MAX_ENTRIES) (replica_count f) 0 (omega arith);
    origins = tt;
  };
  executed =
      record {
        answers = tt;
        led = λ normal lead. record { synced = refl; results = refl; acks = all_replicate (λ a. a ≤ 0) (replica_count f) 0 (omega arith) };
        forgotten = λ away. refl;
      };
  reports = record { each = tt; own_senders = tt };
  rejoin = record { nonce = low; claim = omega arith; wanted = omega arith; tellers = tt; own_tellers = tt; tells = tt; own_tells = tt };
}

pub first_has_facts : (f me : ℕ) → HasFacts f me (first_replica f)
first_has_facts f me = fresh_has_facts f me Normal 0 (omega arith)

pub crashed_has_facts : (f me : ℕ) → HasFacts f me (crashed_replica f)
crashed_has_facts f me = fresh_has_facts f me Down 0 (omega arith)

pub restarted_has_facts : (f me nonce : ℕ) → nonce < 2 ^ 64 → HasFacts f me (restarted_replica f nonce)
restarted_has_facts f me nonce low = fresh_has_facts f me Rejoining nonce low

-- ---- one word

pub origin_keeps : (f me : ℕ) (s : ReplicaData) (id : Id) (origin : Origin) → HasFacts f me s → IsKnown (id, origin)
    → HasFacts f me (record s { origin = insert_entry id_eq s.origin id origin })
origin_keeps f me s id origin h known = let all = insert_each IsKnown s.origin id origin h.tables.origins known in grind (arith, h, all)

pub vector_keeps : (f me : ℕ) (s : ReplicaData) (vector : List ℕ) → HasFacts f me s → AreCounters f vector → HasFacts f me (with_vector me s vector)
vector_keeps f me s vector h counters = let all = merged_counters f s.vector vector me h.tables.vector counters in grind (arith, h, all)

-- other entries wait
pub waiting_keeps : (f me : ℕ) (s : ReplicaData) (early late : List Entry) → HasFacts f me s → AreArranged s.log.entries early late
    → HasFacts f me (record s { early = early; late = late })
waiting_keeps f me s early late h a = grind (arith, h, a)

pub early_keeps : (f me : ℕ) (s : ReplicaData) (e : Entry) → HasFacts f me s → FitsEntry e
    → is_above_last (keys_of s.log.entries) e.key ≡ true → has_id (keys_of s.log.entries) (id_of e.key) ≡ false → has_id (keys_of s.early) (id_of e.key) ≡ false
    → HasFacts f me (to_early s e)
early_keeps f me s e h fits above logged held =
    waiting_keeps f me s (insert_by_key s.early e) (without s.late (id_of e.key)) h
    (arranged_early s.log.entries s.early s.late e (arranged f me s h) fits above logged held)

-- ---- an entry is released

pub has_place_left : (s : ReplicaData) (e : Entry) → may_release s e ≡ true → length s.log.entries < MAX_ENTRIES
has_place_left s e may = ltb-true (length s.log.entries) MAX_ENTRIES (and_parts _ (log_has_room s) may).1

pub released_held : (b : Bool) (l : Log) (e : Entry) (es fs : List Entry) → length l.entries < MAX_ENTRIES → AreHeld l (e ∷ es) fs
    → AreHeld (log_with_entry b l e) es fs
released_held true l e es fs room h =
    let long : length (l.entries ++ e ∷ []) ≡ length l.entries + 1 = length-append l.entries (e ∷ []) in
    record { arranged = arranged_release l.entries e es fs h.arranged; few = omega (arith, long, room); within = omega arith }
released_held false l e es fs room h =
    let long : length (l.entries ++ e ∷ []) ≡ length l.entries + 1 = length-append l.entries (e ∷ []) in
    let within = h.within in
    record { arranged = arranged_release l.entries e es fs h.arranged; few = omega (arith, long, room); within = omega (arith, long, within) }

pub released_executed : (f me : ℕ) (s : ReplicaData) (e : Entry) (b : Bool) → is_normal s.status ≡ true → leads f me s ≡ b
    → AreExecuted f me s.status s.view s.log s.results s.ack
    → AreExecuted f me s.status s.view (log_with_entry b s.log e) (results_with_entry b s.results s.log.entries e) s.ack
released_executed f me s e true normal lead h = record {
  answers = all_append answer.fits s.results _ h.answers (answer_fits (commands s.log.entries) e.command, tt);
  led = λ _ leading.
      let d = h.led normal leading in
      let long : length (s.log.entries ++ e ∷ []) ≡ length s.log.entries + 1 = length-append s.log.entries (e ∷ []) in
      record {
        synced = refl;
        results = ap (λ (xs : List Answer). xs ++ answer_after (commands s.log.entries) e.command ∷ []) d.results ∙ sym (replies_pushed s.log.entries e);
        acks = all_imply (λ n. n ≤ length s.log.entries) (λ n. n ≤ length (s.log.entries ++ e ∷ [])) (λ n le. omega (arith, long, le)) s.ack d.acks;
      };
  forgotten = λ away. true_and_false (is_up s.status) (normal_up s.status normal) away;
}
released_executed f me s e false normal follows h = record {
  answers = h.answers;
  led = λ _ leading. true_and_false (leads f me s) leading follows;
  forgotten = λ away. true_and_false (is_up s.status) (normal_up s.status normal) away;
}

pub released_keeps : (f me : ℕ) (s : ReplicaData) (e : Entry) (es : List Entry) → HasFacts f me s → is_normal s.status ≡ true → s.early ≡ e ∷ es
    → length s.log.entries < MAX_ENTRIES → HasFacts f me (after_release f me s e es)
released_keeps f me s e es h normal is room =
    let more : s.commit ≤ (log_with_entry (leads f me s) s.log e).synced = grind (arith, h, length-append) in
    let held = released_held (leads f me s) s.log e es s.late room (subst (λ (xs : List Entry). AreHeld s.log xs s.late) is h.entries) in
    let executed = released_executed f me s e (leads f me s) normal refl h.executed in
    grind (arith, h, more, held, executed)

-- ---- a request's entry

-- a key of a deadline in range, and of an id that came in a message
pub entry_fits : (deadline : ℕ) (b : TimedBody) → timed.fits b → deadline ≤ MAX_DEADLINE → FitsEntry (entry_at deadline b)
entry_fits deadline b fits low =
    record {
      key = (
        (
          omega arith,
          and_from (nat_le 0 deadline) (nat_le deadline MAX_DEADLINE)
              (le-leb 0 deadline (omega arith)) (le-leb deadline MAX_DEADLINE low),
        ),
        fits.1.1.0,
      );
      command = fits.1.1.1;
    }

pub above_next : (log : List Entry) (b : TimedBody) (last : Option Entry) → last_entry log ≡ last
    → is_above_last (keys_of log) (key_with_deadline (next_deadline last) b.id) ≡ true
above_next log b None is = above_none log (key_with_deadline 1 b.id) is
above_next log b (Some last) is =
    let key = key_with_deadline (last.key.deadline + 1) b.id in
    above_some log key last is ∙ KeyBelow-test last.key key (inl (omega arith))
