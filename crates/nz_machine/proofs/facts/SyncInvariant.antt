-- What the code keeps of a replica that agrees with the leader's log.
use Rattle.std.proofs.Common.{◌≡◌, ℕ, ◌+◌, ◌<◌, ◌≤◌, true, false, not, max, min, List, [], ◌∷◌, ◌++◌, length, map, take, get_or, refl, sym, ap, subst, ◌∙◌}
use Rattle.std.specs.List.{AllByRecursion, filter}
use Rattle.std.proofs.lemmas.List.{append-nil, map-append, take_more}
use Rattle.std.proofs.lemmas.List.Elements.{filter-append}
use Rattle.nz_base.specs.declared.key.Id.{Id}
use Rattle.nz_base.specs.declared.key.Key.{Key}
use Rattle.nz_base.specs.declared.key.Entry.{Entry}
use Rattle.nz_base.specs.Key.{id_of}
use Rattle.nz_base.proofs.Booleans.{true_and_false}
use Rattle.nz_cv.specs.Vectors.{merged_vector}
use Rattle.nz_store.specs.Entries.{Entries}
use Rattle.nz_log.specs.Synced.{Log}
use Rattle.nz_msg.specs.Fields.{key}
use Rattle.nz_machine.specs.rules.State.{ReplicaData}
use Rattle.nz_machine.specs.rules.Facts.{HasFacts, IsKeptReplica, AreCounters, AreApart}
use Rattle.nz_machine.specs.rules.Replicas.{is_normal, leads}
use Rattle.nz_machine.specs.rules.LogMods.{is_held, with_ack, commit_point, sync_keys, overtaken_to_late, committed_to, missing_ids}
use Rattle.nz_machine.specs.rules.Taking.{with_parts}
use Rattle.nz_machine.proofs.facts.KeysKeepFacts.{apart_held, keys_taken, taken_keeps}
use Rattle.nz_machine.proofs.facts.RulesKeepFacts.{vector_keeps}
use Rattle.nz_machine.proofs.facts.SyncKeepsFacts.{report_keeps}

pub kept_vector : (f me : ℕ) (s : ReplicaData) (store : Entries) (other vector : List ℕ) → IsKeptReplica f me s store
    → AreCounters f other → vector ≡ merged_vector s.vector other me
    → IsKeptReplica f me (record s { vector = vector }) store
kept_vector f me s store other vector k counters is =
    record {
      member = k.member;
      facts = subst (λ (v : List ℕ). HasFacts f me (record s { vector = v })) (sym is) (vector_keeps f me s other k.facts counters);
      store = λ normal lead. k.store normal lead;
    }

pub kept_apart : (f me : ℕ) (s : ReplicaData) (store : Entries) → IsKeptReplica f me s store → AreApart s.log s.early s.late
kept_apart f me s store k = apart_held s.log s.early s.late k.facts.entries

pub kept_sync : (f me : ℕ) (s : ReplicaData) (store : Entries) (keys : List Key) (commit : ℕ) (log : Log)
    (early late : List Entry) (committed : ℕ) → IsKeptReplica f me s store
    → is_normal s.status ≡ true → leads f me s ≡ false → AllByRecursion key.fits keys
    → overtaken_to_late (sync_keys s keys).0 ≡ with_parts s log early late → committed ≡ max s.commit (min commit log.synced)
    → IsKeptReplica f me (record s { log = log; early = early; late = late; commit = committed }) store
kept_sync f me s store keys commit log early late committed k normal follows fit is committed-is =
    let all = taken_keeps f me s (sync_keys s keys).0 commit k.facts normal follows (keys_taken s keys (apart_held s.log s.early s.late k.facts.entries) fit) in
    let now : HasFacts f me (record s { log = log; early = early; late = late; commit = max s.commit (min commit log.synced) }) =
    subst (λ (t : ReplicaData). HasFacts f me (committed_to t commit)) is all in
    record {
      member = k.member;
      facts = subst (λ (n : ℕ). HasFacts f me (record s { log = log; early = early; late = late; commit = n })) (sym committed-is) now;
      store = λ normal lead. true_and_false (leads f me s) lead follows;
    }

pub sync_state : (s : ReplicaData) (keys : List Key) (commit : ℕ) (log : Log) (early late : List Entry) (committed : ℕ)
    → overtaken_to_late (sync_keys s keys).0 ≡ with_parts s log early late → committed ≡ max s.commit (min commit log.synced)
    → record s { log = log; early = early; late = late; commit = committed } ≡ committed_to (overtaken_to_late (sync_keys s keys).0) commit
sync_state s keys commit log early late committed is committed-is =
    (λ i. record s { log = log; early = early; late = late; commit = committed-is i }) ∙ ap (λ (t : ReplicaData). committed_to t commit) (sym is)

-- ---- missing ids, one more

missing_next : (s : ReplicaData) (keys : List Key) (k : Key) → missing_ids s (keys ++ k ∷ []) ≡ missing_ids s keys ++ missing_ids s (k ∷ [])
missing_next s keys k =
    ap (λ (is : List Id). filter (λ i. not (is_held s i)) is) (map-append id_of keys (k ∷ []))
    ∙ filter-append (λ i. not (is_held s i)) (map id_of keys) (map id_of (k ∷ []))

pub missing_held : (s : ReplicaData) (keys : List Key) (i : ℕ) (d : Key) → i < length keys → is_held s (id_of (get_or keys i d)) ≡ true
    → missing_ids s (take (i + 1) keys) ≡ missing_ids s (take i keys)
missing_held s keys i d within held =
    ap (missing_ids s) (take_more keys i d within) ∙ missing_next s (take i keys) (get_or keys i d)
    ∙ (rw held (append-nil (missing_ids s (take i keys))))

pub missing_more : (s : ReplicaData) (keys : List Key) (i : ℕ) (d : Key) → i < length keys → is_held s (id_of (get_or keys i d)) ≡ false
    → missing_ids s (take (i + 1) keys) ≡ missing_ids s (take i keys) ++ id_of (get_or keys i d) ∷ []
missing_more s keys i d within none =
    ap (missing_ids s) (take_more keys i d within) ∙ missing_next s (take i keys) (get_or keys i d)
    ∙ (rw none refl)

-- ---- a report is noted

pub kept_report : (f me : ℕ) (s : ReplicaData) (store : Entries) (sender synced : ℕ) (ack : List ℕ) (committed : ℕ)
    → IsKeptReplica f me s store → is_normal s.status ≡ true → leads f me s ≡ true
    → synced ≤ length s.log.entries → ack ≡ (with_ack s sender synced).ack
    → committed ≡ max s.commit (commit_point f me ack) → IsKeptReplica f me (record s { commit = committed; ack = ack }) store
kept_report f me s store sender synced ack committed k normal lead low ack-is committed-is =
    let at : committed ≡ max s.commit (commit_point f me (with_ack s sender synced).ack) =
    committed-is ∙ ap (λ (xs : List ℕ). max s.commit (commit_point f me xs)) ack-is in
    record {
      member = k.member;
      facts = subst (λ (xs : List ℕ). HasFacts f me (record s { commit = committed; ack = xs })) (sym ack-is)
          (subst (λ (n : ℕ). HasFacts f me (record s { commit = n; ack = (with_ack s sender synced).ack })) (sym at)
          (report_keeps f me s sender synced k.facts normal lead low));
      store = λ n l. k.store n l;
    }
