-- What a log modification does to a log, beside any list in which its keys have their places.
use Rattle.std.proofs.Common.{◌≡◌, ℕ, ◌-◌, ◌≤◌, not, Bool, true, false, cond, List, [], ◌∷◌, ◌++◌, length}
use Rattle.std.proofs.Common.{take, drop, Option, Some, None, refl, sym, ap, subst, ◌∙◌, arith}
use Rattle.std.proofs.lemmas.Bool.{ltb-true, not-true, and_parts}
use Rattle.std.proofs.lemmas.List.{length-map, length-take-le, take-map}
use Rattle.std.proofs.Math.Seq.{take-length}
use Rattle.nz_base.specs.declared.key.Key.{Key}
use Rattle.nz_base.specs.declared.key.Entry.{Entry}
use Rattle.nz_base.specs.Key.{id_of}
use Rattle.nz_base.specs.Log.{keys_of, has_id, is_above_last}
use Rattle.nz_base.specs.Prefixes.{IsPrefix}
use Rattle.nz_base.proofs.Prefixes.{prefix_self, prefix_then, prefix_take, prefix_length, take_of_prefix}
use Rattle.nz_base.specs.declared.limits.TheConstants.{MAX_KEYS, MAX_ENTRIES}
use Rattle.nz_log.specs.Synced.{Log, IsSound, synced_part}
use Rattle.nz_log.proofs.Modifying.{modified_sound}
use Rattle.nz_log.proofs.LedKeys.{syncs, ModifiesLog, KeepsPrefixes, keeps, named_ahead}
use Rattle.nz_log.proofs.LedKeys as loops
use Rattle.nz_msg.specs.declared.message.LogModBody.{LogModBody}
use Rattle.nz_machine.specs.rules.State.{ReplicaData}
use Rattle.nz_machine.specs.rules.LogMods.{entry_of_id, may_sync, synced_with, if_found, sync_keys}
use Rattle.nz_laws_cv.proofs.Outcomes.{law_state, Taken, Modifies}

-- ---- what else is kept

found_state : (s : ReplicaData) (k : Key) (keys : List Key)
    → ((t : ReplicaData) → law_state (sync_keys t keys).0 ≡ law_state (record t { log = (sync_keys t keys).0.log })) → (o : Option Entry)
    → law_state (if_found o (s, k ∷ keys) (λ e. sync_keys (synced_with s (record { key = k; command = e.command })) keys)).0
    ≡ law_state (record s { log = (if_found o (s, k ∷ keys) (λ e. sync_keys (synced_with s (record { key = k; command = e.command })) keys)).0.log })
found_state s k keys rest None = refl
found_state s k keys rest (Some e) = rest (synced_with s (record { key = k; command = e.command }))

tested_state : (b : Bool) (s : ReplicaData) (t : ReplicaData × List Key) → law_state t.0 ≡ law_state (record s { log = t.0.log })
    → law_state (cond b t (s, [])).0 ≡ law_state (record s { log = (cond b t (s, [])).0.log })
tested_state true s t h = h
tested_state false s t h = refl

pub sync_state : (s : ReplicaData) (keys : List Key) → law_state (sync_keys s keys).0 ≡ law_state (record s { log = (sync_keys s keys).0.log })
unfolding sync_keys
sync_state s [] = refl
sync_state s (k ∷ keys) = tested_state (may_sync s k) s _ (found_state s k keys (λ t. sync_state t keys) (entry_of_id s (id_of k)))

-- ---- the keys in turn

-- the loop of the rule is the loop of the lemma
sync_same : (s : ReplicaData) (ks : List Key) → (sync_keys s ks).0 ≡ syncs (λ (x : ReplicaData). x.log) may_sync entry_of_id synced_with s ks
unfolding sync_keys syncs loops.if_found
sync_same s [] = refl
sync_same s (k ∷ ks) = by_test (may_sync s k) (entry_of_id s (id_of k)) (λ t. sync_same t ks)
  where
    by_test : (b : Bool) (o : Option Entry)
        → ((t : ReplicaData) → (sync_keys t ks).0 ≡ syncs (λ (x : ReplicaData). x.log) may_sync entry_of_id synced_with t ks)
        → (cond b (if_found o (s, k ∷ ks) (λ e. sync_keys (synced_with s (record { key = k; command = e.command })) ks)) (s, [])).0
        ≡ cond b (loops.if_found o s
        (λ e. syncs (λ (x : ReplicaData). x.log) may_sync entry_of_id synced_with (synced_with s (record { key = k; command = e.command })) ks)) s
    by_test false o rest = refl
    by_test true None rest = refl
    by_test true (Some e) rest = rest (synced_with s (record { key = k; command = e.command }))

fits : ModifiesLog (λ (x : ReplicaData). x.log) may_sync entry_of_id synced_with
fits = record {
  is = λ s e. refl;
  sound = λ s e may sound.
      let above = (and_parts (is_above_last (keys_of (synced_part s.log)) e.key) _ may).0 in
      let rest = (and_parts (is_above_last (keys_of (synced_part s.log)) e.key) _ may).1 in
      let fresh =
      not-true (has_id (keys_of (synced_part s.log)) (id_of e.key))
      (and_parts (not (has_id (keys_of (synced_part s.log)) (id_of e.key))) _ rest).0 in
      let room = ltb-true (length s.log.entries) MAX_ENTRIES (and_parts (not (has_id (keys_of (synced_part s.log)) (id_of e.key))) _ rest).1 in
      modified_sound s.log e sound above fresh room;
}

part_is : (log : Log) → keys_of (synced_part log) ≡ take log.synced (keys_of log.entries)
part_is log = sym (take-map (λ (e : Entry). e.key) log.synced log.entries)

part_long : (log : Log) → IsSound log → length (keys_of (synced_part log)) ≡ log.synced
part_long log sound = length-map (synced_part log) (λ (x : Entry). x.key) ∙ length-take-le log.synced log.entries sound.within

-- the keys of a leader's log from start on
pub taken : (s : ReplicaData) (early : List Key) (start count : ℕ) → IsSound s.log → start ≤ s.log.synced
    → Taken early s.log (sync_keys s (drop (s.log.synced - start) (take count (drop start early)))).0.log
taken s early start count sound le =
    subst (λ (t : ReplicaData). Taken early s.log t.log) (sym (sync_same s (drop (s.log.synced - start) (take count (drop start early))))) whole
  where
    beside : (lead : List Key) → IsPrefix (take s.log.synced (keys_of s.log.entries)) lead → IsPrefix early lead
        → KeepsPrefixes (λ (x : ReplicaData). x.log) may_sync entry_of_id synced_with lead s
        (syncs (λ (x : ReplicaData). x.log) may_sync entry_of_id synced_with s (drop (s.log.synced - start) (take count (drop start early))))
    beside lead prefix early_prefix =
        let A = keys_of (synced_part s.log) in
        let long = part_long s.log sound in
        let a : IsPrefix A lead = subst (λ (l : List Key). IsPrefix l lead) (sym (part_is s.log)) prefix in
        let ahead = named_ahead A early lead start count a early_prefix (omega (arith, le, long)) in
        let ahead_now = subst (λ (n : ℕ). IsPrefix (A ++ drop (n - start) (take count (drop start early))) lead) long ahead in
        keeps (λ (x : ReplicaData). x.log) may_sync entry_of_id synced_with fits lead s
        (drop (s.log.synced - start) (take count (drop start early))) sound ahead_now

    whole : Taken early s.log
        (syncs (λ (x : ReplicaData). x.log) may_sync entry_of_id synced_with s (drop (s.log.synced - start) (take count (drop start early)))).log
    whole =
        let keys = drop (s.log.synced - start) (take count (drop start early)) in
        let t = syncs (λ (x : ReplicaData). x.log) may_sync entry_of_id synced_with s keys in
        let A = keys_of (synced_part s.log) in
        let here = keeps (λ (x : ReplicaData). x.log) may_sync entry_of_id synced_with fits (A ++ keys) s keys sound (prefix_self (A ++ keys)) in
        let long = part_long s.log sound in
        let long_after = part_long t.log here.sound in
        let more = prefix_length A (keys_of (synced_part t.log)) here.grown in
        let within : IsPrefix A (keys_of t.log.entries) =
        prefix_then A (keys_of (synced_part t.log)) (keys_of t.log.entries) here.grown
        (subst (λ (l : List Key). IsPrefix l (keys_of t.log.entries)) (sym (part_is t.log)) (prefix_take t.log.synced (keys_of t.log.entries))) in
        record {
          synced = omega (arith, long, long_after, more);
          entries = sym (part_is s.log) ∙ sym (take-length A) ∙ ap (λ (n : ℕ). take n A) long
              ∙ take_of_prefix s.log.synced A (keys_of t.log.entries) within (omega (arith, long));
          part = λ lead prefix early_prefix. let k = beside lead prefix early_prefix in subst (λ (l : List Key). IsPrefix l lead) (part_is t.log) k.synced;
          prefixes = λ lead prefix early_prefix. (beside lead prefix early_prefix).prefixes;
        }

-- a log modification of the view's leader
pub modifies : (s : ReplicaData) (b : LogModBody) → b.start ≤ s.log.synced → Modifies b s.log (sync_keys s (drop (s.log.synced - b.start) b.keys)).0.log
modifies s b le = record {
  taken = λ sound early is.
      subst (λ (keys : List Key). Taken early s.log (sync_keys s (drop (s.log.synced - b.start) keys)).0.log) (sym is)
      (taken s early b.start MAX_KEYS sound le);
}
