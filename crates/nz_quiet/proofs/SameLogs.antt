-- A log modification with keys of the follower's own log changes nothing but its sync point.
use Rattle.std.proofs.Common.{◌≡◌, ℕ, zero, suc, ◌+◌, Bool, true, false, not, ◌&&◌, List, [], ◌∷◌, ◌++◌, drop}
use Rattle.std.proofs.Common.{Option, Some, arith, refl, sym, ap, subst, ◌∙◌, append_assoc, add-one}
use Rattle.std.specs.List.{filter}
use Rattle.std.specs.Option.{option_or}
use Rattle.std.proofs.lemmas.Bool.{cond_both, and_from, or_parts}
use Rattle.std.proofs.lemmas.List.{take-append-drop}
use Rattle.nz_base.specs.Prefixes.{IsPrefix}
use Rattle.nz_base.specs.declared.key.Id.{Id}
use Rattle.nz_base.specs.declared.key.Key.{Key}
use Rattle.nz_base.specs.declared.key.Entry.{Entry}
use Rattle.nz_base.specs.Key.{key_below, id_eq, id_of}
use Rattle.nz_base.specs.Log.{keys_of, has_key, has_id, AreRising, HaveOwnIds}
use Rattle.nz_base.proofs.Keys.{key_below-self}
use Rattle.nz_base.proofs.Names.{id_eq_self}
use Rattle.nz_base.proofs.Logs.{has_first, has_later, has_id-append, keys_append, rising_back, own_in_prefix}
use Rattle.nz_log.specs.Synced.{Log, synced_part, unsynced_part, stays_after, is_displaced, log_with_synced, displaced_entries}
use Rattle.nz_buffers.specs.Buffers.{find_id, without}
use Rattle.nz_machine.specs.rules.State.{ReplicaData}
use Rattle.nz_machine.specs.rules.LogMods.{entry_of_id, may_sync, synced_with, if_found, sync_keys}
use Rattle.nz_quiet.specs.Replicas.{with_synced, synced_to, IsCalm, IsSynced}
use Rattle.nz_machine.proofs.facts.KeysApart.{own_rest}

-- ---- an entry that is where it belongs

-- later entries stay after it
rest_stays : (k : Key) (es : List Entry) → ((x : Key) → has_key (keys_of es) x ≡ true → key_below k x ≡ true) → has_id (keys_of es) (id_of k) ≡ false
    → (filter (stays_after k) es ≡ es) × (filter (is_displaced k) es ≡ [])
rest_stays k [] above fresh = (refl, refl)
rest_stays k (e ∷ es) above fresh =
    let parts = or_parts (id_eq (id_of k) (id_of e.key)) (has_id (keys_of es) (id_of k)) fresh in
    let rest = rest_stays k es (λ x h. above x (has_later e.key (keys_of es) x h)) parts.1 in
    let below : key_below k e.key ≡ true = above e.key (has_first e.key (keys_of es)) in
    let stay : stays_after k e ≡ true = and_from (key_below k e.key) (not (id_eq (id_of k) (id_of e.key))) below (ap not parts.0) in
    let gone : is_displaced k e ≡ false = ap (λ (b : Bool). not b && not (id_eq (id_of k) (id_of e.key))) below in
    (rw stay (ap (λ (xs : List Entry). e ∷ xs) rest.0), rw gone rest.1)

-- without an id that is not there
without_none : (es : List Entry) (i : Id) → has_id (keys_of es) i ≡ false → without es i ≡ es
without_none [] i none = refl
without_none (e ∷ es) i none =
    let parts = or_parts (id_eq i (id_of e.key)) (has_id (keys_of es) i) none in
    rw parts.0 (ap (λ (xs : List Entry). e ∷ xs) (without_none es i parts.1))

-- the entry is the first that is not synced
record IsNext (log : Log) (e : Entry) (rest : List Entry) : Type 0 where
  here : unsynced_part log ≡ e ∷ rest
  rising : AreRising (keys_of log.entries)
  own_ids : HaveOwnIds (keys_of log.entries)

split_at : (log : Log) → log.entries ≡ synced_part log ++ unsynced_part log
split_at log = sym (take-append-drop log.synced log.entries)

next_stays : (log : Log) (e : Entry) (rest : List Entry) → IsNext log e rest
    → (log_with_synced log e ≡ with_synced log (log.synced + 1)) × (displaced_entries log e ≡ [])
next_stays log e rest next =
    let front = synced_part log in
    let whole : log.entries ≡ front ++ e ∷ rest = split_at log ∙ ap (λ (xs : List Entry). front ++ xs) next.here in
    let split : keys_of log.entries ≡ keys_of front ++ keys_of (e ∷ rest) = ap keys_of whole ∙ keys_append front (e ∷ rest) in
    let rising = rising_back (keys_of front) (keys_of (e ∷ rest)) (subst AreRising split next.rising) in
    let own = own_rest (keys_of front) (keys_of (e ∷ rest)) (subst HaveOwnIds split next.own_ids) in
    let later = rest_stays e.key rest rising.0 own.0 in
    let own_id = id_eq (id_of e.key) (id_of e.key) in
    let not_after : stays_after e.key e ≡ false = ap (λ (b : Bool). b && not own_id) (key_below-self e.key) in
    let not_gone : is_displaced e.key e ≡ false = ap (λ (b : Bool). not b && not own_id) (key_below-self e.key) ∙ ap not (id_eq_self (id_of e.key)) in
    let stay : filter (stays_after e.key) (e ∷ rest) ≡ rest = rw not_after later.0 in
    let gone : filter (is_displaced e.key) (e ∷ rest) ≡ [] = rw not_gone later.1 in
    let entries : front ++ e ∷ filter (stays_after e.key) (unsynced_part log) ≡ log.entries =
    ap (λ (xs : List Entry). front ++ e ∷ filter (stays_after e.key) xs) next.here ∙ ap (λ (xs : List Entry). front ++ e ∷ xs) stay ∙ sym whole in (
      (λ i. record { entries = entries i; synced = log.synced + 1 }),
      ap (filter (is_displaced e.key)) next.here ∙ gone,
    )

-- ---- the keys in turn

next_of : (s : ReplicaData) (e : Entry) (rest : List Entry) → IsCalm s → unsynced_part s.log ≡ e ∷ rest → IsNext s.log e rest
next_of s e rest calm here = record {
  here = here;
  rising = calm.rising;
  own_ids = own_in_prefix (keys_of s.log.entries) (keys_of s.early) (subst HaveOwnIds (keys_append s.log.entries s.early) calm.own_ids);
}

-- the id of the next entry is not early
not_early : (front early : List Entry) (e : Entry) (rest : List Entry) → HaveOwnIds (keys_of ((front ++ e ∷ rest) ++ early))
    → has_id (keys_of early) (id_of e.key) ≡ false
not_early front early e rest own =
    let back : HaveOwnIds (keys_of (e ∷ (rest ++ early))) =
    own_rest (keys_of front) (keys_of (e ∷ (rest ++ early)))
    (subst HaveOwnIds (ap keys_of (append_assoc front (e ∷ rest) early) ∙ keys_append front (e ∷ (rest ++ early))) own) in
    (or_parts (has_id (keys_of rest) (id_of e.key)) (has_id (keys_of early) (id_of e.key))
    (sym (ap (λ (ks : List Key). has_id ks (id_of e.key)) (keys_append rest early) ∙ has_id-append (keys_of rest) (keys_of early) (id_of e.key)) ∙ back.0)).1

synced_same : (s : ReplicaData) (e : Entry) (rest : List Entry) → IsCalm s → unsynced_part s.log ≡ e ∷ rest → synced_with s e ≡ synced_to s (s.log.synced + 1)
synced_same s e rest calm here =
    let both = next_stays s.log e rest (next_of s e rest calm here) in
    let whole : s.log.entries ≡ synced_part s.log ++ e ∷ rest = split_at s.log ∙ ap (λ (xs : List Entry). synced_part s.log ++ xs) here in
    let apart = not_early (synced_part s.log) s.early e rest (subst (λ (xs : List Entry). HaveOwnIds (keys_of (xs ++ s.early))) whole calm.own_ids) in
    let early = without_none s.early (id_of e.key) apart in
    let late : without (s.late ++ displaced_entries s.log e) (id_of e.key) ≡ s.late =
    ap (λ (xs : List Entry). without (s.late ++ xs) (id_of e.key)) both.1
    ∙ ap (λ (xs : List Entry). without (xs ++ []) (id_of e.key)) calm.none_late ∙ sym calm.none_late in
    λ i. record s { log = both.0 i; early = early i; late = late i }

found_next : (s : ReplicaData) (e : Entry) (rest : List Entry) → unsynced_part s.log ≡ e ∷ rest → entry_of_id s (id_of e.key) ≡ Some e
found_next s e rest here =
    let own : find_id (e ∷ rest) (id_of e.key) ≡ Some e = rw (id_eq_self (id_of e.key)) refl in
    let found : find_id (unsynced_part s.log) (id_of e.key) ≡ Some e = ap (λ (xs : List Entry). find_id xs (id_of e.key)) here ∙ own in
    ap (λ (o : Option Entry). option_or o (option_or (find_id s.early (id_of e.key)) (find_id s.late (id_of e.key)))) found

drop_more : {X : Type 0} (n : ℕ) (xs : List X) (x : X) (rest : List X) → drop n xs ≡ x ∷ rest → drop (suc n) xs ≡ rest
drop_more zero xs x rest e = ap (drop 1) e
drop_more (suc n) [] x rest e = absurd cc
drop_more (suc n) (y ∷ xs) x rest e = drop_more n xs x rest e

drop_next : {X : Type 0} (n : ℕ) (xs : List X) (x : X) (rest : List X) → drop n xs ≡ x ∷ rest → drop (n + 1) xs ≡ rest
drop_next {X} n xs x rest e = ap (λ (k : ℕ). drop k xs) (add-one n) ∙ drop_more n xs x rest e

pub sync_same : (s : ReplicaData) (keys : List Key) (rest : List Entry) → IsCalm s → unsynced_part s.log ≡ rest → IsPrefix keys (keys_of rest)
    → IsSynced s keys (sync_keys s keys)
unfolding sync_keys
sync_same s [] rest calm here prefix = record { count = s.log.synced; most = omega arith; state = refl; none_missing = refl }
sync_same s (k ∷ keys) [] calm here prefix = let wrong = prefix.whole in absurd cc
sync_same s (k ∷ keys) (e ∷ rest) calm here prefix =
    let whole = prefix.whole in
    let same : e.key ≡ k = cc in
    let left : keys_of rest ≡ keys ++ prefix.rest = cc in
    let t = synced_to s (s.log.synced + 1) in
    let ih = sync_same t keys rest (record { rising = calm.rising; own_ids = calm.own_ids; none_late = calm.none_late })
    (drop_next s.log.synced s.log.entries e rest here) (record { rest = prefix.rest; whole = left }) in
    let most = ih.most in
    let next : IsSynced s (k ∷ keys) (sync_keys t keys) =
    record { count = ih.count; most = omega (arith, most); state = ih.state; none_missing = ih.none_missing } in
    let found : entry_of_id s (id_of k) ≡ Some e = subst (λ (x : Key). entry_of_id s (id_of x) ≡ Some e) same (found_next s e rest here) in
    let put : synced_with s (record { key = k; command = e.command }) ≡ t =
    subst (λ (x : Key). synced_with s (record { key = x; command = e.command }) ≡ t) same (synced_same s e rest calm here) in
    let go = λ (x : Entry). sync_keys (synced_with s (record { key = k; command = x.command })) keys in
    let taken : if_found (entry_of_id s (id_of k)) (s, k ∷ keys) go ≡ sync_keys t keys =
    ap (λ (o : Option Entry). if_found o (s, k ∷ keys) go) found ∙ ap (λ (x : ReplicaData). sync_keys x keys) put in
    cond_both (may_sync s k) (if_found (entry_of_id s (id_of k)) (s, k ∷ keys) go) (s, []) (IsSynced s (k ∷ keys))
    (λ _. subst (IsSynced s (k ∷ keys)) (sym taken) next)
    (λ _. record { count = s.log.synced; most = omega arith; state = refl; none_missing = refl })
