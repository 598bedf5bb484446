-- The entry that is put in has the key of the first one that is not synced: it takes that one's place.
use Rattle.nz_base.specs.declared.limits.TheConstants.{MAX_ENTRIES}
use Rattle.std.proofs.Common.{◌≡◌, ℕ, zero, suc, ◌+◌, ◌<◌, ◌≤◌, true, false, List, [], ◌∷◌, ◌++◌, length, take, drop, get_or, set}
use Rattle.std.proofs.Common.{map, Option, Some, refl, sym, ap, subst, ◌∙◌, arith, append_assoc, length-set, if◌then◌else◌}
use Rattle.std.specs.List.{filter}
use Rattle.std.specs.Option.{option_map}
use Rattle.std.proofs.lemmas.List.{get_or_default, take-append-drop, take-map, length-map, take_more_set, drop-set-lt}
use Rattle.nz_base.specs.declared.key.Id.{Id}
use Rattle.nz_base.specs.declared.key.Key.{Key}
use Rattle.nz_base.specs.declared.key.Entry.{Entry}
use Rattle.nz_base.specs.Key.{key_below, id_eq, id_of}
use Rattle.nz_base.specs.Log.{keys_of, has_key, has_id, AreRising, HaveOwnIds, IsLog}
use Rattle.nz_base.proofs.Names.{id_eq_self}
use Rattle.nz_base.proofs.Keys.{key_below-self}
use Rattle.nz_base.proofs.Logs.{keys_append, has_first, has_later, rising_back}
use Rattle.nz_digest.specs.Digests.{EntryKey, digest}
use Rattle.nz_log.specs.Places.{place_of, entry_key, digest_of_log}
use Rattle.nz_log.specs.Synced.{Log, IsSound, synced_part, unsynced_part, stays_after, is_displaced, log_with_synced, displaced_entries}
use Rattle.nz_log.specs.Keeping.{IsKeptLog, IsSummed, IsNext}
use Rattle.nz_log.proofs.Indexing.{next_one, own_last}
use Rattle.nz_log.proofs.LedKeys.{all_stay}

-- ---- what the keys alone decide

pub log_by_keys : (es fs : List Entry) → keys_of es ≡ keys_of fs → IsLog es → IsLog fs
log_by_keys es fs same log = record { rising = subst AreRising same log.rising; own_ids = subst HaveOwnIds same log.own_ids }

pub place_by_keys : (es fs : List Entry) (i : Id) → keys_of es ≡ keys_of fs → place_of es i ≡ place_of fs i
place_by_keys [] [] i same = refl
place_by_keys [] (f ∷ fs) i same = absurd cc
place_by_keys (e ∷ es) [] i same = absurd cc
place_by_keys (e ∷ es) (f ∷ fs) i same =
    let head : e.key ≡ f.key = cc in
    let tail : keys_of es ≡ keys_of fs = cc in
    ap (λ (k : Key). if id_eq i (id_of k) then Some 0 else option_map suc (place_of es i)) head
    ∙ ap (λ (o : Option ℕ). if id_eq i (id_of f.key) then Some 0 else option_map suc o) (place_by_keys es fs i tail)

pub digest_by_keys : (es fs : List Entry) → keys_of es ≡ keys_of fs → digest_of_log es ≡ digest_of_log fs
digest_by_keys es fs same = ap digest (named es fs same)
  where
    named : (es fs : List Entry) → keys_of es ≡ keys_of fs → map entry_key es ≡ map entry_key fs
    named [] [] same = refl
    named [] (f ∷ fs) same = absurd cc
    named (e ∷ es) [] same = absurd cc
    named (e ∷ es) (f ∷ fs) same =
        let head : e.key ≡ f.key = cc in
        let tail : keys_of es ≡ keys_of fs = cc in
        ap (λ (k : Key). record { deadline = k.deadline; client = k.client; num = k.num } ∷ map entry_key es) head
        ∙ ap (λ (ks : List EntryKey). entry_key f ∷ ks) (named es fs tail)

pub summed_by_keys : (es fs : List Entry) (ds : List (List ℕ)) → keys_of es ≡ keys_of fs → IsSummed es ds → IsSummed fs ds
summed_by_keys es fs ds same summed =
    let long : length es ≡ length fs = sym (length-map es (λ (e : Entry). e.key)) ∙ ap length same ∙ length-map fs (λ (e : Entry). e.key) in
    let count : length ds ≡ length es = summed.count in
    record {
      count = count ∙ long;
      sums = λ k within d.
          let first : keys_of (take (suc k) es) ≡ keys_of (take (suc k) fs) =
          sym (take-map (λ (e : Entry). e.key) (suc k) es) ∙ ap (take (suc k)) same ∙ take-map (λ (e : Entry). e.key) (suc k) fs in
          summed.sums k (omega (arith, long, within)) d ∙ digest_by_keys (take (suc k) es) (take (suc k) fs) first;
    }

-- ---- an entry in the place of one with its key

keys_set : (es : List Entry) (n : ℕ) (e : Entry) → n < length es → ((d : Entry) → (get_or es n d).key ≡ e.key) → keys_of (set es n e) ≡ keys_of es
keys_set [] n e within same = absurd (omega arith)
keys_set (x ∷ es) zero e within same = ap (λ (k : Key). k ∷ keys_of es) (sym (same e))
keys_set (x ∷ es) (suc n) e within same = ap (λ (ks : List Key). x.key ∷ ks) (keys_set es n e (omega arith) same)

-- none of greater keys loses its place
none_displaced : (key : Key) (es : List Entry) → ((x : Key) → has_key (keys_of es) x ≡ true → key_below key x ≡ true) → filter (is_displaced key) es ≡ []
none_displaced key [] above = refl
none_displaced key (e ∷ es) above =
    rw (above e.key (has_first e.key (keys_of es))) (none_displaced key es (λ x there. above x (has_later e.key (keys_of es) x there)))

module _ (log : Log) (e : Entry) (sound : IsSound log) (next : IsNext log e.key) where
  abbrev head : Entry
  head = get_or log.entries log.synced e

  abbrev rest : List Entry
  rest = drop (log.synced + 1) log.entries

  unsynced_is : unsynced_part log ≡ head ∷ rest
  unsynced_is = next_one log.entries log.synced head next.within (get_or_default log.entries log.synced e head next.within)

  parts : keys_of log.entries ≡ keys_of (synced_part log) ++ head.key ∷ keys_of rest
  parts = sym (ap keys_of (take-append-drop log.synced log.entries)) ∙ keys_append (synced_part log) (unsynced_part log)
      ∙ ap (λ (es : List Entry). keys_of (synced_part log) ++ keys_of es) unsynced_is

  rising : AreRising (head.key ∷ keys_of rest)
  rising = rising_back (keys_of (synced_part log)) (head.key ∷ keys_of rest) (subst AreRising parts sound.ordered.rising)

  own : HaveOwnIds (head.key ∷ keys_of rest)
  own = own_last (keys_of (synced_part log)) (head.key ∷ keys_of rest) (subst HaveOwnIds parts sound.ordered.own_ids)

  above : (x : Key) → has_key (keys_of rest) x ≡ true → key_below e.key x ≡ true
  above x there = subst (λ (k : Key). key_below k x ≡ true) (next.same e) (rising.0 x there)

  apart : has_id (keys_of rest) (id_of e.key) ≡ false
  apart = subst (λ (k : Key). has_id (keys_of rest) (id_of k) ≡ false) (next.same e) own.0

  pub displaces_none : displaced_entries log e ≡ []
  displaces_none =
      let here : id_eq (id_of e.key) (id_of head.key) ≡ true = ap (λ (k : Key). id_eq (id_of e.key) (id_of k)) (next.same e) ∙ id_eq_self (id_of e.key) in
      let low : key_below e.key head.key ≡ false = ap (key_below e.key) (next.same e) ∙ key_below-self e.key in
      ap (filter (is_displaced e.key)) unsynced_is ∙ rw (low, here) (none_displaced e.key rest above)

  pub modified_in_place : log_with_synced log e ≡ record { entries = set log.entries log.synced e; synced = log.synced + 1 }
  modified_in_place =
      let low : key_below e.key head.key ≡ false = ap (key_below e.key) (next.same e) ∙ key_below-self e.key in
      let kept : filter (stays_after e.key) (unsynced_part log) ≡ rest =
      ap (filter (stays_after e.key)) unsynced_is ∙ rw low (all_stay e.key rest above apart) in
      let now = set log.entries log.synced e in
      let whole : synced_part log ++ e ∷ rest ≡ now =
      sym (append_assoc (synced_part log) (e ∷ []) rest)
      ∙ ap (λ (xs : List Entry). xs ++ rest) (sym (take_more_set log.entries log.synced e next.within))
      ∙ ap (λ (xs : List Entry). take (log.synced + 1) now ++ xs) (sym (drop-set-lt (log.synced + 1) log.entries log.synced e (omega arith)))
      ∙ take-append-drop (log.synced + 1) now in
      ap (λ (xs : List Entry). record { entries = synced_part log ++ e ∷ xs; synced = log.synced + 1 }) kept
      ∙ ap (λ (xs : List Entry). record { entries = xs; synced = log.synced + 1 }) whole

  pub kept_in_place : (sums : List (List ℕ)) (places : List (Id × ℕ)) → IsKeptLog log sums places
      → IsKeptLog (record { entries = set log.entries log.synced e; synced = log.synced + 1 }) sums places
  kept_in_place sums places kept =
      let now = set log.entries log.synced e in
      let keys : keys_of log.entries ≡ keys_of now = sym (keys_set log.entries log.synced e next.within next.same) in
      let long : length now ≡ length log.entries = length-set log.entries log.synced e in
      let within : log.synced < length log.entries = next.within in
      let few : length log.entries ≤ MAX_ENTRIES = sound.few in
      record {
        sound = record { ordered = log_by_keys log.entries now keys sound.ordered; within = omega (arith, long, within); few = omega (arith, long, few) };
        summed = summed_by_keys log.entries now sums keys kept.summed;
        found = λ i. kept.found i ∙ place_by_keys log.entries now i keys;
      }
