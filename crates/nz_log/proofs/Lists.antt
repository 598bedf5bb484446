-- Entries of a log, one more or fewer.
use Rattle.std.proofs.Common.{◌≡◌, Bool, true, false, not, ◌||◌, List, [], ◌∷◌, ◌++◌, refl, sym, subst, ◌∙◌, inl, inr}
use Rattle.std.specs.List.{filter}
use Rattle.std.proofs.lemmas.Bool.{not-true, cases_Bool, or_cases, and_parts, or_parts}
use Rattle.nz_base.specs.declared.key.Key.{Key}
use Rattle.nz_base.specs.declared.key.Entry.{Entry}
use Rattle.nz_base.specs.Key.{key_below, key_eq, id_eq, id_of}
use Rattle.nz_base.specs.Log.{keys_of, has_key, has_id, AreRising, HaveOwnIds, IsLog, is_above_last}
use Rattle.nz_base.proofs.Names.{same_key}
use Rattle.nz_base.proofs.Logs.{has_id-append, keys_append, above_each, rising_join, rising_prefix}
use Rattle.nz_base.proofs.Logs.{rising_back, own_join, has_id_filter, rising_filter, own_filter}
use Rattle.nz_log.specs.Synced.{stays_after}

-- what stays after a key is above it, and of other ids
stay_above : (key : Key) (es : List Entry) (y : Key) → has_key (keys_of (filter (stays_after key) es)) y ≡ true → key_below key y ≡ true
stay_above key [] y h = absurd cc
stay_above key (e ∷ es) y h =
    elim (cases_Bool (stays_after key e)) [
      | inr gone ↦ stay_above key es y (rw gone at h)
      | inl kept ↦ elim (or_cases (key_eq y e.key) (has_key (keys_of (filter (stays_after key) es)) y) (rw kept at h)) [
        | inl first ↦
            subst (λ (z : Key). key_below key z ≡ true) (sym (same_key y e.key first))
            (and_parts (key_below key e.key) (not (id_eq (id_of key) (id_of e.key))) kept).0
        | inr there ↦ stay_above key es y there
      ]
    ]

stay_apart : (key : Key) (es : List Entry) → has_id (keys_of (filter (stays_after key) es)) (id_of key) ≡ false
stay_apart key [] = refl
stay_apart key (e ∷ es) =
    elim (cases_Bool (stays_after key e)) [
      | inr gone ↦ rw gone (stay_apart key es)
      | inl kept ↦
          rw (
            kept,
            not-true (id_eq (id_of key) (id_of e.key))
                (and_parts (key_below key e.key) (not (id_eq (id_of key) (id_of e.key))) kept).1,
          ) (stay_apart key es)
    ]

-- ids stay apart where some of the back go
own_back : (xs : List Entry) (p : Entry → Bool) (ys : List Entry) → HaveOwnIds (keys_of xs ++ keys_of ys) → HaveOwnIds (keys_of xs ++ keys_of (filter p ys))
own_back [] p ys own = own_filter p ys own
own_back (x ∷ xs) p ys own =
    let i = id_of x.key in
    let parted : (has_id (keys_of xs) i || has_id (keys_of ys) i) ≡ false = sym (has_id-append (keys_of xs) (keys_of ys) i) ∙ own.0 in
    let new : has_id (keys_of xs ++ keys_of (filter p ys)) i ≡ false =
    has_id-append (keys_of xs) (keys_of (filter p ys)) i
    ∙ (rw ((or_parts (has_id (keys_of xs) i) (has_id (keys_of ys) i) parted).0)
    (has_id_filter p ys i (or_parts (has_id (keys_of xs) i) (has_id (keys_of ys) i) parted).1)) in
    (new, own_back xs p ys own.1)

-- an entry after a prefix, before what stays
pub log_put : (prefix : List Entry) (e : Entry) (back : List Entry) → IsLog (prefix ++ back)
    → is_above_last (keys_of prefix) e.key ≡ true → has_id (keys_of prefix) (id_of e.key) ≡ false
    → IsLog (prefix ++ e ∷ filter (stays_after e.key) back)
log_put prefix e back log above fresh =
    let kept = filter (stays_after e.key) back in
    let parts = keys_append prefix back in
    let same = sym (keys_append prefix (e ∷ kept)) in
    let rising = subst AreRising parts log.rising in
    let lower = rising_prefix (keys_of prefix) (keys_of back) rising in
    record {
      rising =
          subst AreRising same (rising_join (keys_of prefix) e.key (keys_of kept) lower
          (rising_filter (stays_after e.key) back (rising_back (keys_of prefix) (keys_of back) rising))
          (λ x h. above_each (keys_of prefix) e.key x lower above h) (λ y h. stay_above e.key back y h));
      own_ids =
          subst HaveOwnIds same (own_join (keys_of prefix) e.key (keys_of kept)
          (own_back prefix (stays_after e.key) back (subst HaveOwnIds parts log.own_ids)) fresh (stay_apart e.key back));
    }

-- ---- the last entry
