-- Whether a key may follow others, seen by the last of them and by the ids of all.
use Rattle.std.proofs.Common.{◌≡◌, Bool, true, false, not, ◌&&◌, ◌||◌, List, [], ◌∷◌, ◌++◌, map, refl, sym, ap, subst, ◌∙◌, inl, inr}
use Rattle.std.proofs.lemmas.Bool.{cases_Bool, or_parts, and_parts, not-true}
use Rattle.std.specs.List.{list_any}
use Rattle.std.proofs.lemmas.List.{map-append}
use Rattle.indexmap.specs.IndexSet.{insert_key}
use Rattle.nz_base.specs.declared.key.Id.{Id}
use Rattle.nz_base.specs.declared.key.Key.{Key}
use Rattle.nz_base.specs.declared.key.Entry.{Entry}
use Rattle.nz_base.specs.Key.{key_below, id_eq, id_of}
use Rattle.nz_base.specs.Log.{keys_of, has_key, has_id, AreRising, is_above_last}
use Rattle.nz_base.proofs.Booleans.{true_and_false}
use Rattle.nz_base.proofs.Names.{id_turn_away}
use Rattle.nz_base.proofs.Logs.{has_first, has_later, above_each, rising_more, keys_append}
use Rattle.nz_msg.specs.Fields.{may_follow}
use Rattle.nz_msg.specs.Reading.{AreNoted}

abbrev follows : List Key → Key → Bool
follows before k = may_follow (λ (x : Key). x) before k

false_from : (b c : Bool) → (b ≡ true → c ≡ true) → c ≡ false → b ≡ false
false_from true c h k = true_and_false c (h refl) k
false_from false c h k = refl

-- what follows keys is above the last of them
follows_above : (before : List Key) (k : Key) → follows before k ≡ true → is_above_last before k ≡ true
follows_above [] k h = refl
follows_above (a ∷ []) k h =
    (and_parts (key_below a k) (not (id_eq (id_of a) (id_of k)))
    (and_parts (key_below a k && not (id_eq (id_of a) (id_of k))) (follows [] k) h).0).0
follows_above (a ∷ b ∷ before) k h =
    follows_above (b ∷ before) k (and_parts (key_below a k && not (id_eq (id_of a) (id_of k))) (follows (b ∷ before) k) h).1

-- and its id is none of theirs
follows_fresh : (before : List Key) (k : Key) → follows before k ≡ true → has_id before (id_of k) ≡ false
follows_fresh [] k h = refl
follows_fresh (a ∷ before) k h =
    let own = (and_parts (key_below a k && not (id_eq (id_of a) (id_of k))) (follows before k) h).0 in
    let away =
    id_turn_away (id_of a) (id_of k)
    (not-true (id_eq (id_of a) (id_of k)) (and_parts (key_below a k) (not (id_eq (id_of a) (id_of k))) own).1) in
    rw away (follows_fresh before k (and_parts (key_below a k && not (id_eq (id_of a) (id_of k))) (follows before k) h).1)

follows_all : (before : List Key) (k : Key) → ((x : Key) → has_key before x ≡ true → key_below x k ≡ true)
    → has_id before (id_of k) ≡ false → follows before k ≡ true
follows_all [] k below fresh = refl
follows_all (a ∷ before) k below fresh =
    let first : key_below a k ≡ true = below a (has_first a before) in
    let other : id_eq (id_of a) (id_of k) ≡ false =
    id_turn_away (id_of k) (id_of a) (or_parts (id_eq (id_of k) (id_of a)) (has_id before (id_of k)) fresh).0 in
    rw (first, other) (follows_all before k (λ x h. below x (has_later a before x h))
    (or_parts (id_eq (id_of k) (id_of a)) (has_id before (id_of k)) fresh).1)

-- the last of rising keys is enough for all of them
pub follows_last : (before : List Key) (k : Key) → AreRising before
    → follows before k ≡ (is_above_last before k && not (has_id before (id_of k)))
follows_last before k rising =
    elim (cases_Bool (is_above_last before k)) [
      | inr under ↦ rw under (false_from (follows before k) (is_above_last before k) (follows_above before k) under)
      | inl above ↦ elim (cases_Bool (has_id before (id_of k))) [
        | inr fresh ↦ rw (above, fresh) (follows_all before k (λ x h. above_each before k x rising above h) fresh)
        | inl there ↦ rw (above, there) (repeats there)
      ]
    ]
  where
    repeats : has_id before (id_of k) ≡ true → follows before k ≡ false
    repeats there = elim (cases_Bool (follows before k)) [
      | inl next ↦ true_and_false (has_id before (id_of k)) there (follows_fresh before k next)
      | inr stays ↦ stays
    ]

-- ---- entries

-- what may follow entries may follow their keys
pub by_keys : (before : List Entry) (k : Key) → may_follow (λ (e : Entry). e.key) before k ≡ follows (keys_of before) k
by_keys [] k = refl
by_keys (e ∷ before) k = ap (λ (b : Bool). (key_below e.key k && not (id_eq (id_of e.key) (id_of k))) && b) (by_keys before k)

pub follows_last_entry : (before : List Entry) (k : Key) → AreRising (keys_of before)
    → may_follow (λ (e : Entry). e.key) before k ≡ (is_above_last (keys_of before) k && not (has_id (keys_of before) (id_of k)))
follows_last_entry before k rising = by_keys before k ∙ follows_last (keys_of before) k rising

-- the ids of entries are in the set of them
has_noted : (before : List Entry) (i : Id) → list_any (id_eq i) (map (λ (e : Entry). id_of e.key) before) ≡ has_id (keys_of before) i
has_noted [] i = refl
has_noted (e ∷ before) i = ap (λ (b : Bool). id_eq i (id_of e.key) || b) (has_noted before i)

pub is_noted : (before : List Entry) (ids : List Id) (i : Id) → AreNoted before ids → list_any (id_eq i) ids ≡ has_id (keys_of before) i
is_noted before ids i noted = ap (list_any (id_eq i)) noted.ids_are ∙ has_noted before i

-- one more entry
pub noted_more : (before : List Entry) (ids : List Id) (e : Entry) → AreNoted before ids → may_follow (λ (x : Entry). x.key) before e.key ≡ true
    → AreNoted (before ++ e ∷ []) (insert_key id_eq ids (id_of e.key))
noted_more before ids e noted next =
    let after : follows (keys_of before) e.key ≡ true = sym (by_keys before e.key) ∙ next in
    let fresh : list_any (id_eq (id_of e.key)) ids ≡ false = is_noted before ids (id_of e.key) noted ∙ follows_fresh (keys_of before) e.key after in
    let added : insert_key id_eq ids (id_of e.key) ≡ ids ++ id_of e.key ∷ [] = rw fresh refl in
    record {
      rising = subst AreRising (sym (keys_append before (e ∷ []))) (rising_more (keys_of before) e.key noted.rising (follows_above (keys_of before) e.key after));
      ids_are = added ∙ ap (λ (is : List Id). is ++ id_of e.key ∷ []) noted.ids_are ∙ sym (map-append (λ (x : Entry). id_of x.key) before (e ∷ []));
    }
