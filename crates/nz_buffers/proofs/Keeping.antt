-- Entries kept by their keys and by their ids, against the lists that clauses see.
use Rattle.std.proofs.Common.{◌≡◌, Bool, true, false, not, List, [], ◌∷◌, ◌++◌, Option, Some, None, is_some, IsSome}
use Rattle.std.proofs.Common.{IsTrue, ◌↔◌, arith, refl, sym, ap, subst, ◌∙◌, inl, inr, if◌then◌else◌}
use Rattle.std.proofs.lemmas.Bool.{cases_Bool, or_parts}
use Rattle.std.specs.List.{AllByRecursion}
use Rattle.std.specs.Map.{lookup, values_of, remove_entry}
use Rattle.std.specs.Option.{option_map}
use Rattle.std.specs.BTreeMap.{insert_entry, is_at}
use Rattle.std.specs.declared.cmp.Ordering.{Ordering}
use Rattle.std.specs.declared.cmp.Ordering.TheVariants.{Less, Equal, Greater}
use Rattle.std.specs.Ordering.{is_eq}
use Rattle.std.proofs.lemmas.List.{map-append}
use Rattle.std.proofs.lemmas.Bool.Decides.{nat_tests}
use Rattle.std.specs.Prelude.{slice_get}
use Rattle.nz_base.specs.declared.key.Id.{Id}
use Rattle.nz_base.specs.declared.key.Key.{Key}
use Rattle.nz_base.specs.declared.key.Entry.{Entry}
use Rattle.nz_base.specs.Key.{key_cmp, key_below, id_eq, id_of}
use Rattle.nz_base.specs.Log.{keys_of, has_id, HaveOwnIds, IsLog}
use Rattle.nz_base.proofs.Names.{id_eq_self, same_id, id_turn, id_turn_away}
use Rattle.nz_base.proofs.Booleans.{true_and_false}
use Rattle.nz_base.proofs.Logs.{own_push, own_filter, log_filter}
use Rattle.nz_buffers.specs.Buffers.{find_id, without, insert_by_key, first_key}
use Rattle.nz_buffers.specs.Keeping.{IsAtItsKey, IsAtItsId, IsKeptBuffer, AreByIds}
use Rattle.nz_buffers.proofs.Inserting.{log_insert}
use Rattle.nz_buffers.proofs.Removing.{without_none, find_none, find_held}

-- ---- a test of keys that finds an id

-- The test passes a key where the entry has the id.
abbrev pub Agrees : {K : Type 0} → (K → Bool) → Id → K × Entry → Type 0
Agrees test i p = test p.0 ≡ id_eq i (id_of p.1.key)

pub lookup_is : {K : Type 0} (test : K → Bool) (i : Id) (es : List (K × Entry)) → AllByRecursion (Agrees test i) es → lookup test es ≡ find_id (values_of es) i
lookup_is test i [] all = refl
lookup_is test i (p ∷ es) all =
    elim (cases_Bool (id_eq i (id_of p.1.key))) [
      | inl here ↦ rw (all.0, here) refl
      | inr away ↦ rw (all.0, away) (lookup_is test i es all.1)
    ]

pub removed_is : {K : Type 0} (test : K → Bool) (i : Id) (es : List (K × Entry)) → AllByRecursion (Agrees test i) es → HaveOwnIds (keys_of (values_of es))
    → values_of (remove_entry test es) ≡ without (values_of es) i
removed_is test i [] all own = refl
removed_is test i (p ∷ es) all own =
    elim (cases_Bool (id_eq i (id_of p.1.key))) [
      | inl here ↦
          rw (all.0, here) (sym (without_none (values_of es) i
          (subst (λ (j : Id). has_id (keys_of (values_of es)) j ≡ false) (sym (same_id i (id_of p.1.key) here)) own.0)))
      | inr away ↦ rw (all.0, away) (ap (λ (xs : List Entry). p.1 ∷ xs) (removed_is test i es all.1 own.1))
    ]

pub all_removed : {K : Type 0} (P : K × Entry → Type 0) (test : K → Bool) (es : List (K × Entry))
    → AllByRecursion P es → AllByRecursion P (remove_entry test es)
all_removed P test [] all = tt
all_removed P test (p ∷ es) all =
    elim (cases_Bool (test p.0)) [
      | inl here ↦ rw here all.1
      | inr away ↦ rw away (all.0, all_removed P test es all.1)
    ]

-- ---- by ids

pub ids_agree : (i : Id) (es : List (Id × Entry)) → AllByRecursion IsAtItsId es → AllByRecursion (Agrees (id_eq i) i) es
ids_agree i [] all = tt
ids_agree i (p ∷ es) all = (ap (id_eq i) all.0, ids_agree i es all.1)

pub by_ids_push : (es : List (Id × Entry)) (e : Entry) → AreByIds es
    → has_id (keys_of (values_of es)) (id_of e.key) ≡ false → AreByIds (es ++ (id_of e.key, e) ∷ [])
by_ids_push es e old fresh = record {
  at = more es old.at;
  own =
      subst (λ (xs : List Entry). HaveOwnIds (keys_of xs))
      (sym (map-append (λ (p : Id × Entry). p.1) es ((id_of e.key, e) ∷ []))) (own_push (values_of es) e old.own fresh);
}
  where
    more : (es : List (Id × Entry)) → AllByRecursion IsAtItsId es → AllByRecursion IsAtItsId (es ++ (id_of e.key, e) ∷ [])
    more [] all = (refl, tt)
    more (p ∷ es) all = (all.0, more es all.1)

pub by_ids_removed : (es : List (Id × Entry)) (i : Id) → AreByIds es → AreByIds (remove_entry (id_eq i) es)
by_ids_removed es i old = record {
  at = all_removed IsAtItsId (id_eq i) es old.at;
  own =
      subst (λ (xs : List Entry). HaveOwnIds (keys_of xs))
      (sym (removed_is (id_eq i) i es (ids_agree i es old.at) old.own)) (own_filter (λ (x : Entry). not (id_eq i (id_of x.key))) (values_of es) old.own);
}

-- ---- by keys

key_same : (a b : Key) → key_cmp a b ≡ Equal → a ≡ b
key_same a b h = grind (arith, nat_tests)

key_self : (a : Key) → key_cmp a a ≡ Equal
key_self a = grind (arith, nat_tests)

is_equal : (r : Ordering) → is_eq r ≡ true → r ≡ Equal
is_equal Less h = absurd cc
is_equal Equal h = refl
is_equal Greater h = absurd cc

-- the key of the entry that is found has the id
found_id : (vs : List Entry) (i : Id) (k : Key) → option_map (λ (e : Entry). e.key) (find_id vs i) ≡ Some k → id_eq i (id_of k) ≡ true
found_id [] i k h = absurd cc
found_id (v ∷ vs) i k h =
    elim (cases_Bool (id_eq i (id_of v.key))) [
      | inl here ↦ let is : v.key ≡ k = some_key v.key k (rw here at h) in subst (λ (x : Key). id_eq i (id_of x) ≡ true) is here
      | inr away ↦ found_id vs i k (rw away at h)
    ]
  where
    some_key : (a b : Key) → Some a ≡ Some b → a ≡ b
    some_key a b h = cc

agrees_away : (i : Id) (k : Key) (p : Key × Entry) → id_eq i (id_of k) ≡ true → IsAtItsKey p → id_eq i (id_of p.1.key) ≡ false → Agrees (is_at (key_cmp k)) i p
agrees_away i k p has at away =
    elim (cases_Bool (is_eq (key_cmp k p.0))) [
      | inr other ↦ other ∙ sym away
      | inl same ↦
          let is : k ≡ p.1.key = key_same k p.0 (is_equal (key_cmp k p.0) same) ∙ at in
          true_and_false (id_eq i (id_of p.1.key)) (subst (λ (x : Key). id_eq i (id_of x) ≡ true) is has) away
    ]

none_agree : (i : Id) (k : Key) (es : List (Key × Entry)) → id_eq i (id_of k) ≡ true → AllByRecursion IsAtItsKey es → has_id (keys_of (values_of es)) i ≡ false
    → AllByRecursion (Agrees (is_at (key_cmp k)) i) es
none_agree i k [] has all away = tt
none_agree i k (p ∷ es) has all away = (
  agrees_away i k p has all.0 (or_parts (id_eq i (id_of p.1.key)) (has_id (keys_of (values_of es)) i) away).0,
  none_agree i k es has all.1 (or_parts (id_eq i (id_of p.1.key)) (has_id (keys_of (values_of es)) i) away).1,
)

pub keys_agree : (i : Id) (k : Key) (es : List (Key × Entry)) → AllByRecursion IsAtItsKey es
    → HaveOwnIds (keys_of (values_of es)) → option_map (λ (e : Entry). e.key) (find_id (values_of es) i) ≡ Some k
    → AllByRecursion (Agrees (is_at (key_cmp k)) i) es
keys_agree i k [] all own h = tt
keys_agree i k (p ∷ es) all own h =
    elim (cases_Bool (id_eq i (id_of p.1.key))) [
      | inr away ↦ (agrees_away i k p (found_id (values_of (p ∷ es)) i k h) all.0 away, keys_agree i k es all.1 own.1 (rw away at h))
      | inl here ↦
          let has = found_id (values_of (p ∷ es)) i k h in
          let is : p.1.key ≡ k = some_key p.1.key k (rw here at h) in
          let free : has_id (keys_of (values_of es)) i ≡ false =
          subst (λ (j : Id). has_id (keys_of (values_of es)) j ≡ false) (sym (same_id i (id_of p.1.key) here)) own.0 in
          (ap is_eq (ap (key_cmp k) (all.0 ∙ is) ∙ key_self k) ∙ sym here, none_agree i k es has all.1 free)
    ]
  where
    some_key : (a b : Key) → Some a ≡ Some b → a ≡ b
    some_key a b h = cc

-- what a removal by the key leaves
pub kept_removed : (es : List (Key × Entry)) (keys now : List (Id × Key)) (i : Id) (k : Key) → IsKeptBuffer es keys → lookup (id_eq i) keys ≡ Some k
    → ((j : Id) → lookup (id_eq j) now ≡ (if id_eq i j then None else lookup (id_eq j) keys)) → IsKeptBuffer (remove_entry (is_at (key_cmp k)) es) now
kept_removed es keys now i k old here index =
    let vs = values_of es in
    let is : values_of (remove_entry (is_at (key_cmp k)) es) ≡ without vs i =
    removed_is (is_at (key_cmp k)) i es (keys_agree i k es old.at old.log.own_ids (sym (old.found i) ∙ here)) old.log.own_ids in
    record {
      at = all_removed IsAtItsKey (is_at (key_cmp k)) es old.at;
      log = subst IsLog (sym is) (log_filter (λ (x : Entry). not (id_eq i (id_of x.key))) vs old.log);
      found = λ j. index j ∙ elim (cases_Bool (id_eq i j)) [
        | inl same ↦
            rw same (sym (ap (λ (xs : List Entry). option_map (λ (e : Entry). e.key) (find_id xs j)) is
            ∙ ap (option_map (λ (e : Entry). e.key)) (subst (λ (m : Id). find_id (without vs i) m ≡ None) (same_id i j same) (gone vs i))))
        | inr other ↦
            rw other (old.found j ∙ ap (option_map (λ (e : Entry). e.key)) (sym (stays vs i j other))
            ∙ ap (λ (xs : List Entry). option_map (λ (e : Entry). e.key) (find_id xs j)) (sym is))
      ];
    }
  where
    gone : (vs : List Entry) (i : Id) → find_id (without vs i) i ≡ None
    gone [] i = refl
    gone (v ∷ vs) i = elim (cases_Bool (id_eq i (id_of v.key))) [
      | inl here ↦ rw here (gone vs i)
      | inr away ↦ rw away (rw away (gone vs i))
    ]

    stays : (vs : List Entry) (i j : Id) → id_eq i j ≡ false → find_id (without vs i) j ≡ find_id vs j
    stays [] i j other = refl
    stays (v ∷ vs) i j other = elim (cases_Bool (id_eq j (id_of v.key))) [
      | inl here ↦
          let away : id_eq i (id_of v.key) ≡ false = subst (λ (m : Id). id_eq i m ≡ false) (same_id j (id_of v.key) here) other in
          rw away (rw here refl)
      | inr apart ↦ elim (cases_Bool (id_eq i (id_of v.key))) [
        | inl here ↦ rw here (rw apart (stays vs i j other))
        | inr away ↦ rw away (rw apart (stays vs i j other))
      ]
    ]

-- what stays where the first entry is taken
pub kept_popped : (p : Key × Entry) (es : List (Key × Entry)) (keys now : List (Id × Key)) → IsKeptBuffer (p ∷ es) keys
    → ((i : Id) → lookup (id_eq i) now ≡ (if id_eq (id_of p.0) i then None else lookup (id_eq i) keys)) → IsKeptBuffer es now
kept_popped p es keys now old index = record {
  at = old.at.1;
  log = record { rising = old.log.rising.1; own_ids = old.log.own_ids.1 };
  found = λ i. index i ∙ ap (λ (k : Key). if id_eq (id_of k) i then None else lookup (id_eq i) keys) old.at.0 ∙ elim (cases_Bool (id_eq (id_of p.1.key) i)) [
    | inl here ↦
        rw here (sym (ap (option_map (λ (e : Entry). e.key))
        (find_none (values_of es) i (subst (λ (j : Id). has_id (keys_of (values_of es)) j ≡ false)
        (same_id (id_of p.1.key) i here) old.log.own_ids.0))))
    | inr away ↦ rw away (old.found i ∙ rw (id_turn_away (id_of p.1.key) i away) refl)
  ];
}

-- ---- a new entry

find_other : (vs : List Entry) (e : Entry) (i : Id) → id_eq i (id_of e.key) ≡ false → find_id (insert_by_key vs e) i ≡ find_id vs i
find_other [] e i away = rw away refl
find_other (v ∷ vs) e i away =
    elim (cases_Bool (key_below e.key v.key)) [
      | inl lower ↦ rw lower (rw away refl)
      | inr higher ↦ rw higher (ap (λ (o : Option Entry). if id_eq i (id_of v.key) then Some v else o) (find_other vs e i away))
    ]

find_new : (vs : List Entry) (e : Entry) (i : Id) → id_eq i (id_of e.key) ≡ true → has_id (keys_of vs) i ≡ false → find_id (insert_by_key vs e) i ≡ Some e
find_new [] e i here away = rw here refl
find_new (v ∷ vs) e i here away =
    elim (cases_Bool (key_below e.key v.key)) [
      | inl lower ↦ rw lower (rw here refl)
      | inr higher ↦
          rw higher (rw ((or_parts (id_eq i (id_of v.key)) (has_id (keys_of vs) i) away).0)
          (find_new vs e i here (or_parts (id_eq i (id_of v.key)) (has_id (keys_of vs) i) away).1))
    ]

-- Where the new entry goes, by the order of its key and the first one.
inserted : (es : List (Key × Entry)) (e : Entry) → AllByRecursion IsAtItsKey es → has_id (keys_of (values_of es)) (id_of e.key) ≡ false
    → (values_of (insert_entry key_cmp es e.key e) ≡ insert_by_key (values_of es) e) × AllByRecursion IsAtItsKey (insert_entry key_cmp es e.key e)
inserted [] e all fresh = (refl, (refl, tt))
inserted (p ∷ es) e all fresh =
    first (key_cmp e.key p.0) refl
    (inserted es e all.1 (or_parts (id_eq (id_of e.key) (id_of p.1.key)) (has_id (keys_of (values_of es)) (id_of e.key)) fresh).1)
  where
    first : (r : Ordering) → key_cmp e.key p.0 ≡ r
        → (values_of (insert_entry key_cmp es e.key e) ≡ insert_by_key (values_of es) e) × AllByRecursion IsAtItsKey (insert_entry key_cmp es e.key e)
        → (values_of (insert_entry key_cmp (p ∷ es) e.key e) ≡ insert_by_key (values_of (p ∷ es)) e)
        × AllByRecursion IsAtItsKey (insert_entry key_cmp (p ∷ es) e.key e)
    first Less is rest =
        let below : key_below e.key p.1.key ≡ true = rw (ap (key_cmp e.key) (sym all.0) ∙ is) refl in
        (rw (is, below) refl, rw is (refl, all))
    first Equal is rest =
        true_and_false (id_eq (id_of e.key) (id_of p.1.key))
        (subst (λ (k : Key). id_eq (id_of e.key) (id_of k) ≡ true) (key_same e.key p.0 is ∙ all.0)
        (id_eq_self (id_of e.key))) (or_parts (id_eq (id_of e.key) (id_of p.1.key)) (has_id (keys_of (values_of es)) (id_of e.key)) fresh).0
    first Greater is rest =
        let above : key_below e.key p.1.key ≡ false = rw (ap (key_cmp e.key) (sym all.0) ∙ is) refl in
        (rw (is, above) (ap (λ (xs : List Entry). p.1 ∷ xs) rest.0), rw is (all.0, rest.1))

pub inserted_is : (es : List (Key × Entry)) (e : Entry) → AllByRecursion IsAtItsKey es → has_id (keys_of (values_of es)) (id_of e.key) ≡ false
    → values_of (insert_entry key_cmp es e.key e) ≡ insert_by_key (values_of es) e
inserted_is es e all fresh = (inserted es e all fresh).0

pub kept_inserted : (es : List (Key × Entry)) (keys now : List (Id × Key)) (e : Entry) → IsKeptBuffer es keys
    → has_id (keys_of (values_of es)) (id_of e.key) ≡ false
    → ((i : Id) → lookup (id_eq i) now ≡ (if id_eq (id_of e.key) i then Some e.key else lookup (id_eq i) keys))
    → IsKeptBuffer (insert_entry key_cmp es e.key e) now
kept_inserted es keys now e old fresh index =
    let is = inserted_is es e old.at fresh in
    record {
      at = (inserted es e old.at fresh).1;
      log = subst IsLog (sym is) (log_insert (values_of es) e old.log fresh);
      found = λ i. index i ∙ elim (cases_Bool (id_eq (id_of e.key) i)) [
        | inl here ↦
            let free : has_id (keys_of (values_of es)) i ≡ false =
            subst (λ (j : Id). has_id (keys_of (values_of es)) j ≡ false) (same_id (id_of e.key) i here) fresh in
            rw here (sym (ap (λ (xs : List Entry). option_map (λ (x : Entry). x.key) (find_id xs i)) is
            ∙ ap (option_map (λ (x : Entry). x.key)) (find_new (values_of es) e i (id_turn (id_of e.key) i here) free)))
        | inr away ↦
            rw away (old.found i ∙ sym (ap (λ (xs : List Entry). option_map (λ (x : Entry). x.key) (find_id xs i)) is
            ∙ ap (option_map (λ (x : Entry). x.key)) (find_other (values_of es) e i (id_turn_away (id_of e.key) i away))))
      ];
    }

-- ---- look-ups

pub none_found : (vs : List Entry) (i : Id) → None ≡ option_map (λ (e : Entry). e.key) (find_id vs i) → find_id vs i ≡ None
none_found vs i h = none (find_id vs i) h
  where
    none : (o : Option Entry) → None ≡ option_map (λ (e : Entry). e.key) o → o ≡ None
    none None h = refl
    none (Some e) h = absurd cc

pub none_without : (vs : List Entry) (i : Id) → find_id vs i ≡ None → vs ≡ without vs i
none_without vs i h = sym (without_none vs i (sym (find_held vs i) ∙ ap is_some h))

-- an answer that is what is found shows whether the id is held
pub answer_held : (o : Option Entry) (vs : List Entry) (i : Id) → o ≡ find_id vs i → IsSome o ↔ IsTrue (has_id (keys_of vs) i)
answer_held o vs i is = (λ some. sym (find_held vs i) ∙ ap is_some (sym is) ∙ some, λ held. ap is_some is ∙ find_held vs i ∙ held)

pub first_at : (es : List (Key × Entry)) (k : Key) (e : Entry) → AllByRecursion IsAtItsKey es → slice_get es 0 ≡ Some (k, e) → Some k ≡ first_key (values_of es)
first_at [] k e all h = absurd cc
first_at (p ∷ es) k e all h = let same : p ≡ (k, e) = some_pair p (k, e) h in ap (λ (x : Key). Some x) (sym (ap (λ (q : Key × Entry). q.0) same) ∙ all.0)
  where
    some_pair : (a b : Key × Entry) → Some a ≡ Some b → a ≡ b
    some_pair a b h = cc
