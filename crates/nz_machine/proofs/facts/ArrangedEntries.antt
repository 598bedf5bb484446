-- The entries of a replica, of which each id is in one place: the log, early after it, and late.
use Rattle.std.proofs.Common.{◌≡◌, true, false, ◌||◌, List, [], ◌∷◌, ◌++◌, sym, ap, subst, ◌∙◌, inl, inr, append_assoc}
use Rattle.std.proofs.lemmas.Bool.{cases_Bool, or_parts}
use Rattle.std.specs.List.{AllByRecursion}
use Rattle.nz_base.specs.declared.key.Id.{Id}
use Rattle.nz_base.specs.declared.key.Key.{Key}
use Rattle.nz_base.specs.declared.key.Entry.{Entry}
use Rattle.nz_base.specs.Key.{key_below, id_eq, id_of}
use Rattle.nz_base.specs.Log.{keys_of, has_id, is_above_last, AreRising, HaveOwnIds}
use Rattle.nz_base.proofs.Booleans.{true_and_false}
use Rattle.nz_base.proofs.Names.{same_id}
use Rattle.nz_base.proofs.Logs.{keys_append, has_id-append, rising_prefix, rising_back, has_first, prefix_below, above_last}
use Rattle.nz_base.proofs.Logs.{above_each, own_in_prefix, own_id, own_push, own_filter, has_id_filter}
use Rattle.nz_buffers.specs.Buffers.{insert_by_key, without}
use Rattle.nz_buffers.proofs.Inserting.{has_key_insert, rising_insert, has_id_insert, own_insert}
use Rattle.nz_machine.specs.rules.Facts.{FitsEntry, AreArranged}
use Rattle.nz_machine.proofs.lists.EachItem.{all_append, all_of_prefix, all_back, all_filter, all_insert}
use Rattle.nz_machine.proofs.facts.KeysApart.{rising_both, own_apart, own_both, own_rest, none_of, has_id_inserted, gone_without}

-- ---- its parts

keys_of_all : (log early late : List Entry) → keys_of (log ++ (early ++ late)) ≡ keys_of log ++ (keys_of early ++ keys_of late)
keys_of_all log early late = keys_append log (early ++ late) ∙ ap (λ (ks : List Key). keys_of log ++ ks) (keys_append early late)

rising_parts : (log early late : List Entry) → AreArranged log early late → AreRising (keys_of log ++ keys_of early)
rising_parts log early late a = subst AreRising (keys_append log early) a.rising

own_parts : (log early late : List Entry) → AreArranged log early late → HaveOwnIds (keys_of log ++ (keys_of early ++ keys_of late))
own_parts log early late a = subst HaveOwnIds (keys_of_all log early late) a.own_ids

-- an id of the log is neither in early nor in late
away_from_early : (log early late : List Entry) (i : Id) → AreArranged log early late → has_id (keys_of log) i ≡ true → has_id (keys_of early) i ≡ false
away_from_early log early late i a there =
    let none : (has_id (keys_of early) i || has_id (keys_of late) i) ≡ false =
    sym (has_id-append (keys_of early) (keys_of late) i)
    ∙ own_apart (keys_of log) (keys_of early ++ keys_of late) i (own_parts log early late a) there in
    (or_parts (has_id (keys_of early) i) (has_id (keys_of late) i) none).0

away_from_late : (log early late : List Entry) (i : Id) → AreArranged log early late → has_id (keys_of log) i ≡ true → has_id (keys_of late) i ≡ false
away_from_late log early late i a there =
    let none : (has_id (keys_of early) i || has_id (keys_of late) i) ≡ false =
    sym (has_id-append (keys_of early) (keys_of late) i)
    ∙ own_apart (keys_of log) (keys_of early ++ keys_of late) i (own_parts log early late a) there in
    (or_parts (has_id (keys_of early) i) (has_id (keys_of late) i) none).1

-- ---- an entry goes to early

another : (keys : List Key) (i j : Id) → has_id keys i ≡ true → has_id keys j ≡ false → id_eq i j ≡ false
another keys i j there none =
    elim (cases_Bool (id_eq i j)) [
      | inl same ↦ true_and_false (has_id keys j) (subst (λ (k : Id). has_id keys k ≡ true) (same_id i j same) there) none
      | inr apart ↦ apart
    ]

pub arranged_early : (log early late : List Entry) (e : Entry) → AreArranged log early late → FitsEntry e
    → is_above_last (keys_of log) e.key ≡ true → has_id (keys_of log) (id_of e.key) ≡ false → has_id (keys_of early) (id_of e.key) ≡ false
    → AreArranged log (insert_by_key early e) (without late (id_of e.key))
arranged_early log early late e a fits above logged held =
    let i = id_of e.key in
    let rising = rising_parts log early late a in
    let lower = rising_prefix (keys_of log) (keys_of early) rising in
    let upper = rising_back (keys_of log) (keys_of early) rising in
    let own = own_parts log early late a in
    let back = own_rest (keys_of log) (keys_of early ++ keys_of late) own in
    let more = insert_by_key early e in
    let fewer = without late i in
    let joined : HaveOwnIds (keys_of more ++ keys_of fewer) =
    own_both (keys_of more) (keys_of fewer) (own_insert early e (own_in_prefix (keys_of early) (keys_of late) back) held)
    (own_filter _ late (own_rest (keys_of early) (keys_of late) back))
    (λ j there. elim (has_id_inserted early e j there) [
      | inl same ↦ subst (λ (k : Id). has_id (keys_of fewer) k ≡ false) (sym same) (gone_without late i)
      | inr old ↦ has_id_filter _ late j (own_apart (keys_of early) (keys_of late) j back old)
    ]) in
    record {
      rising = subst AreRising (sym (keys_append log more)) (rising_both (keys_of log) (keys_of more) lower (rising_insert early e upper held)
          (λ x y first last. elim (has_key_insert early e y last) [
            | inl same ↦ subst (λ (k : Key). key_below x k ≡ true) (sym same) (above_each (keys_of log) e.key x lower above first)
            | inr old ↦ prefix_below (keys_of log) (keys_of early) x y rising first old
          ]));
      own_ids =
          subst HaveOwnIds (sym (keys_of_all log more fewer))
          (own_both (keys_of log) (keys_of more ++ keys_of fewer) (own_in_prefix (keys_of log) (keys_of early ++ keys_of late) own) joined
          (λ j there. none_of (keys_of more) (keys_of fewer) j
          (has_id_insert early e j (away_from_early log early late j a there)
          (another (keys_of log) j i there logged)) (has_id_filter _ late j (away_from_late log early late j a there))));
      fit =
          let rest = all_back FitsEntry log (early ++ late) a.fit in
          all_append FitsEntry log (more ++ fewer) (all_of_prefix FitsEntry log (early ++ late) a.fit)
          (all_append FitsEntry more fewer (all_insert FitsEntry early e (all_of_prefix FitsEntry early late rest) fits)
          (all_filter FitsEntry _ late (all_back FitsEntry early late rest)));
    }

-- ---- an entry goes to late

pub arranged_late : (log early late : List Entry) (e : Entry) → AreArranged log early late → FitsEntry e
    → has_id (keys_of log) (id_of e.key) ≡ false → has_id (keys_of early) (id_of e.key) ≡ false → has_id (keys_of late) (id_of e.key) ≡ false
    → AreArranged log early (late ++ e ∷ [])
arranged_late log early late e a fits logged held kept =
    let i = id_of e.key in
    let turned : (log ++ (early ++ late)) ++ e ∷ [] ≡ log ++ (early ++ (late ++ e ∷ [])) =
    append_assoc log (early ++ late) (e ∷ []) ∙ ap (λ (es : List Entry). log ++ es) (append_assoc early late (e ∷ [])) in
    let fresh : has_id (keys_of (log ++ (early ++ late))) i ≡ false =
    subst (λ (ks : List Key). has_id ks i ≡ false) (sym (keys_of_all log early late))
    (none_of (keys_of log) (keys_of early ++ keys_of late) i logged (none_of (keys_of early) (keys_of late) i held kept)) in
    record {
      rising = a.rising;
      own_ids = subst (λ (es : List Entry). HaveOwnIds (keys_of es)) turned (own_push (log ++ (early ++ late)) e a.own_ids fresh);
      fit = subst (λ (es : List Entry). AllByRecursion FitsEntry es) turned (all_append FitsEntry (log ++ (early ++ late)) (e ∷ []) a.fit (fits, tt));
    }

-- ---- the first of early goes to the log

pub arranged_release : (log : List Entry) (e : Entry) (es late : List Entry) → AreArranged log (e ∷ es) late → AreArranged (log ++ e ∷ []) es late
arranged_release log e es late a =
    record {
      rising = subst (λ (xs : List Entry). AreRising (keys_of xs)) (sym (append_assoc log (e ∷ []) es)) a.rising;
      own_ids = subst (λ (xs : List Entry). HaveOwnIds (keys_of xs)) (sym (append_assoc log (e ∷ []) (es ++ late))) a.own_ids;
      fit = subst (λ (xs : List Entry). AllByRecursion FitsEntry xs) (sym (append_assoc log (e ∷ []) (es ++ late))) a.fit;
    }

-- it is above the log's last, and of an id that is not in the log
pub first_above : (log : List Entry) (e : Entry) (es late : List Entry) → AreArranged log (e ∷ es) late → is_above_last (keys_of log) e.key ≡ true
first_above log e es late a =
    above_last (keys_of log) e.key
    (λ x there. prefix_below (keys_of log) (keys_of (e ∷ es)) x e.key (rising_parts log (e ∷ es) late a) there (has_first e.key (keys_of es)))

pub first_fresh : (log : List Entry) (e : Entry) (es late : List Entry) → AreArranged log (e ∷ es) late → has_id (keys_of log) (id_of e.key) ≡ false
first_fresh log e es late a = own_id (keys_of log) e.key (keys_of es ++ keys_of late) (own_parts log (e ∷ es) late a)
