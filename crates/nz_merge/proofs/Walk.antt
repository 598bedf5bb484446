-- Going through the keys in turn takes a prefix that enough logs have.
use Rattle.std.proofs.Common.{◌≡◌, ℕ, true, false, ◌&&◌, not, List, [], ◌∷◌, ◌++◌, length, leb, refl, sym, ap, subst, ◌∙◌, inl, inr, ◌⊎◌, append_assoc}
use Rattle.std.proofs.lemmas.Bool.{cases_Bool, or_cases, and_parts, and_from}
use Rattle.nz_base.specs.declared.key.Key.{Key}
use Rattle.nz_base.specs.Key.{key_below, key_eq, id_of}
use Rattle.nz_base.specs.Log.{has_key, has_id, AreRising, HaveOwnIds, is_above_last}
use Rattle.nz_base.proofs.Keys.{key_below-trans, never_both, never_self}
use Rattle.nz_base.proofs.Names.{same_key}
use Rattle.nz_base.proofs.Booleans.{true_and_false}
use Rattle.nz_base.proofs.Logs.{has_first, has_later, has_append, has_back, prefix_below, rising_back, rising_prefix, above_each, above_last, own_id}
use Rattle.nz_merge.specs.Merged.{begins_with, holders, is_taken, later_keys}
use Rattle.nz_merge.specs.declared.report.Report.{Report}
use Rattle.nz_merge.proofs.Beginnings.{AreAmong}

-- what is asked of a list P, where enough is `limit` logs: its keys rise and its ids differ, enough logs
-- hold each of its keys, and a key that enough hold is in it or above all of it
pub record IsSettled (limit : ℕ) (reports : List Report) (P : List Key) : Type 0 where
  pub rising : AreRising P
  pub own_ids : HaveOwnIds P
  pub held : (k : Key) → has_key P k ≡ true → leb limit (length (holders reports k)) ≡ true
  pub closed : (k : Key) → leb limit (length (holders reports k)) ≡ true → (has_key P k ≡ true) ⊎ ((x : Key) → has_key P x ≡ true → key_below x k ≡ true)

-- the next key of P is taken
takes_next : (limit : ℕ) (reports : List Report) (P taken : List Key) (r : Key) (rest : List Key)
    → IsSettled limit reports P → P ≡ taken ++ r ∷ rest → is_taken limit reports taken r ≡ true
takes_next limit reports P taken r rest s parts =
    let rising : AreRising (taken ++ r ∷ rest) = subst AreRising parts s.rising in
    let own : HaveOwnIds (taken ++ r ∷ rest) = subst HaveOwnIds parts s.own_ids in
    let here : has_key P r ≡ true = subst (λ (xs : List Key). has_key xs r ≡ true) (sym parts) (has_back taken (r ∷ rest) r (has_first r rest)) in
    let above : is_above_last taken r ≡ true = above_last taken r (λ x h. prefix_below taken (r ∷ rest) x r rising h (has_first r rest)) in
    let fresh : has_id taken (id_of r) ≡ false = own_id taken r rest own in
    and_from (leb limit (length (holders reports r))) (is_above_last taken r && not (has_id taken (id_of r))) (s.held r here)
    (and_from (is_above_last taken r) (not (has_id taken (id_of r))) above (rw fresh refl))

-- a key before the next one of P is not taken
skips_other : (limit : ℕ) (reports : List Report) (P taken : List Key) (r : Key) (rest : List Key) (k : Key)
    → IsSettled limit reports P → P ≡ taken ++ r ∷ rest → key_below k r ≡ true → is_taken limit reports taken k ≡ false
skips_other limit reports P taken r rest k s parts before =
    let rising : AreRising (taken ++ r ∷ rest) = subst AreRising parts s.rising in
    let after : AreRising (r ∷ rest) = rising_back taken (r ∷ rest) rising in
    elim (cases_Bool (is_taken limit reports taken k)) [
      | inr away ↦ away
      | inl joins ↦
          let enough = (and_parts (leb limit (length (holders reports k))) (is_above_last taken k && not (has_id taken (id_of k))) joins).0 in
          let above =
          (and_parts (is_above_last taken k) (not (has_id taken (id_of k)))
          (and_parts (leb limit (length (holders reports k))) (is_above_last taken k && not (has_id taken (id_of k))) joins).1).0 in
          elim (s.closed k enough) [
            | inr all ↦
                never_both k r before (all r (subst (λ (xs : List Key). has_key xs r ≡ true) (sym parts)
                (has_back taken (r ∷ rest) r (has_first r rest))))
            | inl among ↦
                elim (has_append taken (r ∷ rest) k (subst (λ (xs : List Key). has_key xs k ≡ true) parts among)) [
                  | inl early ↦ never_self k (above_each taken k k (rising_prefix taken (r ∷ rest) rising) above early)
                  | inr late ↦
                      elim (or_cases (key_eq k r) (has_key rest k) late) [
                        | inl same ↦ never_self k (subst (λ (x : Key). key_below k x ≡ true) (sym (same_key k r same)) before)
                        | inr last ↦ never_both k r before (after.0 k last)
                      ]
                ]
          ]
    ]

-- what is still asked for is among the keys after the first
among_rest : (r : Key) (rest : List Key) (k : Key) (keys : List Key) → AreAmong (r ∷ rest) (k ∷ keys)
    → ((x : Key) → has_key (r ∷ rest) x ≡ true → key_below k x ≡ true) → AreAmong (r ∷ rest) keys
among_rest r rest k keys among before x h =
    elim (or_cases (key_eq x k) (has_key keys x) (among x h)) [
      | inl same ↦ never_self k (subst (λ (y : Key). key_below k y ≡ true) (same_key x k same) (before x h))
      | inr there ↦ there
    ]

begins_none : (keys : List Key) → begins_with keys [] ≡ true
begins_none [] = refl
begins_none (k ∷ keys) = refl

-- Whatever is taken first, the keys of a settled prefix come next, in their order.
pub walk : (limit : ℕ) (reports : List Report) (P taken rest candidates : List Key) → IsSettled limit reports P
    → P ≡ taken ++ rest → AreRising candidates → AreAmong rest candidates
    → begins_with (later_keys limit reports taken candidates) rest ≡ true
unfolding later_keys
walk limit reports P taken [] candidates s parts rising among = begins_none (later_keys limit reports taken candidates)
walk limit reports P taken (r ∷ rest) [] s parts rising among = absurd (let h = among r (has_first r rest) in cc)
walk limit reports P taken (r ∷ rest) (k ∷ keys) s parts rising among =
    let whole : AreRising (taken ++ r ∷ rest) = subst AreRising parts s.rising in
    let after : AreRising (r ∷ rest) = rising_back taken (r ∷ rest) whole in
    elim (cases_Bool (key_eq r k)) [
      | inl equal ↦
          let same : r ≡ k = same_key r k equal in
          let joins : is_taken limit reports taken k ≡ true =
          subst (λ (x : Key). is_taken limit reports taken x ≡ true) same (takes_next limit reports P taken r rest s parts) in
          let next : P ≡ (taken ++ k ∷ []) ++ rest = parts ∙ ap (λ (x : Key). taken ++ x ∷ rest) same ∙ sym (append_assoc taken (k ∷ []) rest) in
          let among_next : AreAmong rest keys = λ x h. elim (or_cases (key_eq x k) (has_key keys x) (among x (has_later r rest x h))) [
            | inl first ↦ never_self r (subst (λ (y : Key). key_below r y ≡ true) (same_key x k first ∙ sym same) (after.0 x h))
            | inr there ↦ there
          ] in
          rw joins (and_from (key_eq r k) (begins_with (later_keys limit reports (taken ++ k ∷ []) keys) rest) equal
          (walk limit reports P (taken ++ k ∷ []) rest keys s next rising.1 among_next))
      | inr other ↦
          let there : has_key keys r ≡ true = elim (or_cases (key_eq r k) (has_key keys r) (among r (has_first r rest))) [
            | inl equal ↦ true_and_false (key_eq r k) equal other
            | inr there ↦ there
          ] in
          let before : key_below k r ≡ true = rising.0 r there in
          let skipped : is_taken limit reports taken k ≡ false = skips_other limit reports P taken r rest k s parts before in
          let before_all : (x : Key) → has_key (r ∷ rest) x ≡ true → key_below k x ≡ true = λ x h. elim (or_cases (key_eq x r) (has_key rest x) h) [
            | inl first ↦ subst (λ (y : Key). key_below k y ≡ true) (sym (same_key x r first)) before
            | inr later_x ↦ key_below-trans k r x before (after.0 x later_x)
          ] in
          rw skipped (walk limit reports P taken (r ∷ rest) keys s parts rising.1 (among_rest r rest k keys among before_all))
    ]
