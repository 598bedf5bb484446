-- The merged log is a log, and what is in it.
use Rattle.std.proofs.Common.{◌≡◌, ℕ, Bool, true, false, ◌&&◌, not, cond, eqb, List, [], ◌∷◌, ◌++◌, length, leb}
use Rattle.std.proofs.Common.{ltb, Option, Some, None, refl, sym, ap, subst, ◌∙◌, inl, inr, append_assoc}
use Rattle.std.specs.Prelude.{map, take, drop}
use Rattle.std.specs.List.{filter, AllByRecursion}
use Rattle.std.proofs.lemmas.List.{map-append, append-nil, take-append-drop}
use Rattle.std.proofs.lemmas.Bool.{not-true, cases_Bool, and_parts}
use Rattle.nz_base.specs.declared.key.Key.{Key}
use Rattle.nz_base.specs.declared.key.Entry.{Entry}
use Rattle.nz_base.specs.Key.{id_of}
use Rattle.nz_base.specs.Log.{keys_of, has_id, AreRising, HaveOwnIds, IsLog, is_above_last}
use Rattle.nz_base.proofs.Logs.{rising_prefix, rising_more, own_in_prefix, own_more}
use Rattle.nz_merge.specs.Merged.{IsFit, greatest, lower, lowest, synced_entries, merged_synced_part, holders, all_keys, is_taken, later_keys, merged_from}
use Rattle.nz_merge.specs.declared.report.Report.{Report}
use Rattle.nz_merge.proofs.CommonPrefixes.{merged_keys}

-- what is taken keeps the keys rising and the ids apart
pub taken_log : (limit : ℕ) (reports : List Report) (taken candidates : List Key) → AreRising taken → HaveOwnIds taken
    → AreRising (taken ++ later_keys limit reports taken candidates) × HaveOwnIds (taken ++ later_keys limit reports taken candidates)
unfolding later_keys
taken_log limit reports taken [] r own = (subst AreRising (sym (append-nil taken)) r, subst HaveOwnIds (sym (append-nil taken)) own)
taken_log limit reports taken (k ∷ keys) r own =
    elim (cases_Bool (is_taken limit reports taken k)) [
      | inr skipped ↦ rw skipped (taken_log limit reports taken keys r own)
      | inl joins ↦
          let tests = (and_parts (leb limit (length (holders reports k))) (is_above_last taken k && not (has_id taken (id_of k))) joins).1 in
          let above = (and_parts (is_above_last taken k) (not (has_id taken (id_of k))) tests).0 in
          let fresh = not-true (has_id taken (id_of k)) (and_parts (is_above_last taken k) (not (has_id taken (id_of k))) tests).1 in
          let both = taken_log limit reports (taken ++ k ∷ []) keys (rising_more taken k r above) (own_more taken k own fresh) in
          let regroup : (taken ++ k ∷ []) ++ later_keys limit reports (taken ++ k ∷ []) keys
          ≡ taken ++ k ∷ later_keys limit reports (taken ++ k ∷ []) keys =
          append_assoc taken (k ∷ []) (later_keys limit reports (taken ++ k ∷ []) keys) in
          rw joins (subst AreRising regroup both.0, subst HaveOwnIds regroup both.1)
    ]

-- ---- the lowest sender

-- one of the reports, where there is any
pub lowest_has : (Q : Report → Type 0) (reports : List Report) (c : Report) → AllByRecursion Q reports → lowest reports ≡ Some c → Q c
lowest_has Q [] c each h = absurd cc
lowest_has Q (d ∷ reports) c each h = pick d (lowest reports) each.0 (λ e same. lowest_has Q reports e each.1 same) (some_same (lower d (lowest reports)) c h)
  where
    some_same : (a b : Report) → Some a ≡ Some b → a ≡ b
    some_same a b e = cc

    choose : (b : Bool) (d e : Report) → Q d → Q e → Q (cond b d e)
    choose true d e hd he = hd
    choose false d e hd he = he

    pick : (d : Report) (o : Option Report) → Q d → ((e : Report) → o ≡ Some e → Q e) → lower d o ≡ c → Q c
    pick d None hd he same = subst Q same hd
    pick d (Some e) hd he same = subst Q same (choose (ltb e.sender d.sender) e d (he e refl) hd)

pub all_filter : (Q : Report → Type 0) (p : Report → Bool) (reports : List Report) → AllByRecursion Q reports → AllByRecursion Q (filter p reports)
all_filter Q p [] each = tt
all_filter Q p (c ∷ reports) each = by_test (p c) c (filter p reports) each.0 (all_filter Q p reports each.1)
  where
    by_test : (b : Bool) (c : Report) (few : List Report) → Q c → AllByRecursion Q few → AllByRecursion Q (cond b (c ∷ few) few)
    by_test true c few h each = (h, each)
    by_test false c few h each = each

prefix_log : (s : ℕ) (log : List Entry) → IsLog log → AreRising (keys_of (take s log)) × HaveOwnIds (keys_of (take s log))
prefix_log s log h =
    let parts : keys_of log ≡ keys_of (take s log) ++ keys_of (drop s log) =
    sym (ap keys_of (take-append-drop s log)) ∙ map-append (λ (e : Entry). e.key) (take s log) (drop s log) in (
      rising_prefix (keys_of (take s log)) (keys_of (drop s log)) (subst AreRising parts h.rising),
      own_in_prefix (keys_of (take s log)) (keys_of (drop s log)) (subst HaveOwnIds parts h.own_ids),
    )

base_of : (o : Option Report) → ((c : Report) → o ≡ Some c → IsFit c) → AreRising (keys_of (synced_entries o)) × HaveOwnIds (keys_of (synced_entries o))
base_of None h = (tt, tt)
base_of (Some c) h = let fit = h c refl in prefix_log c.synced c.log fit.log

pub base_log : (reports : List Report) → AllByRecursion IsFit reports
    → AreRising (keys_of (merged_synced_part reports)) × HaveOwnIds (keys_of (merged_synced_part reports))
base_log reports fit =
    let best = filter (λ c. eqb c.synced (greatest (map (λ d. d.synced) reports))) reports in
    base_of (lowest best) (λ c h. lowest_has IsFit best c (all_filter IsFit (λ d. eqb d.synced (greatest (map (λ e. e.synced) reports))) reports fit) h)

pub merged_log : (limit : ℕ) (reports : List Report) → AllByRecursion IsFit reports → IsLog (merged_from limit reports)
merged_log limit reports fit =
    let base = base_log reports fit in
    let whole = taken_log limit reports (keys_of (merged_synced_part reports)) (all_keys reports) base.0 base.1 in
    let same = merged_keys limit reports in
    record { rising = subst AreRising (sym same) whole.0; own_ids = subst HaveOwnIds (sym same) whole.1 }
