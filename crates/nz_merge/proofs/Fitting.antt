-- The test of what a replica may report is exact.
use Rattle.std.proofs.Common.{◌≡◌, true, false, ◌&&◌, not, leb, List, [], ◌∷◌, length, refl, sym, subst, inl, inr}
use Rattle.std.proofs.lemmas.Bool.{not-true, le-leb, leb-true, cases_Bool, or_cases, or_left, and_parts, and_from}
use Rattle.nz_base.specs.declared.key.Key.{Key}
use Rattle.nz_base.specs.Key.{key_below, key_eq, id_eq, id_of}
use Rattle.nz_base.specs.Log.{keys_of, has_key, has_id, AreRising, HaveOwnIds}
use Rattle.nz_base.proofs.Names.{same_key}
use Rattle.nz_base.proofs.Booleans.{true_and_false}
use Rattle.nz_base.proofs.Logs.{has_first, has_later}
use Rattle.nz_merge.specs.Merged.{AreFit}
use Rattle.nz_merge.specs.Fit.{comes_first, are_log, is_fit, are_fit}
use Rattle.nz_merge.specs.declared.report.Report.{Report}

first_below : (key : Key) (keys : List Key) → comes_first key keys ≡ true → (x : Key) → has_key keys x ≡ true → key_below key x ≡ true
first_below key [] h x there = absurd cc
first_below key (k ∷ keys) h x there =
    let own = (and_parts (key_below key k && not (id_eq (id_of key) (id_of k))) (comes_first key keys) h).0 in
    elim (or_cases (key_eq x k) (has_key keys x) there) [
      | inl same ↦ subst (λ (y : Key). key_below key y ≡ true) (sym (same_key x k same)) (and_parts (key_below key k) (not (id_eq (id_of key) (id_of k))) own).0
      | inr later ↦ first_below key keys (and_parts (key_below key k && not (id_eq (id_of key) (id_of k))) (comes_first key keys) h).1 x later
    ]

first_own : (key : Key) (keys : List Key) → comes_first key keys ≡ true → has_id keys (id_of key) ≡ false
first_own key [] h = refl
first_own key (k ∷ keys) h =
    let own = (and_parts (key_below key k && not (id_eq (id_of key) (id_of k))) (comes_first key keys) h).0 in
    let apart = not-true (id_eq (id_of key) (id_of k)) (and_parts (key_below key k) (not (id_eq (id_of key) (id_of k))) own).1 in
    rw apart (first_own key keys (and_parts (key_below key k && not (id_eq (id_of key) (id_of k))) (comes_first key keys) h).1)

first_is : (key : Key) (keys : List Key) → ((x : Key) → has_key keys x ≡ true → key_below key x ≡ true)
    → has_id keys (id_of key) ≡ false → comes_first key keys ≡ true
first_is key [] below own = refl
first_is key (k ∷ keys) below own =
    elim (cases_Bool (id_eq (id_of key) (id_of k))) [
      | inl same ↦ true_and_false (has_id (k ∷ keys) (id_of key)) (or_left (id_eq (id_of key) (id_of k)) (has_id keys (id_of key)) same) own
      | inr apart ↦
          let rest = first_is key keys (λ x h. below x (has_later k keys x h)) (rw apart at own) in
          and_from (key_below key k && not (id_eq (id_of key) (id_of k))) (comes_first key keys)
          (and_from (key_below key k) (not (id_eq (id_of key) (id_of k))) (below k (has_first k keys)) (rw apart refl)) rest
    ]

log_rising : (keys : List Key) → are_log keys ≡ true → AreRising keys
log_rising [] h = tt
log_rising (k ∷ keys) h =
    (first_below k keys (and_parts (comes_first k keys) (are_log keys) h).0, log_rising keys (and_parts (comes_first k keys) (are_log keys) h).1)

log_own : (keys : List Key) → are_log keys ≡ true → HaveOwnIds keys
log_own [] h = tt
log_own (k ∷ keys) h = (first_own k keys (and_parts (comes_first k keys) (are_log keys) h).0, log_own keys (and_parts (comes_first k keys) (are_log keys) h).1)

log_is : (keys : List Key) → AreRising keys → HaveOwnIds keys → are_log keys ≡ true
log_is [] r own = refl
log_is (k ∷ keys) r own = and_from (comes_first k keys) (are_log keys) (first_is k keys r.0 own.0) (log_is keys r.1 own.1)

pub fit_yes : (reports : List Report) → are_fit reports ≡ true → AreFit reports
fit_yes [] h = tt
fit_yes (c ∷ reports) h =
    let own = (and_parts (is_fit c) (are_fit reports) h).0 in
    let logs = (and_parts (leb c.synced (length c.log)) (are_log (keys_of c.log)) own).1 in (
      record {
        log = record { rising = log_rising (keys_of c.log) logs; own_ids = log_own (keys_of c.log) logs };
        synced = leb-true c.synced (length c.log) (and_parts (leb c.synced (length c.log)) (are_log (keys_of c.log)) own).0;
      },
      fit_yes reports (and_parts (is_fit c) (are_fit reports) h).1,
    )

pub fit_is : (reports : List Report) → AreFit reports → are_fit reports ≡ true
fit_is [] h = refl
fit_is (c ∷ reports) h =
    let fit = h.0 in
    and_from (is_fit c) (are_fit reports)
    (and_from (leb c.synced (length c.log)) (are_log (keys_of c.log)) (le-leb c.synced (length c.log) fit.synced)
    (log_is (keys_of c.log) fit.log.rising fit.log.own_ids)) (fit_is reports h.1)
