-- The conditions of calls to a log, and lists of calls.
use Rattle.std.proofs.Common.{◌≡◌, ℕ, ◌+◌, ◌<◌, true, false, not, List, [], ◌∷◌, ◌++◌, length, take}
use Rattle.std.proofs.Common.{drop, get_or, suc, drop-cons, refl, sym, ap, subst, ◌∙◌, inl, inr}
use Rattle.std.proofs.lemmas.Bool.{cases_Bool, or_cases, or_left, or_right, and_parts, and_from, not-true}
use Rattle.std.specs.List.{list_all}
use Rattle.nz_base.specs.declared.key.Key.{Key}
use Rattle.nz_base.specs.declared.key.Entry.{Entry}
use Rattle.nz_base.specs.Key.{key_below, key_eq, id_of}
use Rattle.nz_base.specs.Log.{keys_of, has_key, has_id, is_above_last, AreRising, HaveOwnIds, IsLog}
use Rattle.nz_base.proofs.Names.{same_key, key_eq_self}
use Rattle.nz_base.proofs.Booleans.{true_and_false}
use Rattle.nz_log.specs.declared.calls.LogCall.{LogCall}
use Rattle.nz_log.specs.declared.calls.LogAnswer.{LogAnswer}
use Rattle.nz_log.specs.Synced.{Log}
use Rattle.nz_log.proofs.Keeping.{next_above, next_fresh}
use Rattle.nz_base.proofs.Logs.{log_push}
use Rattle.std.proofs.lemmas.List.{take_more, take-append-drop}
use Rattle.nz_log.specs.Calls.{may_follow, are_rising, have_own_ids, may_be_log, answer_to, after_call, answers_to, after_calls}

-- ---- lists that are logs

each_below : (k : Key) (ks : List Key) (x : Key) → list_all (key_below k) ks ≡ true → has_key ks x ≡ true → key_below k x ≡ true
each_below k [] x all there = absurd cc
each_below k (y ∷ ks) x all there =
    elim (or_cases (key_eq x y) (has_key ks x) there) [
      | inl here ↦ subst (λ (z : Key). key_below k z ≡ true) (sym (same_key x y here)) (and_parts (key_below k y) (list_all (key_below k) ks) all).0
      | inr later ↦ each_below k ks x (and_parts (key_below k y) (list_all (key_below k) ks) all).1 later
    ]

all_below : (k : Key) (ks : List Key) → ((x : Key) → has_key ks x ≡ true → key_below k x ≡ true) → list_all (key_below k) ks ≡ true
all_below k [] each = refl
all_below k (y ∷ ks) each =
    and_from (key_below k y) (list_all (key_below k) ks)
    (each y (or_left (key_eq y y) (has_key ks y) (key_eq_self y))) (all_below k ks (λ x there. each x (or_right (key_eq x y) (has_key ks x) there)))

rises : (ks : List Key) → are_rising ks ≡ true → AreRising ks
rises [] h = tt
rises (k ∷ ks) h = (
  λ x there. each_below k ks x (and_parts (list_all (key_below k) ks) (are_rising ks) h).0 there,
  rises ks (and_parts (list_all (key_below k) ks) (are_rising ks) h).1,
)

rises_test : (ks : List Key) → AreRising ks → are_rising ks ≡ true
rises_test [] h = refl
rises_test (k ∷ ks) h = and_from (list_all (key_below k) ks) (are_rising ks) (all_below k ks h.0) (rises_test ks h.1)

owns : (ks : List Key) → have_own_ids ks ≡ true → HaveOwnIds ks
owns [] h = tt
owns (k ∷ ks) h = (
  not-true (has_id ks (id_of k)) (and_parts (not (has_id ks (id_of k))) (have_own_ids ks) h).0,
  owns ks (and_parts (not (has_id ks (id_of k))) (have_own_ids ks) h).1,
)

owns_test : (ks : List Key) → HaveOwnIds ks → have_own_ids ks ≡ true
owns_test [] h = refl
owns_test (k ∷ ks) h = and_from (not (has_id ks (id_of k))) (have_own_ids ks) (ap not h.0) (owns_test ks h.1)

pub log_passes : (es : List Entry) → IsLog es → may_be_log es ≡ true
log_passes es log = and_from (are_rising (keys_of es)) (have_own_ids (keys_of es)) (rises_test (keys_of es) log.rising) (owns_test (keys_of es) log.own_ids)

pub passes_log : (es : List Entry) → may_be_log es ≡ true → IsLog es
passes_log es h = record {
  rising = rises (keys_of es) (and_parts (are_rising (keys_of es)) (have_own_ids (keys_of es)) h).0;
  own_ids = owns (keys_of es) (and_parts (are_rising (keys_of es)) (have_own_ids (keys_of es)) h).1;
}

-- a list is none where it would be absurd
pub no_log : (es : List Entry) → (IsLog es → ⊥) → may_be_log es ≡ false
no_log es refused = elim (cases_Bool (may_be_log es)) [
  | inl passes ↦ absurd (refused (passes_log es passes))
  | inr fails ↦ fails
]

-- ---- one call more

pub answers_more : (log : Log) (calls : List LogCall) (call : LogCall)
    → answers_to log (calls ++ call ∷ []) ≡ answers_to log calls ++ answer_to (after_calls log calls) call ∷ []
answers_more log [] call = refl
answers_more log (c ∷ calls) call = ap (λ (answers : List LogAnswer). answer_to log c ∷ answers) (answers_more (after_call log c) calls call)

pub after_more : (log : Log) (calls : List LogCall) (call : LogCall) → after_calls log (calls ++ call ∷ []) ≡ after_call (after_calls log calls) call
after_more log [] call = refl
after_more log (c ∷ calls) call = after_more (after_call log c) calls call

-- ---- a list that is tested entry after entry

pub log_more : (es : List Entry) (place : ℕ) (e : Entry) → place < length es → e ≡ get_or es place e
    → IsLog (take place es) → may_follow (take place es) e.key ≡ true → IsLog (take (place + 1) es)
log_more es place e within is log may =
    let more : take (place + 1) es ≡ take place es ++ e ∷ [] = take_more es place e within ∙ ap (λ (x : Entry). take place es ++ x ∷ []) (sym is) in
    subst IsLog (sym more) (log_push (take place es) e log
    (and_parts (is_above_last (keys_of (take place es)) e.key) (not (has_id (keys_of (take place es)) (id_of e.key))) may).0
    (not-true (has_id (keys_of (take place es)) (id_of e.key))
    (and_parts (is_above_last (keys_of (take place es)) e.key) (not (has_id (keys_of (take place es)) (id_of e.key))) may).1))

pub log_stops : (es : List Entry) (place : ℕ) (e : Entry) → place < length es → e ≡ get_or es place e
    → may_follow (take place es) e.key ≡ false → may_be_log es ≡ false
log_stops es place e within is may = no_log es (λ log.
    let rest : drop place es ≡ e ∷ drop (suc place) es = drop-cons es place e within ∙ ap (λ (x : Entry). x ∷ drop (suc place) es) (sym is) in
    let whole : take place es ++ e ∷ drop (suc place) es ≡ es = ap (λ (xs : List Entry). take place es ++ xs) (sym rest) ∙ take-append-drop place es in
    let all = subst IsLog (sym whole) log in
    true_and_false (may_follow (take place es) e.key)
    (and_from (is_above_last (keys_of (take place es)) e.key) (not (has_id (keys_of (take place es)) (id_of e.key)))
    (next_above (take place es) e (drop (suc place) es) all) (ap not (next_fresh (take place es) e (drop (suc place) es) all))) may)
