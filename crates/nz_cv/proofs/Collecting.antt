-- A merged counter against the two that it comes from, and against those of many messages.
use Rattle.std.proofs.Common.{◌≡◌, ◌≢◌, ◌⊎◌, ℕ, ◌<◌, ◌≤◌, List, [], ◌∷◌, max, length, get_or, slice_index_or}
use Rattle.std.proofs.Common.{All, arith, refl, sym, subst, ◌∙◌, ⊎_elim, inl, inr}
use Rattle.std.proofs.lemmas.Bool.{cases_lt, cases_eq}
use Rattle.std.proofs.lemmas.List.{get_or_past}
use Rattle.std.proofs.lemmas.List.Elements.{All-nil, All-cons, All-head, All-tail}
use Rattle.nz_cv.specs.Vectors.{merged_vector, all_merged, IsFrom, AreFrom, CrashConsistency}
use Rattle.nz_cv.proofs.Merging.{length-merged, merged-own, merged-elsewhere, merged-by_place}

-- a merged counter is that of u, and elsewhere than at the own place it is the greater one
pub merged-cases : (u v : List ℕ) (own k : ℕ) → length u ≡ length v → own < length u
    → (get_or (merged_vector u v own) k 0 ≡ get_or u k 0) × (k ≡ own) ⊎ (get_or (merged_vector u v own) k 0 ≡ max (get_or u k 0) (get_or v k 0))
merged-cases u v own k same h = ⊎_elim
    (λ (here : k ≡ own). inl (subst (λ (p : ℕ). get_or (merged_vector u v own) p 0 ≡ get_or u p 0) (sym here) (merged-own u v own same h), here))
    (λ (there : k ≢ own). inr (⊎_elim
    (λ (within : k < length u). merged-elsewhere u v own k same within there)
    (λ (past : length u ≤ k).
    let none : get_or (merged_vector u v own) k 0 ≡ 0 =
    get_or_past (merged_vector u v own) k 0 (let e : length (merged_vector u v own) ≡ length u = length-merged u v own same in omega arith) in
    let a : get_or u k 0 ≡ 0 = get_or_past u k 0 past in
    let b : get_or v k 0 ≡ 0 = get_or_past v k 0 (omega arith) in omega arith)
    (cases_lt k (length u))))
    (cases_eq k own)

pub never_falls : (u v : List ℕ) (own k : ℕ) → length u ≡ length v → own < length u → get_or u k 0 ≤ get_or (merged_vector u v own) k 0
never_falls u v own k same h =
    ⊎_elim (λ (e : (get_or (merged_vector u v own) k 0 ≡ get_or u k 0) × (k ≡ own)). omega arith)
    (λ (e : get_or (merged_vector u v own) k 0 ≡ max (get_or u k 0) (get_or v k 0)). omega arith)
    (merged-cases u v own k same h)

pub takes_in : (u v : List ℕ) (own k : ℕ) → length u ≡ length v → own < length u → k ≢ own → get_or v k 0 ≤ get_or (merged_vector u v own) k 0
takes_in u v own k same h there =
    ⊎_elim (λ (e : (get_or (merged_vector u v own) k 0 ≡ get_or u k 0) × (k ≡ own)). absurd (there e.1))
    (λ (e : get_or (merged_vector u v own) k 0 ≡ max (get_or u k 0) (get_or v k 0)). omega arith)
    (merged-cases u v own k same h)

pub adds_nothing : (u v : List ℕ) (own k : ℕ) → length u ≡ length v → own < length u
    → (get_or (merged_vector u v own) k 0 ≡ get_or u k 0) ⊎ (get_or (merged_vector u v own) k 0 ≡ get_or v k 0)
adds_nothing u v own k same h = ⊎_elim (λ (e : (get_or (merged_vector u v own) k 0 ≡ get_or u k 0) × (k ≡ own)). inl e.0)
    (λ (e : get_or (merged_vector u v own) k 0 ≡ max (get_or u k 0) (get_or v k 0)). ⊎_elim
    (λ (less : get_or u k 0 < get_or v k 0). inr (omega arith))
    (λ (more : get_or v k 0 ≤ get_or u k 0). inl (omega arith)) (cases_lt (get_or u k 0) (get_or v k 0)))
    (merged-cases u v own k same h)

pub merged-bounded : (u v : List ℕ) (own k most : ℕ) → length u ≡ length v → own < length u → get_or u k 0 ≤ most → get_or v k 0 ≤ most
    → get_or (merged_vector u v own) k 0 ≤ most
merged-bounded u v own k most same h mine theirs =
    ⊎_elim (λ (e : get_or (merged_vector u v own) k 0 ≡ get_or u k 0). omega arith)
    (λ (e : get_or (merged_vector u v own) k 0 ≡ get_or v k 0). omega arith)
    (adds_nothing u v own k same h)

-- A vector that was merged already adds nothing.
pub idempotent : (u v : List ℕ) (own : ℕ) → length u ≡ length v → own < length u → merged_vector (merged_vector u v own) v own ≡ merged_vector u v own
idempotent u v own same h =
    let kept : length (merged_vector u v own) ≡ length u = length-merged u v own same in
    sym (merged-by_place (merged_vector u v own) v (merged_vector u v own) own (omega arith) refl (λ _. refl)
    (λ k within there. let more : get_or v k 0 ≤ get_or (merged_vector u v own) k 0 = takes_in u v own k same h there in omega arith))

-- what all messages leave is no less than what was there
pub all_merged-above : (v : List ℕ) (messages : List (ℕ × List ℕ)) (own k n : ℕ) → length v ≡ n → own < n → AreFrom n messages
    → get_or v k 0 ≤ get_or (all_merged v messages own) k 0
all_merged-above v [] own k n long h from = omega arith
all_merged-above v (m ∷ ms) own k n long h from =
    let same : length m.1 ≡ n = (All-head (IsFrom n) m ms from).0 in
    let one : get_or v k 0 ≤ get_or (merged_vector v m.1 own) k 0 = never_falls v m.1 own k (omega arith) (omega arith) in
    let rest : get_or (merged_vector v m.1 own) k 0 ≤ get_or (all_merged (merged_vector v m.1 own) ms own) k 0 =
    all_merged-above (merged_vector v m.1 own) ms own k n (length-merged v m.1 own (omega arith) ∙ long) h (All-tail (IsFrom n) m ms from) in
    omega arith

-- nor less than any of the messages, but at the own place
pub all_merged-takes_in : (v : List ℕ) (messages : List (ℕ × List ℕ)) (own k n : ℕ) → length v ≡ n → own < n → k ≢ own → AreFrom n messages
    → All (λ (m : ℕ × List ℕ). get_or m.1 k 0 ≤ get_or (all_merged v messages own) k 0) messages
all_merged-takes_in v [] own k n long h there from = All-nil (λ (m : ℕ × List ℕ). get_or m.1 k 0 ≤ get_or v k 0)
all_merged-takes_in v (m ∷ ms) own k n long h there from =
    let same : length m.1 ≡ n = (All-head (IsFrom n) m ms from).0 in
    let others : AreFrom n ms = All-tail (IsFrom n) m ms from in
    let kept : length (merged_vector v m.1 own) ≡ n = length-merged v m.1 own (omega arith) ∙ long in
    let one : get_or m.1 k 0 ≤ get_or (merged_vector v m.1 own) k 0 = takes_in v m.1 own k (omega arith) (omega arith) there in
    let rest : get_or (merged_vector v m.1 own) k 0 ≤ get_or (all_merged (merged_vector v m.1 own) ms own) k 0 =
    all_merged-above (merged_vector v m.1 own) ms own k n kept h others in
    All-cons (λ (a : ℕ × List ℕ). get_or a.1 k 0 ≤ get_or (all_merged (merged_vector v m.1 own) ms own) k 0) m ms (omega arith)
    (all_merged-takes_in (merged_vector v m.1 own) ms own k n kept h there others)

-- nor more than a bound of all of them
pub all_merged-bounded : (v : List ℕ) (messages : List (ℕ × List ℕ)) (own k n most : ℕ) → length v ≡ n → own < n → AreFrom n messages
    → get_or v k 0 ≤ most → All (λ (m : ℕ × List ℕ). get_or m.1 k 0 ≤ most) messages → get_or (all_merged v messages own) k 0 ≤ most
all_merged-bounded v [] own k n most long h from mine theirs = mine
all_merged-bounded v (m ∷ ms) own k n most long h from mine theirs =
    let same : length m.1 ≡ n = (All-head (IsFrom n) m ms from).0 in
    all_merged-bounded (merged_vector v m.1 own) ms own k n most (length-merged v m.1 own (omega arith) ∙ long) h
    (All-tail (IsFrom n) m ms from)
    (merged-bounded v m.1 own k most (omega arith) (omega arith) mine (All-head (λ (a : ℕ × List ℕ). get_or a.1 k 0 ≤ most) m ms theirs))
    (All-tail (λ (a : ℕ × List ℕ). get_or a.1 k 0 ≤ most) m ms theirs)

not_less : (a b : ℕ) → ¬ (a < b) → b ≤ a
not_less a b never = ⊎_elim (λ (less : a < b). absurd (never less)) (λ (more : b ≤ a). more) (cases_lt a b)

pub crash_consistency : CrashConsistency
crash_consistency v messages own h from senders =
    let sender : ℕ → ℕ × List ℕ → ℕ = λ i d. (slice_index_or messages i d).0 in
    let counter : ℕ → ℕ × List ℕ → ℕ → ℕ = λ i d k. get_or (slice_index_or messages i d).1 k 0 in
    let known : ℕ → ℕ = λ k. get_or (all_merged v messages own) k 0 in (
      (λ consistent. (
        (λ i d within j e among stray.
            let taken : counter j e (sender i d) ≤ known (sender i d) =
            all_merged-takes_in v messages own (sender i d) (length v) refl h (senders i d within) from j e among in
            consistent i d within (omega arith)),
        (λ i d within stray.
            let kept : get_or v (sender i d) 0 ≤ known (sender i d) = all_merged-above v messages own (sender i d) (length v) refl h from in
            consistent i d within (omega arith)),
      )),
      (λ both i d within stray.
          let bound : known (sender i d) ≤ counter i d (sender i d) =
          all_merged-bounded v messages own (sender i d) (length v) (counter i d (sender i d)) refl h from
          (not_less (counter i d (sender i d)) (get_or v (sender i d) 0) (both.1 i d within))
          (λ j e among. not_less (counter i d (sender i d)) (counter j e (sender i d)) (both.0 i d within j e among)) in
          omega arith),
    )
