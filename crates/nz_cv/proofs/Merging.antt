-- Merging, place by place.
use Rattle.std.proofs.Common.{◌≡◌, ◌≢◌, ℕ, ◌<◌, ◌≤◌, List, take, max, length, get_or, arith, subst, sym, ◌∙◌, ap, ⊎_elim}
use Rattle.std.specs.List.{zip}
use Rattle.std.proofs.lemmas.Bool.{cases_lt, cases_eq}
use Rattle.std.proofs.lemmas.List.{ext_get_or, get_or-map, length-map, length-take-le, get_or-take, get_or_past, get_or-set_same, get_or-set_other, length-set}
use Rattle.std.proofs.lemmas.Slice.Zip.{length-zip, get_or-zip}
use Rattle.nz_cv.specs.Layout.{IsLaidOut, length-vector}
use Rattle.nz_cv.specs.Vectors.{greater_counters, merged_vector}

-- the first places have the greater counter, and the others what they had
pub record Raised (old others new : List ℕ) (place : ℕ) : Type 0 where
  pub long : length new ≡ length old
  pub below : (k : ℕ) → k < place → get_or new k 0 ≡ max (get_or old k 0) (get_or others k 0)
  pub above : (k : ℕ) → place ≤ k → get_or new k 0 ≡ get_or old k 0

pub length-greater_counters : (u v : List ℕ) → length u ≡ length v → length (greater_counters u v) ≡ length u
length-greater_counters u v same = length-map (zip u v) (λ pair. max pair.0 pair.1) ∙ length-zip u v ∙ omega arith

pub length-merged : (u v : List ℕ) (own : ℕ) → length u ≡ length v → length (merged_vector u v own) ≡ length u
length-merged u v own same = length-set (greater_counters u v) own (get_or u own 0) ∙ length-greater_counters u v same

pub get_or-greater_counters : (u v : List ℕ) (k : ℕ) → k < length u → length u ≡ length v
    → get_or (greater_counters u v) k 0 ≡ max (get_or u k 0) (get_or v k 0)
get_or-greater_counters u v k h same =
    get_or-map (λ pair. max pair.0 pair.1) (zip u v) k (0, 0) 0 (let e : length (zip u v) ≡ length u = length-zip u v ∙ omega arith in omega arith)
    ∙ ap (λ (pair : ℕ × ℕ). max pair.0 pair.1) (get_or-zip u v k (0, 0) h (omega arith))

pub greater_counters-raised : (old others new : List ℕ) (place : ℕ) → length old ≡ length others → length old ≤ place
    → Raised old others new place → new ≡ greater_counters old others
greater_counters-raised old others new place same all raised =
    ext_get_or 0 new (greater_counters old others) (raised.long ∙ sym (length-greater_counters old others same))
    (λ k h. raised.below k (omega arith) ∙ sym (get_or-greater_counters old others k (omega arith) same))

-- the counter that a merge leaves at the own place
pub merged-own : (u v : List ℕ) (own : ℕ) → length u ≡ length v → own < length u → get_or (merged_vector u v own) own 0 ≡ get_or u own 0
merged-own u v own same h =
    get_or-set_same (greater_counters u v) own (get_or u own 0) 0
    (let e : length (greater_counters u v) ≡ length u = length-greater_counters u v same in omega arith)

-- the counter that a merge leaves elsewhere
pub merged-elsewhere : (u v : List ℕ) (own k : ℕ) → length u ≡ length v → k < length u → k ≢ own
    → get_or (merged_vector u v own) k 0 ≡ max (get_or u k 0) (get_or v k 0)
merged-elsewhere u v own k same h other =
    get_or-set_other (greater_counters u v) own k (get_or u own 0) 0 other ∙ get_or-greater_counters u v k h same

-- a list that has these counters at these places is what a merge leaves
pub merged-by_place : (u v w : List ℕ) (own : ℕ) → length u ≡ length v → length w ≡ length u
    → (own < length u → get_or w own 0 ≡ get_or u own 0)
    → ((k : ℕ) → k < length u → k ≢ own → get_or w k 0 ≡ max (get_or u k 0) (get_or v k 0)) → w ≡ merged_vector u v own
merged-by_place u v w own same kept at_own elsewhere =
    ext_get_or 0 w (merged_vector u v own) (kept ∙ sym (length-merged u v own same)) (λ k h. ⊎_elim
    (λ (here : k ≡ own). subst (λ (p : ℕ). get_or w p 0 ≡ get_or (merged_vector u v own) p 0) (sym here)
    (let within : own < length u = omega arith in at_own within ∙ sym (merged-own u v own same within)))
    (λ (there : k ≢ own). elsewhere k (omega arith) there ∙ sym (merged-elsewhere u v own k same (omega arith) there))
    (cases_eq k own))

-- merging all nine counters merges the vectors
pub take-merged : (size : ℕ) (u v : List ℕ) (own : ℕ) → length u ≡ 9 → length v ≡ 9 → size ≤ 9 → own < size
    → take size (merged_vector u v own) ≡ merged_vector (take size u) (take size v) own
take-merged size u v own nine_u nine_v most h =
    let shown_u : length (take size u) ≡ size = length-take-le size u (omega arith) in
    let shown_v : length (take size v) ≡ size = length-take-le size v (omega arith) in
    let nine : length (merged_vector u v own) ≡ 9 = length-merged u v own (omega arith) ∙ nine_u in
    merged-by_place (take size u) (take size v) (take size (merged_vector u v own)) own (omega arith)
    (length-take-le size (merged_vector u v own) (omega arith) ∙ sym shown_u)
    (λ _. get_or-take size (merged_vector u v own) own 0 h ∙ merged-own u v own (omega arith) (omega arith) ∙ sym (get_or-take size u own 0 h))
    (λ k within there. let below : k < size = omega arith in
    get_or-take size (merged_vector u v own) k 0 below ∙ merged-elsewhere u v own k (omega arith) (omega arith) there
    ∙ (let a : get_or (take size u) k 0 ≡ get_or u k 0 = get_or-take size u k 0 below in
    let b : get_or (take size v) k 0 ≡ get_or v k 0 = get_or-take size v k 0 below in cc))

-- after the last replica a merge leaves the zeros
pub merged-laid_out : (u v : List ℕ) (size own : ℕ) → IsLaidOut u size → IsLaidOut v size → own < size → IsLaidOut (merged_vector u v own) size
merged-laid_out u v size own left right h =
    let same : length u ≡ length v = left.nine ∙ sym right.nine in
    let kept : length (merged_vector u v own) ≡ length u = length-merged u v own same in
    record {
      nine = kept ∙ left.nine;
      cluster = left.cluster;
      zeros = λ k above. ⊎_elim
          (λ (within : k < length u). merged-elsewhere u v own k same within (omega arith)
          ∙ (let a : get_or u k 0 ≡ 0 = left.zeros k above in let b : get_or v k 0 ≡ 0 = right.zeros k above in omega arith))
          (λ (past : length u ≤ k). get_or_past (merged_vector u v own) k 0 (omega arith))
          (cases_lt k (length u));
    }

-- what a merge of the nine counters of two vectors leaves
pub record Merges (u v mine theirs : List ℕ) (size own : ℕ) : Type 0 where
  pub laid_out : IsLaidOut (merged_vector u v own) size
  pub view : take size (merged_vector u v own) ≡ merged_vector mine theirs own

-- A merge of two vectors in their fixed room is the merge of the vectors.
pub merges : (u v mine theirs : List ℕ) (m n own : ℕ) → take m u ≡ mine → take n v ≡ theirs → IsLaidOut u m → IsLaidOut v n
    → length mine ≡ length theirs → own < length mine → Merges u v mine theirs m own
merges u v mine theirs m n own shows_u shows_v left right same h =
    let long_u : length mine ≡ m = ap length (sym shows_u) ∙ length-vector u m left in
    let long_v : length theirs ≡ n = ap length (sym shows_v) ∙ length-vector v n right in
    let one : n ≡ m = omega arith in
    let right' : IsLaidOut v m = subst (λ (size : ℕ). IsLaidOut v size) one right in
    let shows_v' : take m v ≡ theirs = subst (λ (size : ℕ). take size v ≡ theirs) one shows_v in
    record {
      laid_out = merged-laid_out u v m own left right' (omega arith);
      view = take-merged m u v own left.nine right'.nine left.cluster.most (omega arith)
          ∙ ap (λ (w : List ℕ). merged_vector w (take m v) own) shows_u ∙ ap (λ (w : List ℕ). merged_vector mine w own) shows_v';
    }
