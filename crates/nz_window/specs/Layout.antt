-- How the last samples of a replica lie in their 32 places, and the replicas in their nine.
use Rattle.std.specs.Prelude.{◌≡◌, ℕ, ◌-◌, ◌≤◌, ◌<◌, List, ◌++◌, length, replicate, take, slice_index}
use Rattle.std.proofs.Common.{⊎_elim, arith}
use Rattle.std.proofs.lemmas.List.{ext_get_or, length-take-le, get_or-take, get_or-append_right, get_or_append_left}
use Rattle.std.proofs.lemmas.Bool.{cases_lt}
use Rattle.std.proofs.lemmas.Grind.{common_steps}
use Rattle.nz_window.specs.Samples.{IsWindow}

-- 32 places, of which those from count on are 0.
pub record IsLaidOut (places : List ℕ) (count : ℕ) : Type 0 where
  pub long : length places ≡ 32
  pub most : count ≤ 32
  pub zeros : (k : ℕ) → count ≤ k → slice_index places k ≡ 0

-- The 32 places of a list of samples.
abbrev pub with_zeros : List ℕ → List ℕ
with_zeros samples = samples ++ replicate (32 - length samples) 0

-- There are as many samples as the count says.
pub length-samples : (places : List ℕ) (count : ℕ) → IsLaidOut places count → length (take count places) ≡ count
length-samples places count laid_out = length-take-le count places (omega arith)

-- Where the places from count on are zeros, the samples give all places back.
pub with_zeros-take : (places : List ℕ) (count : ℕ) → IsLaidOut places count → with_zeros (take count places) ≡ places
with_zeros-take places count laid_out =
    let shown : length (take count places) ≡ count = length-samples places count laid_out in
    ext_get_or 0 (with_zeros (take count places)) places (grind (arith, common_steps)) (λ i h. ⊎_elim
    (λ (below : i < count). rw (get_or_append_left (take count places)
    (replicate (32 - length (take count places)) 0) 0 i (omega arith)) (get_or-take count places i 0 below))
    (λ (above : count ≤ i). rw (get_or-append_right (take count places)
    (replicate (32 - length (take count places)) 0) count i 0 shown above) (grind (arith, common_steps, laid_out.zeros i above)))
    (cases_lt i count))

-- Nine replicas, of which the first are in use.
pub record AreInUse (replicas : List (List ℕ)) (size : ℕ) : Type 0 where
  pub most : size ≤ 9
  pub nine : length replicas ≡ 9
  pub window : IsWindow (take size replicas) size
