-- How a crash vector lies in its nine counters.
use Rattle.std.specs.Prelude.{◌≡◌, ℕ, ◌-◌, ◌≤◌, ◌<◌, List, ◌++◌, length, replicate, take, slice_index}
use Rattle.std.proofs.Common.{⊎_elim, arith}
use Rattle.std.proofs.lemmas.List.{ext_get_or, length-take-le, get_or-take, get_or-append_right, get_or_append_left}
use Rattle.std.proofs.lemmas.Bool.{cases_lt}
use Rattle.std.proofs.lemmas.Grind.{common_steps}
use Rattle.nz_cv.specs.Vectors.{IsClusterSize}

-- Nine counters, of which those from size on are 0.
pub record IsLaidOut (counters : List ℕ) (size : ℕ) : Type 0 where
  pub nine : length counters ≡ 9
  pub cluster : IsClusterSize size
  pub zeros : (k : ℕ) → size ≤ k → slice_index counters k ≡ 0

-- The nine counters of a vector.
abbrev pub with_zeros : List ℕ → List ℕ
with_zeros vector = vector ++ replicate (9 - length vector) 0

-- Where the counters from size on are zeros, a vector gives all nine back.
pub with_zeros-take : (counters : List ℕ) (size : ℕ) → IsLaidOut counters size → with_zeros (take size counters) ≡ counters
with_zeros-take counters size laid_out =
    let shown : length (take size counters) ≡ size = length-take-le size counters (omega arith) in
    ext_get_or 0 (with_zeros (take size counters)) counters (grind (arith, common_steps)) (λ i h. ⊎_elim
    (λ (below : i < size). rw (get_or_append_left (take size counters)
    (replicate (9 - length (take size counters)) 0) 0 i (omega arith)) (get_or-take size counters i 0 below))
    (λ (above : size ≤ i). rw (get_or-append_right (take size counters)
    (replicate (9 - length (take size counters)) 0) size i 0 shown above) (grind (arith, common_steps, laid_out.zeros i above)))
    (cases_lt i size))

-- A vector's length is the size that it is laid out for.
pub length-vector : (counters : List ℕ) (size : ℕ) → IsLaidOut counters size → length (take size counters) ≡ size
length-vector counters size laid_out = length-take-le size counters (omega arith)
