-- A sample pushed among 32 that are kept.
use Rattle.std.proofs.Common.{◌≡◌, ℕ, ◌-◌, ◌<◌, ◌≤◌, List, [], ◌∷◌, ◌++◌, min, take, drop, set, replicate, length, get_or, arith, sym, ◌∙◌, ap, ⊎_elim}
use Rattle.std.proofs.lemmas.Bool.{cases_lt}
use Rattle.std.proofs.lemmas.List.{get_or-replicate, get_or_past, length-replicate, set_at, take_all}
use Rattle.std.proofs.lemmas.List.{length-append, length-take-le, get_or-take, get_or_default}
use Rattle.std.proofs.Math.Seq.{take-set-lt}
use Rattle.nz_window.specs.Layout.{IsLaidOut}
use Rattle.nz_window.specs.Samples.{last_32, with_sample}

pub get_or-zeros : (n k : ℕ) → get_or (replicate {A = ℕ} n 0) k 0 ≡ 0
get_or-zeros n k = ⊎_elim (λ (h : k < n). get_or-replicate n k 0 0 h)
    (λ (h : n ≤ k). get_or_past (replicate n 0) k 0 (let e : length (replicate {A = ℕ} n 0) ≡ n = length-replicate n 0 in omega arith)) (cases_lt k n)

-- in a full row the oldest sample makes room for the newest
pub pushed-full : (places turned old : List ℕ) (count delay : ℕ) → IsLaidOut places count → 32 ≤ count → take count places ≡ old
    → turned ≡ drop 1 places ++ take 1 places → take count (set turned 31 delay) ≡ last_32 (old ++ delay ∷ [])
pushed-full [] turned old count delay laid_out full shows turn = absurd (omega (arith, laid_out.long))
pushed-full (oldest ∷ others) turned old count delay laid_out full shows turn =
    let long : length others ≡ 31 = omega (arith, laid_out.long) in
    let whole : old ≡ oldest ∷ others = sym shows ∙ take_all count (oldest ∷ others) (omega (arith, laid_out.long)) in
    let after : set turned 31 delay ≡ others ++ delay ∷ [] = ap (λ (w : List ℕ). set w 31 delay) turn ∙ set_at others oldest [] delay 31 long in
    let longer : length (others ++ delay ∷ []) ≡ 32 = length-append others (delay ∷ []) ∙ omega arith in
    ap (take count) after ∙ take_all count (others ++ delay ∷ []) (omega arith)
    ∙ sym (ap (λ (w : List ℕ). last_32 (w ++ delay ∷ [])) whole
    ∙ ap (λ (n : ℕ). drop n (oldest ∷ (others ++ delay ∷ []))) (let one : length (oldest ∷ (others ++ delay ∷ [])) - 32 ≡ 1 = omega arith in one))

-- a sample pushed to one of the replicas in use
pub take-sampled : (replicas window : List (List ℕ)) (size replica delay clamped : ℕ) (was pushed : List ℕ)
    → take size replicas ≡ window → size ≤ length replicas
    → replica < length window → clamped ≡ min delay 10000 → pushed ≡ last_32 (get_or replicas replica was ++ clamped ∷ [])
    → take size (set replicas replica pushed) ≡ with_sample window replica delay
take-sampled replicas window size replica delay clamped was pushed shows most within is_clamped is_pushed =
    let shown : length (take size replicas) ≡ size = length-take-le size replicas most in
    let long : length (take size replicas) ≡ length window = ap length shows in
    let below : replica < size = omega arith in
    let was_there : get_or replicas replica was ≡ get_or window replica [] =
    sym (get_or-take size replicas replica was below) ∙ ap (λ (w : List (List ℕ)). get_or w replica was) shows ∙ get_or_default window replica was [] within in
    let after : pushed ≡ last_32 (get_or window replica [] ++ min delay 10000 ∷ []) =
    is_pushed ∙ ap (λ (w : List ℕ). last_32 (w ++ clamped ∷ [])) was_there ∙ ap (λ (n : ℕ). last_32 (get_or window replica [] ++ n ∷ [])) is_clamped in
    take-set-lt size replicas replica pushed below
    ∙ ap (λ (w : List (List ℕ)). set w replica pushed) shows ∙ ap (λ (w : List ℕ). set window replica w) after
