-- Strong induction: what follows at each number from all smaller ones holds of every number.
use Rattle.std.proofs.Common.{ℕ, zero, suc, ◌<◌, arith}

below : (P : ℕ → Type 0) → ((n : ℕ) → ((m : ℕ) → m < n → P m) → P n) → (n m : ℕ) → m < n → P m
below P step zero m lt = absurd (omega (arith, lt))
below P step (suc n) m lt = step m (λ k less. below P step n k (omega (arith, lt, less)))

-- Induction over all lesser numbers.
pub upto : (P : ℕ → Type 0) → ((n : ℕ) → ((m : ℕ) → m < n → P m) → P n) → (n : ℕ) → P n
upto P step n = step n (below P step n)
