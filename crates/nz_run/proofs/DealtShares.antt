-- The shares of the workers, as they are dealt and gathered.
use Rattle.std.proofs.Common.{◌≡◌, ℕ, ◌+◌, ◌<◌, List, [], ◌∷◌, ◌++◌, length, get_or, take, drop, suc, refl, sym, ap, ◌∙◌, arith, length-append}
use Rattle.std.specs.List.{sum_by, All}
use Rattle.std.proofs.lemmas.List.Sums.{sum_by-append}
use Rattle.std.proofs.lemmas.List.{get_or_append_left}
use Rattle.std.proofs.Math.Seq.{get_or-append_seam, take-append_seam}

-- the sums without the last one
pub fewer : {W : Type 0} (f g : W → ℕ) (xs ys : List W) (w : W) → xs ≡ ys ++ w ∷ [] → All (λ v. g v ≡ 0) xs
    → (sum_by f xs ≡ sum_by f ys + f w) × All (λ v. g v ≡ 0) ys × (g w ≡ 0)
fewer f g xs ys w is all =
    let n = ap length is ∙ length-append ys (w ∷ []) in
    let s = sum_by-append f ys (w ∷ []) in
    let t = ap (sum_by f) is in (
      omega (arith, s, t),
      (λ k d lt. ap g (sym (ap (λ l. get_or l k d) is ∙ get_or_append_left ys (w ∷ []) d k lt)) ∙ all k d (omega (arith, n))),
      ap g (sym (ap (λ l. get_or l (length ys) w) is ∙ get_or-append_seam ys w [] w)) ∙ all (length ys) w (omega (arith, n)),
    )

-- what a slice of the whole writes back
pub written : {W : Type 0} (xs ys : List W) (n : ℕ) → n ≡ length xs → length ys ≡ length xs → take n (ys ++ drop (length ys) xs) ≡ ys
written xs ys n whole len =
    ap (λ k. take k (ys ++ drop (length ys) xs)) (whole ∙ sym len) ∙ take-append_seam ys (drop (length ys) xs)

pub all_idle : {W : Type 0} (g : W → ℕ) (xs ys : List W) → length ys ≡ length xs
    → ((k : ℕ) (d : W) → k < length xs → g (get_or ys k d) ≡ 0) → All (λ v. g v ≡ 0) ys
all_idle g xs ys len each k d lt = each k d (omega (arith, len))

-- equal at each place, equal in sum
pub same_sum : {W : Type 0} (f : W → ℕ) (xs ys : List W) → length ys ≡ length xs
    → ((k : ℕ) (d : W) → k < length xs → f (get_or ys k d) ≡ f (get_or xs k d)) → sum_by f ys ≡ sum_by f xs
same_sum f [] [] len each = refl
same_sum f [] (y ∷ ys) len each = absurd (omega (arith, len))
same_sum f (x ∷ xs) [] len each = absurd (omega (arith, len))
same_sum f (x ∷ xs) (y ∷ ys) len each =
    let a = sum_by-append f (x ∷ []) xs in
    let b = sum_by-append f (y ∷ []) ys in
    let ih = same_sum f xs ys (omega (arith, len)) (λ k d lt. each (suc k) d (omega arith)) in
    let here : f y ≡ f x = each 0 x (omega arith) in
    omega (arith, a, b, ih, here)
