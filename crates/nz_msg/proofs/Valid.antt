-- Testing one item after the other, as a loop does.
use Rattle.std.proofs.Common.{◌≡◌, ℕ, zero, suc, ◌+◌, ◌^◌, ◌<◌, true, List, [], ◌∷◌, ◌++◌, length, take, get_or, sym, subst, append_assoc, arith}
use Rattle.std.proofs.lemmas.List.{append-nil, take_more}
use Rattle.nz_msg.specs.Codec.{Codec, ItemsFit}
use Rattle.std.proofs.lemmas.Bool.Decides.{nat_tests}
use Rattle.nz_msg.specs.Fields.{u32, is_cluster_size}

-- one more item that fits
fits_one : {A : Type 0} (item : List A → Codec A) (before xs : List A) (x : A) → ItemsFit item before xs
    → (item (before ++ xs)).fits x → ItemsFit item before (xs ++ x ∷ [])
fits_one {A} item before [] x h k = (subst (λ (b : List A). (item b).fits x) (append-nil before) k, tt)
fits_one {A} item before (y ∷ ys) x h k =
    (h.0, fits_one item (before ++ y ∷ []) ys x h.1 (subst (λ (b : List A). (item b).fits x) (sym (append_assoc before (y ∷ []) ys)) k))

pub fits_next : {A : Type 0} (item : List A → Codec A) (xs : List A) (i : ℕ) (d : A) → i < length xs
    → ItemsFit item [] (take i xs) → (item (take i xs)).fits (get_or xs i d) → ItemsFit item [] (take (i + 1) xs)
fits_next {A} item xs i d lt h k = subst (λ (ys : List A). ItemsFit item [] ys) (sym (take_more xs i d lt)) (fits_one item [] (take i xs) (get_or xs i d) h k)

fits_after : {A : Type 0} (item : List A → Codec A) (before xs : List A) (i : ℕ) (d : A) → i < length xs
    → ItemsFit item before xs → (item (before ++ take i xs)).fits (get_or xs i d)
fits_after item before [] i d lt h = absurd (omega arith)
fits_after {A} item before (x ∷ xs) zero d lt h = subst (λ (b : List A). (item b).fits x) (sym (append-nil before)) h.0
fits_after {A} item before (x ∷ xs) (suc i) d lt h =
    subst (λ (b : List A). (item b).fits (get_or xs i d)) (append_assoc before (x ∷ []) (take i xs))
    (fits_after item (before ++ x ∷ []) xs i d (omega arith) h.1)

-- each item of those that fit
pub fits_at : {A : Type 0} (item : List A → Codec A) (xs : List A) (i : ℕ) (d : A) → i < length xs
    → ItemsFit item [] xs → (item (take i xs)).fits (get_or xs i d)
fits_at item xs i d lt h = fits_after item [] xs i d lt h

-- numbers of 32 bits
pub counters_fit : (before xs : List ℕ) → ((i : ℕ) → get_or xs i 0 < 2 ^ 32) → ItemsFit (λ _. u32) before xs
counters_fit before [] h = tt
counters_fit before (x ∷ xs) h = (h 0, counters_fit (before ++ x ∷ []) xs (λ i. h (suc i)))

pub size_small : (n : ℕ) → is_cluster_size n ≡ true → n < 256
size_small n h = grind (arith, nat_tests)
