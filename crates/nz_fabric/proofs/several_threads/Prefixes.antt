-- Prefixes of one list.
use Rattle.std.proofs.Common.{◌≡◌, ◌≤◌, ◌<◌, ◌⊎◌, inl, inr, Bool, List, [], ◌∷◌, ◌++◌, length, refl, ap, sym, ◌∙◌, arith, length-append}
use Rattle.std.specs.Prelude.{filter, reverse}
use Rattle.std.proofs.lemmas.List.{reverse-append}
use Rattle.std.proofs.lemmas.List.Elements.{filter-append}
use Rattle.std.proofs.lemmas.Bool.{cases_lt}
use Rattle.nz_base.proofs.Prefixes.{shorter_prefix}
use mathlib.Core.List.{IsPrefix}

-- a prefix as long as the whole is the whole
pub prefix_whole : {A : Type 0} (xs ys : List A) → IsPrefix xs ys → length ys ≤ length xs → xs ≡ ys
prefix_whole [] [] p le = refl
prefix_whole [] (y ∷ ys) p le = absurd (omega arith)
prefix_whole (x ∷ xs) [] p le = absurd (cc (p.1))
prefix_whole (x ∷ xs) (y ∷ ys) p le =
    let rest = prefix_whole xs ys (p.0, cc (p.1)) (omega arith) in cc (p.1, rest)

none_before : {A : Type 0} (xs ys : List A) → length (xs ++ ys) ≡ length ys → xs ++ ys ≡ ys
none_before [] ys e = refl
none_before (x ∷ xs) ys e = let long = length-append xs ys in absurd (omega (arith, e, long))

-- where a prefix has as many of a sort as the whole, it has all of them
pub same_part : {A : Type 0} (f : A → Bool) (xs ys : List A) → IsPrefix xs ys
    → length (filter f (reverse xs)) ≡ length (filter f (reverse ys)) → filter f (reverse xs) ≡ filter f (reverse ys)
same_part f xs ys p long =
    let t = p.0 in
    let apart : filter f (reverse ys) ≡ filter f (reverse t) ++ filter f (reverse xs) =
    ap (λ zs. filter f (reverse zs)) (sym p.1) ∙ ap (filter f) (reverse-append xs t) ∙ filter-append f (reverse t) (reverse xs) in
    sym (apart ∙ none_before (filter f (reverse t)) (filter f (reverse xs)) (sym (ap length apart) ∙ sym long))

shorter : {A : Type 0} (xs ys whole : List A) → IsPrefix xs whole → IsPrefix ys whole → length xs ≤ length ys → IsPrefix xs ys
shorter xs ys whole p q le =
    let h = shorter_prefix xs ys whole (record { rest = p.0; whole = sym p.1 }) (record { rest = q.0; whole = sym q.1 }) le in (h.rest, sym h.whole)

same_by : {A : Type 0} (f : A → Bool) (xs ys whole : List A) → IsPrefix xs whole → IsPrefix ys whole
    → length (filter f (reverse xs)) ≡ length (filter f (reverse ys)) → (length xs < length ys) ⊎ (length ys ≤ length xs)
    → filter f (reverse xs) ≡ filter f (reverse ys)
same_by f xs ys whole p q long (inl lt) = same_part f xs ys (shorter xs ys whole p q (omega (arith, lt))) long
same_by f xs ys whole p q long (inr le) = sym (same_part f ys xs (shorter ys xs whole q p le) (sym long))

-- where two prefixes of one list have as many of a sort, they have the same ones
pub same_parts : {A : Type 0} (f : A → Bool) (xs ys whole : List A) → IsPrefix xs whole → IsPrefix ys whole
    → length (filter f (reverse xs)) ≡ length (filter f (reverse ys)) → filter f (reverse xs) ≡ filter f (reverse ys)
same_parts f xs ys whole p q long = same_by f xs ys whole p q long (cases_lt (length xs) (length ys))
