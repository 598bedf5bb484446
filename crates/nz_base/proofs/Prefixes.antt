-- Prefixes: their order, their lengths, and which are comparable.
use Rattle.std.proofs.Common.{◌≡◌, ℕ, ◌≤◌, List, [], ◌∷◌, ◌++◌, length, take, drop, map, refl, sym, ap, ◌∙◌}
use Rattle.std.proofs.Common.{arith, inl, inr, append_assoc, append-nil, length-append, take-append-drop}
use Rattle.std.proofs.lemmas.Bool.{cases_lt}
use Rattle.std.proofs.lemmas.List.{map-append, take-append-le}
use Rattle.nz_base.specs.Prefixes.{IsPrefix, Comparable}

pub prefix_self : {X : Type 0} (xs : List X) → IsPrefix xs xs
prefix_self xs = record { rest = []; whole = sym (append-nil xs) }

pub prefix_same : {X : Type 0} (xs ys : List X) → ys ≡ xs → IsPrefix xs ys
prefix_same xs ys e = record { rest = []; whole = e ∙ sym (append-nil xs) }

pub prefix_none : {X : Type 0} (xs : List X) → IsPrefix [] xs
prefix_none xs = record { rest = xs; whole = refl }

pub prefix_more : {X : Type 0} (xs ys : List X) → IsPrefix xs (xs ++ ys)
prefix_more xs ys = record { rest = ys; whole = refl }

pub prefix_then : {X : Type 0} (xs ys zs : List X) → IsPrefix xs ys → IsPrefix ys zs → IsPrefix xs zs
prefix_then {X} xs ys zs p q = record { rest = p.rest ++ q.rest; whole = q.whole ∙ ap (λ (l : List X). l ++ q.rest) p.whole ∙ append_assoc xs p.rest q.rest }

pub prefix_take : {X : Type 0} (n : ℕ) (xs : List X) → IsPrefix (take n xs) xs
prefix_take n xs = record { rest = drop n xs; whole = sym (take-append-drop n xs) }

pub prefix_length : {X : Type 0} (xs ys : List X) → IsPrefix xs ys → length xs ≤ length ys
prefix_length xs ys p = let n = length-append xs p.rest in omega (arith, n, ap length p.whole)

pub prefix_map : {X Y : Type 0} (f : X → Y) (xs ys : List X) → IsPrefix xs ys → IsPrefix (map f xs) (map f ys)
prefix_map f xs ys p = record { rest = map f p.rest; whole = ap (map f) p.whole ∙ map-append f xs p.rest }

within : {X : Type 0} (xs ys r s : List X) → xs ++ r ≡ ys ++ s → length xs ≤ length ys → IsPrefix xs ys
within [] ys r s e le = record { rest = ys; whole = refl }
within (x ∷ xs) [] r s e le = absurd (omega (arith, le))
within {X} (x ∷ xs) (y ∷ ys) r s e le =
    let tail : xs ++ r ≡ ys ++ s = cc in
    let head : x ≡ y = cc in
    let p = within xs ys r s tail (omega (arith, le)) in
    record { rest = p.rest; whole = ap (λ (z : X). z ∷ ys) (sym head) ∙ ap (λ (l : List X). x ∷ l) p.whole }

-- of two prefixes of one list the shorter is a prefix of the longer
pub shorter_prefix : {X : Type 0} (xs ys whole : List X) → IsPrefix xs whole → IsPrefix ys whole → length xs ≤ length ys → IsPrefix xs ys
shorter_prefix xs ys whole p q le = within xs ys p.rest q.rest (sym p.whole ∙ q.whole) le

-- two prefixes of one list are comparable
pub both_prefixes : {X : Type 0} (xs ys whole : List X) → IsPrefix xs whole → IsPrefix ys whole → Comparable xs ys
both_prefixes xs ys whole p q =
    elim (cases_lt (length xs) (length ys)) [
      | inl lt ↦ inl (shorter_prefix xs ys whole p q (omega arith))
      | inr le ↦ inr (shorter_prefix ys xs whole q p le)
    ]

pub comparable_back : {X : Type 0} (xs ys : List X) → Comparable xs ys → Comparable ys xs
comparable_back xs ys (inl p) = inr p
comparable_back xs ys (inr p) = inl p

-- of two comparable lists the shorter is a prefix of the longer
pub shorter_comparable : {X : Type 0} (xs ys : List X) → Comparable xs ys → length xs ≤ length ys → IsPrefix xs ys
shorter_comparable xs ys (inl p) le = p
shorter_comparable xs ys (inr p) le = shorter_prefix xs ys xs (prefix_self xs) p le

-- what is comparable with a list is comparable with its prefixes
pub comparable_prefix : {X : Type 0} (xs ys zs : List X) → Comparable xs zs → IsPrefix ys zs → Comparable xs ys
comparable_prefix xs ys zs (inl p) q = both_prefixes xs ys zs p q
comparable_prefix xs ys zs (inr p) q = inr (prefix_then ys zs xs q p)

-- the first items of a prefix are those of the list
pub take_of_prefix : {X : Type 0} (n : ℕ) (xs ys : List X) → IsPrefix xs ys → n ≤ length xs → take n xs ≡ take n ys
take_of_prefix n xs ys p le = sym (ap (take n) p.whole ∙ take-append-le n xs p.rest le)
