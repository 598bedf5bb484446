-- A pass over lines, one after another.
use Rattle.std.proofs.Common.{◌≡◌, ℕ, zero, suc, ◌+◌, ◌<◌, ◌≤◌, List, [], ◌∷◌, ◌++◌, length, take, drop, get_or, drop-cons, Option, Some, None}
use Rattle.std.proofs.Common.{refl, sym, ap, ◌∙◌, arith, add-one}
use Rattle.std.specs.Prelude.{slice_get}
use Rattle.std.proofs.lemmas.List.{take_more, drop_all}
use Rattle.std.proofs.lemmas.Option.{none-some, slice_get-get_or}
use Rattle.nz_check.specs.declared.verdict.Why.{Why}
use Rattle.nz_check.specs.declared.verdict.Verdict.{Verdict}
use Rattle.nz_check.specs.declared.verdict.Verdict.TheVariants.{Yes, No}
use Rattle.nz_check.specs.Checked.{whys, first_line}

-- the rest of the lines from this one on
rest_is : {X : Type 0} (why_of : List X → X → Option Why) (xs : List X) (i : ℕ) (x : X) → i < length xs → x ≡ get_or xs i x
    → whys why_of (take i xs) (drop i xs) ≡ why_of (take i xs) x ∷ whys why_of (take (i + 1) xs) (drop (i + 1) xs)
rest_is {X = X} why_of xs i x lt is =
    let here : drop i xs ≡ x ∷ drop (i + 1) xs =
    drop-cons xs i x lt ∙ ap (λ (y : X). y ∷ drop (suc i) xs) (sym is) ∙ ap (λ (n : ℕ). x ∷ drop n xs) (sym (add-one i)) in
    let above : take (i + 1) xs ≡ take i xs ++ x ∷ [] =
    take_more xs i x lt ∙ ap (λ (y : X). take i xs ++ y ∷ []) (sym is) in
    ap (whys why_of (take i xs)) here ∙ ap (λ (l : List X). why_of (take i xs) x ∷ whys why_of l (drop (i + 1) xs)) (sym above)

-- nothing is wrong with the line
pub next_line : {X : Type 0} (why_of : List X → X → Option Why) (xs : List X) (i n : ℕ) (x : X) (answer : Verdict) → i < length xs → x ≡ get_or xs i x
    → why_of (take i xs) x ≡ None → first_line n (whys why_of (take i xs) (drop i xs)) ≡ answer
    → first_line (n + 1) (whys why_of (take (i + 1) xs) (drop (i + 1) xs)) ≡ answer
next_line why_of xs i n x answer lt is fine inv =
    ap (λ (m : ℕ). first_line m (whys why_of (take (i + 1) xs) (drop (i + 1) xs))) (add-one n)
    ∙ sym (ap (first_line n) (rest_is why_of xs i x lt is)
    ∙ ap (λ (o : Option Why). first_line n (o ∷ whys why_of (take (i + 1) xs) (drop (i + 1) xs))) fine) ∙ inv

-- something is
pub wrong_line : {X : Type 0} (why_of : List X → X → Option Why) (xs : List X) (i n : ℕ) (x : X) (w : Why) (answer : Verdict) → i < length xs → x ≡ get_or xs i x
    → why_of (take i xs) x ≡ Some w → first_line n (whys why_of (take i xs) (drop i xs)) ≡ answer → No n w ≡ answer
wrong_line why_of xs i n x w answer lt is wrong inv =
    sym (ap (first_line n) (rest_is why_of xs i x lt is)
    ∙ ap (λ (o : Option Why). first_line n (o ∷ whys why_of (take (i + 1) xs) (drop (i + 1) xs))) wrong) ∙ inv

-- no line is left
pub no_line : {X : Type 0} (why_of : List X → X → Option Why) (xs : List X) (i n : ℕ) (answer : Verdict) → length xs ≤ i
    → first_line n (whys why_of (take i xs) (drop i xs)) ≡ answer → Yes ≡ answer
no_line {X = X} why_of xs i n answer done inv = sym (ap (λ (l : List X). first_line n (whys why_of (take i xs) l)) (drop_all i xs done)) ∙ inv

-- ---- elements

pub get_or_any : {X : Type 0} (xs : List X) (i : ℕ) (d e : X) → i < length xs → get_or xs i d ≡ get_or xs i e
get_or_any [] i d e lt = absurd (omega (arith, lt))
get_or_any (x ∷ xs) zero d e lt = refl
get_or_any (x ∷ xs) (suc i) d e lt = get_or_any xs i d e (omega (arith, lt))

-- As many items are taken as there are to take.
pub taken : {X : Type 0} (xs : List X) (i : ℕ) → i < length xs → length (take i xs) ≡ i
taken [] i lt = absurd (omega (arith, lt))
taken (x ∷ xs) zero lt = refl
taken (x ∷ xs) (suc i) lt = ap suc (taken xs i (omega (arith, lt)))

pub take_one : {X : Type 0} (xs : List X) (i : ℕ) (x : X) → i < length xs → x ≡ get_or xs i x → take (i + 1) xs ≡ take i xs ++ x ∷ []
take_one {X = X} xs i x lt is = take_more xs i x lt ∙ ap (λ (y : X). take i xs ++ y ∷ []) (sym is)

pub get_within : {X : Type 0} (xs : List X) (i : ℕ) (x : X) → slice_get xs i ≡ Some x → i < length xs
get_within [] i x e = absurd (none-some x e)
get_within (y ∷ xs) zero x e = omega arith
get_within (y ∷ xs) (suc i) x e = let t = get_within xs i x e in omega (arith, t)

pub get_item : {X : Type 0} (xs : List X) (i : ℕ) (x : X) → i < length xs → x ≡ get_or xs i x → slice_get xs i ≡ Some x
get_item xs i x lt is = slice_get-get_or xs i x lt ∙ ap Some (sym is)
