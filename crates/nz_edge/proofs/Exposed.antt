-- What is lost and gained over several calls.
use Rattle.std.proofs.Common.{◌≡◌, ℕ, ◌+◌, ◌≤◌, List, ◌++◌, length, take, drop, Option, Some, None, sym, ap, ◌∙◌, subst, arith, rules}
use Rattle.std.proofs.lemmas.List.{take-append-drop, length-take-le, drop-drop, take_at, take-take, drop-take}
use Rattle.std.proofs.lemmas.Grind.{common_steps}
use Rattle.nz_edge.specs.Exposed.{Loses, Gains}

-- the bytes gained in two calls are those of the first and then those of the second
pub gains_in_turn : (a b c : Option (List ℕ)) (xs ys : List ℕ) → Gains a b xs → Gains b c ys → Gains a c (xs ++ ys)
gains_in_turn None b c xs ys h k = search (rules, common_steps)
gains_in_turn (Some taken) b c xs ys h k = search (rules, common_steps)

-- the first n bytes, written over the first of others, are what is lost
pub loses_prefix : (bytes others : List ℕ) (at n : ℕ) → n ≤ length (drop at bytes)
    → Loses (Some (drop at bytes)) (Some (drop (at + n) bytes)) (take n (take n (drop at bytes) ++ others))
loses_prefix bytes others at n h =
    let xs = drop at bytes in
    let ys = take n xs in
    let prefix : take n (ys ++ others) ≡ ys = take_at ys others n (length-take-le n xs h) in
    let e : take n xs ++ drop (at + n) bytes ≡ xs = rw (← drop-drop n at bytes) (take-append-drop n xs) in
    ap Some (sym (rw prefix e))

-- up to a place, and from there on
take_parts : (bytes : List ℕ) (at n : ℕ) → take (at + n) bytes ≡ take at bytes ++ take n (drop at bytes)
take_parts bytes at n =
    let whole = take (at + n) bytes in
    let prefix : take at whole ≡ take at bytes = take-take at (at + n) bytes (omega arith) in
    let back : drop at whole ≡ take n (drop at bytes) = drop-take at n bytes in
    sym (take-append-drop at whole) ∙ ap (λ ys. ys ++ drop at whole) prefix ∙ ap (λ ys. take at bytes ++ ys) back

-- bytes that are taken up to a place, and then from there on
pub gains_further : (a b c : Option (List ℕ)) (bytes : List ℕ) (at n : ℕ) → Gains a b (take at bytes)
    → Gains b c (take n (drop at bytes)) → Gains a c (take (at + n) bytes)
gains_further a b c bytes at n h k =
    subst (λ (ys : List ℕ). Gains a c ys) (sym (take_parts bytes at n)) (gains_in_turn a b c (take at bytes) (take n (drop at bytes)) h k)
