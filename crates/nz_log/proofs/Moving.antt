-- Entries that move within a log.
use Rattle.std.proofs.Common.{◌≡◌, ℕ, suc, ◌+◌, ◌<◌, ◌≤◌, List, [], ◌∷◌, ◌++◌, length, take, drop, get_or, set}
use Rattle.std.proofs.Common.{refl, sym, ap, ◌∙◌, arith, drop-cons, append_assoc, length-append, length-set}
use Rattle.std.proofs.lemmas.List.{take_more_set, drop-set-lt, take-set-le, get_or_default}
use Rattle.std.proofs.lemmas.Grind.{common_steps}
use Rattle.nz_base.specs.declared.key.Entry.{Entry}

-- the entry in hand takes a place, and the one that was there is in hand
pub hand_step : (es : List Entry) (at : ℕ) (hand out : Entry) → at < length es → out ≡ get_or es at out
    → take (at + 1) (set es at hand) ++ out ∷ drop (at + 1) (set es at hand) ≡ take at es ++ hand ∷ drop at es
hand_step es at hand out within is =
    let first : take (at + 1) (set es at hand) ≡ take at es ++ hand ∷ [] = take_more_set es at hand within in
    let rest : drop (at + 1) (set es at hand) ≡ drop (at + 1) es = drop-set-lt (at + 1) es at hand (omega arith) in
    let next : suc at ≡ at + 1 = omega arith in
    let whole : drop at es ≡ out ∷ drop (at + 1) es =
    drop-cons es at out within ∙ ap (λ (x : Entry). x ∷ drop (suc at) es) (sym is) ∙ ap (λ (n : ℕ). out ∷ drop n es) next in
    ap (λ (xs : List Entry). xs ++ out ∷ drop (at + 1) (set es at hand)) first
    ∙ ap (λ (xs : List Entry). (take at es ++ hand ∷ []) ++ out ∷ xs) rest
    ∙ append_assoc (take at es) (hand ∷ []) (out ∷ drop (at + 1) es)
    ∙ ap (λ (xs : List Entry). take at es ++ hand ∷ xs) (sym whole)

-- the last entry of each is dropped
pub last_away : (xs ys : List Entry) (x y : Entry) → xs ++ x ∷ [] ≡ ys ++ y ∷ [] → xs ≡ ys
last_away [] [] x y same = refl
last_away [] (b ∷ ys) x y same =
    absurd (let long : length (x ∷ []) ≡ length (b ∷ ys ++ y ∷ []) = ap length same in
    let rest : length (ys ++ y ∷ []) ≡ length ys + 1 = length-append ys (y ∷ []) in omega (arith, long, rest))
last_away (a ∷ xs) [] x y same =
    absurd (let long : length (a ∷ xs ++ x ∷ []) ≡ length (y ∷ []) = ap length same in
    let rest : length (xs ++ x ∷ []) ≡ length xs + 1 = length-append xs (x ∷ []) in omega (arith, long, rest))
last_away (a ∷ xs) (b ∷ ys) x y same = grind (arith, common_steps, last_away xs ys x y)

-- an entry goes down to a place
pub down_step : (es : List Entry) (from to : ℕ) (hole out : Entry) → to ≤ from → from < length es → out ≡ get_or es from out
    → (d : Entry) → take (to + 1) (set (set es from hole) to out) ≡ take to es ++ get_or es from d ∷ []
down_step es from to hole out down within is d =
    take_more_set (set es from hole) to out (let long : length (set es from hole) ≡ length es = length-set es from hole in omega (arith, long))
    ∙ ap (λ (xs : List Entry). xs ++ out ∷ []) (take-set-le to es from hole down)
    ∙ ap (λ (x : Entry). take to es ++ x ∷ []) (is ∙ get_or_default es from out d within)

pub above_step : (es : List Entry) (from to : ℕ) (hole out : Entry) → to ≤ from → drop (from + 1) (set (set es from hole) to out) ≡ drop (from + 1) es
above_step es from to hole out down = drop-set-lt (from + 1) (set es from hole) to out (omega arith) ∙ drop-set-lt (from + 1) es from hole (omega arith)
