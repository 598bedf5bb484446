-- The moments of one run are ordered.
use Rattle.std.proofs.Common.{◌≡◌, ◌≤◌, List, [], ◌∷◌, length, refl, sym, ap, subst, ◌∙◌, inl, inr, ◌⊎◌, arith}
use Rattle.nz_base.specs.Moments.{At, Before}

pub at_self : {X : Type 0} (J : List X) → At J J
at_self [] = refl
at_self (r ∷ J) = inl refl

pub at_then : {X : Type 0} (J K L : List X) → At J K → At K L → At J L
at_then {X} [] K L a b = subst (λ (x : List X). At x L) a b
at_then {X} (r ∷ J) K L (inl same) b = subst (λ (x : List X). At x L) same b
at_then (r ∷ J) K L (inr older) b = inr (at_then J K L older b)

pub at_before : {X : Type 0} (J K : List X) → Before J K → At J K
at_before [] K h = absurd h
at_before (r ∷ J) K h = inr h

pub at_shorter : {X : Type 0} (J K : List X) → At J K → length K ≤ length J
at_shorter [] K at = let e = ap length at in omega (arith, e)
at_shorter (r ∷ J) K (inl same) = let e = ap length same in omega (arith, e)
at_shorter (r ∷ J) K (inr older) = let rest = at_shorter J K older in omega (arith, rest)

-- the run before a record, at a moment that ends with it
pub at_tail : {X : Type 0} (J : List X) (r : X) (K : List X) → At J (r ∷ K) → At J K
at_tail J r K at = at_then J (r ∷ K) K at (inr (at_self K))

-- K is not later than Q, or Q is before K
pub at_either : {X : Type 0} (J K Q : List X) → At J K → At J Q → At Q K ⊎ Before K Q
at_either {X} [] K Q a b = inl (subst (λ (x : List X). At x K) (sym b) a)
at_either {X} (r ∷ J) K Q (inl a) (inl b) = inl (subst (λ (x : List X). At Q x) (b ∙ sym a) (at_self Q))
at_either {X} (r ∷ J) K Q (inl a) (inr b) = inr (subst (λ (x : List X). Before x Q) (sym a) b)
at_either {X} (r ∷ J) K Q (inr a) (inl b) = inl (subst (λ (x : List X). At x K) (sym b) (inr a))
at_either (r ∷ J) K Q (inr a) (inr b) = at_either J K Q a b

-- of two moments the shorter is a moment of the longer
pub at_order : {X : Type 0} (J K L : List X) → At J K → At J L → length K ≤ length L → At L K
at_order {X} [] K L k l le = subst (λ (x : List X). At x K) (sym l) k
at_order {X} (r ∷ J) K L k (inl same) le = subst (λ (x : List X). At x K) (sym same) k
at_order (r ∷ J) K L (inl same) (inr older) le = absurd (let short = at_shorter J L older in let e = ap length same in omega (arith, short, e))
at_order (r ∷ J) K L (inr k) (inr l) le = at_order J K L k l le

-- moments with as many records are the same
pub at_same : {X : Type 0} (J K L : List X) → At J K → At J L → length K ≡ length L → K ≡ L
at_same [] K L k l e = k ∙ sym l
at_same (r ∷ J) K L (inl k) (inl l) e = k ∙ sym l
at_same (r ∷ J) K L (inl k) (inr l) e = absurd (let short = at_shorter J L l in let a = ap length k in omega (arith, short, a, e))
at_same (r ∷ J) K L (inr k) (inl l) e = absurd (let short = at_shorter J K k in let a = ap length l in omega (arith, short, a, e))
at_same (r ∷ J) K L (inr k) (inr l) e = at_same J K L k l e
