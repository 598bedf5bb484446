-- Lines one after another, and the first with which something is wrong.
use Rattle.std.proofs.Common.{◌≡◌, ℕ, suc, ◌+◌, List, [], ◌∷◌, ◌++◌, length, Option, Some, None, refl, sym, ap, ◌∙◌, append_assoc, arith}
use Rattle.std.proofs.lemmas.List.{append-nil}
use Rattle.std.proofs.lemmas.Option.{none-some}
use Rattle.nz_check.specs.declared.verdict.Why.{Why}
use Rattle.nz_check.specs.declared.verdict.Verdict.TheVariants.{Yes, No}
use Rattle.nz_check.specs.Checked.{whys, first_line}

-- ---- nothing is wrong

abbrev pub AreFine : List (Option Why) → Type 0
AreFine [] = Unit {0}
AreFine (o ∷ os) = (o ≡ None) × AreFine os

pub fine_of_yes : (n : ℕ) (os : List (Option Why)) → first_line n os ≡ Yes → AreFine os
fine_of_yes n [] e = tt
fine_of_yes n (None ∷ os) e = (refl, fine_of_yes (suc n) os e)
fine_of_yes n (Some w ∷ os) e = absurd cc

pub yes_of_fine : (n : ℕ) (os : List (Option Why)) → AreFine os → first_line n os ≡ Yes
yes_of_fine n [] h = refl
yes_of_fine n (None ∷ os) h = yes_of_fine (suc n) os h.1
yes_of_fine n (Some w ∷ os) h = absurd (none-some w (sym h.0))

pub fine_parts : (os ps : List (Option Why)) → AreFine (os ++ ps) → AreFine os × AreFine ps
fine_parts [] ps h = (tt, h)
fine_parts (o ∷ os) ps h = let t = fine_parts os ps h.1 in ((h.0, t.0), t.1)

pub fine_both : (os ps : List (Option Why)) → AreFine os → AreFine ps → AreFine (os ++ ps)
fine_both [] ps h k = k
fine_both (o ∷ os) ps h k = (h.0, fine_both os ps h.1 k)

-- at each cut of the list
abbrev pub EachFine : {X : Type 0} → (List X → X → Option Why) → List X → List X → Type 0
EachFine {X} why_of above xs = (a b : List X) (x : X) → xs ≡ a ++ x ∷ b → why_of (above ++ a) x ≡ None

pub each_of_fine : {X : Type 0} (why_of : List X → X → Option Why) (above a b : List X) (x : X)
    → AreFine (whys why_of above (a ++ x ∷ b)) → why_of (above ++ a) x ≡ None
each_of_fine {X = X} why_of above [] b x h = ap (λ (l : List X). why_of l x) (append-nil above) ∙ h.0
each_of_fine {X = X} why_of above (y ∷ a) b x h =
    ap (λ (l : List X). why_of l x) (sym (append_assoc above (y ∷ []) a)) ∙ each_of_fine why_of (above ++ y ∷ []) a b x h.1

pub fine_of_each : {X : Type 0} (why_of : List X → X → Option Why) (above xs : List X) → EachFine why_of above xs → AreFine (whys why_of above xs)
fine_of_each {X = X} why_of above [] h = tt
fine_of_each {X = X} why_of above (y ∷ xs) h = (
  ap (λ (l : List X). why_of l y) (sym (append-nil above)) ∙ h [] xs y refl,
  fine_of_each why_of (above ++ y ∷ []) xs
      (λ a b x e. ap (λ (l : List X). why_of l x) (append_assoc above (y ∷ []) a) ∙ h (y ∷ a) b x (ap (λ (l : List X). y ∷ l) e)),
)

-- ---- the first line

pub first_goes_on : (n : ℕ) (os ps : List (Option Why)) → first_line n os ≡ Yes → first_line n (os ++ ps) ≡ first_line (n + length os) ps
first_goes_on n [] ps e = ap (λ (m : ℕ). first_line m ps) (grind arith)
first_goes_on n (None ∷ os) ps e = first_goes_on (suc n) os ps e ∙ ap (λ (m : ℕ). first_line m ps) (grind arith)
first_goes_on n (Some w ∷ os) ps e = absurd cc

pub first_stays : (n m : ℕ) (w : Why) (os ps : List (Option Why)) → first_line n os ≡ No m w → first_line n (os ++ ps) ≡ No m w
first_stays n m w [] ps e = absurd cc
first_stays n m w (None ∷ os) ps e = first_stays (suc n) m w os ps e
first_stays n m w (Some v ∷ os) ps e = e

pub length-whys : {X : Type 0} (why_of : List X → X → Option Why) (above xs : List X) → length (whys why_of above xs) ≡ length xs
length-whys why_of above [] = refl
length-whys why_of above (x ∷ xs) = ap suc (length-whys why_of (above ++ x ∷ []) xs)
