-- The longest of some lists, and the search for it in any order.
use Rattle.std.proofs.Common.{◌≡◌, ℕ, suc, ◌<◌, ◌≤◌, ◌⊎◌, true, false, cond, eqb, List, [], ◌∷◌, ◌++◌, length, map, Option, Some, None, refl, sym}
use Rattle.std.proofs.Common.{ap, subst, ◌∙◌, inl, inr, arith, lt-ltb, ltb-true, ltb-false, eqb-true}
use Rattle.std.specs.Prelude.{nat_lt}
use Rattle.std.specs.List.{AllByRecursion}
use Rattle.std.proofs.lemmas.Bool.{cases_Bool, cond_both, eqb-false}
use Rattle.std.proofs.lemmas.List.{map-append}
use Rattle.nz_base.specs.declared.key.Entry.{Entry}
use Rattle.nz_machine.specs.declared.journal.Journal.{Journal}
use Rattle.nz_machine.specs.runs.World.{Has}
use Rattle.nz_machine.specs.runs.History.{longer}
use Rattle.nz_machine.proofs.lists.EachItem.{all_append, all_imply}
use Rattle.nz_machine.proofs.runs.Runs.{has_left, has_right}
use Rattle.nz_audit.specs.declared.accepted.answers.Traced.{Traced}
use Rattle.nz_audit.specs.declared.accepted.answers.Counted.{Counted}
use Rattle.nz_audit.specs.Prefixes.{prefix_for, longest_from, AreInOrder, IsNoLonger, IsBest, IsBestIfAny, comes_first, first_longest, is_shorter}

-- ---- the longest of two

pub longer_stays : (old new : List Entry) → length new ≤ length old → longer old new ≡ old
longer_stays old new le =
    cond_both (nat_lt (length old) (length new)) new old (λ (x : List Entry). x ≡ old)
    (λ t. let lt = ltb-true (length old) (length new) t in absurd (omega (arith, lt, le))) (λ _. refl)

longer_new : (old new : List Entry) → length old < length new → longer old new ≡ new
longer_new old new lt = ap (λ b. cond b new old) (lt-ltb (length old) (length new) lt)

longer_below : (old new : List Entry) (n : ℕ) → length old < n → length new < n → length (longer old new) < n
longer_below old new n a b = cond_both (nat_lt (length old) (length new)) new old (λ (x : List Entry). length x < n) (λ _. b) (λ _. a)

no_entries : (P : List Entry) → length P ≡ 0 → P ≡ []
no_entries [] e = refl
no_entries (x ∷ P) e = absurd (omega (arith, e))

pub longest_append : (best : List Entry) (Ps : List (List Entry)) (P : List Entry) → longest_from best (Ps ++ P ∷ []) ≡ longer (longest_from best Ps) P
longest_append best [] P = refl
longest_append best (Q ∷ Ps) P = longest_append (longer best Q) Ps P

-- one list more
pub longest_more : {X : Type 0} (prefix : X → List Entry) (xs : List X) (x : X) (old new P : List Entry) → new ≡ longer old P
    → old ≡ longest_from [] (map prefix xs) → P ≡ prefix x → new ≡ longest_from [] (map prefix (xs ++ x ∷ []))
longest_more prefix xs x old new P then is one =
    then ∙ (λ i. longer (is i) (one i)) ∙ sym (longest_append [] (map prefix xs) (prefix x))
    ∙ ap (longest_from []) (sym (map-append prefix xs (x ∷ [])))

-- ---- the first of the longest

later_place : (n end : ℕ) (xs : List Traced) (b : Traced) → AreInOrder n end xs → Has xs b → n ≤ b.accepted.place
later_place n end [] b order h = absurd h
later_place n end (a ∷ xs) b order (inl e) =
    let is : b.accepted.place ≡ a.accepted.place = ap (λ (x : Traced). x.accepted.place) (sym e) in let from = order.0 in omega (arith, is, from)
later_place n end (a ∷ xs) b order (inr h) =
    let k = later_place (suc a.accepted.place) end xs b order.1 h in let from = order.0 in omega (arith, k, from)

-- the longest one was met, or it comes after some that are shorter
abbrev Meets : Journal → List Entry → List Traced → Counted → Type 0
Meets journal h xs b = (h ≡ prefix_for journal b.answer) ⊎ ((length h < b.entries) × Has xs b.answer)

shorter_before : (journal : Journal) (b : Counted) (a : Traced) → IsNoLonger journal b a → a.accepted.place < b.answer.accepted.place
    → length (prefix_for journal a) < b.entries
shorter_before journal b a (inl lt) before = lt
shorter_before journal b a (inr same) before = let k = same.1 in absurd (omega (arith, k, before))

no_longer : (journal : Journal) (b : Counted) (a : Traced) → IsNoLonger journal b a → length (prefix_for journal a) ≤ b.entries
no_longer journal b a (inl lt) = omega (arith, lt)
no_longer journal b a (inr same) = let k = same.0 in omega (arith, k)

pub first_is : (journal : Journal) (b : Counted) → b.entries ≡ length (prefix_for journal b.answer) → (n end : ℕ) (h : List Entry)
    (xs : List Traced) → AreInOrder n end xs → AllByRecursion (IsNoLonger journal b) xs → Meets journal h xs b
    → longest_from h (map (prefix_for journal) xs) ≡ prefix_for journal b.answer
first_is journal b counted n end h [] order all (inl is) = is
first_is journal b counted n end h [] order all (inr ahead) = absurd (ahead.1)
first_is journal b counted n end h (a ∷ xs) order all (inl is) =
    let P = prefix_for journal a in
    let le = no_longer journal b a all.0 in
    let same : length h ≡ b.entries = ap length is ∙ sym counted in
    let stays = longer_stays h P (omega (arith, le, same)) in
    first_is journal b counted (suc a.accepted.place) end (longer h P) xs order.1 all.1 (inl (stays ∙ is))
first_is journal b counted n end h (a ∷ xs) order all (inr (lt, inl here)) =
    let P = prefix_for journal a in
    let is : P ≡ prefix_for journal b.answer = ap (prefix_for journal) here in
    let long : length P ≡ b.entries = ap length is ∙ sym counted in
    first_is journal b counted (suc a.accepted.place) end (longer h P) xs order.1 all.1 (inl (longer_new h P (omega (arith, lt, long)) ∙ is))
first_is journal b counted n end h (a ∷ xs) order all (inr (lt, inr there)) =
    let P = prefix_for journal a in
    let after = later_place (suc a.accepted.place) end xs b.answer order.1 there in
    let short = shorter_before journal b a all.0 (omega (arith, after)) in
    first_is journal b counted (suc a.accepted.place) end (longer h P) xs order.1 all.1 (inr (longer_below h P b.entries lt short, there))

pub first_of_all : (journal : Journal) (b : Counted) (end : ℕ) (xs : List Traced) → AreInOrder 0 end xs → IsBest journal xs b
    → longest_from [] (map (prefix_for journal) xs) ≡ prefix_for journal b.answer
first_of_all journal b end xs order best = elim (cases_Bool (eqb b.entries 0)) [
  | inl none ↦
      let zero_entries : b.entries ≡ 0 = eqb-true b.entries 0 none in
      first_is journal b best.counted 0 end [] xs order best.beats (inl (sym (no_entries (prefix_for journal b.answer) (sym best.counted ∙ zero_entries))))
  | inr some ↦
      let not_zero = eqb-false b.entries 0 some in
      first_is journal b best.counted 0 end [] xs order best.beats (inr (omega (arith, not_zero), best.among))
]

-- ---- places that rise

pub order_later : (n end more : ℕ) (xs : List Traced) → AreInOrder n end xs → end ≤ more → AreInOrder n more xs
order_later n end more [] order le = omega (arith, order, le)
order_later n end more (x ∷ xs) order le = (order.0, order_later (suc x.accepted.place) end more xs order.1 le)

pub order_more : (n end more : ℕ) (xs : List Traced) (a : Traced) → AreInOrder n end xs → end ≤ a.accepted.place → a.accepted.place < more
    → AreInOrder n more (xs ++ a ∷ [])
order_more n end more [] a order le lt = (omega (arith, order, le), lt)
order_more n end more (x ∷ xs) a order le lt = (order.0, order_more (suc x.accepted.place) end more xs a order.1 le lt)

-- ---- the search

has_last : {X : Type 0} (xs : List X) (x : X) → Has (xs ++ x ∷ []) x
has_last xs x = has_right xs (x ∷ []) x (inl refl)

-- one that cannot be the longest
pub best_stays : (journal : Journal) (done : List Traced) (a : Traced) (o : Option Counted) → length (prefix_for journal a) ≤ a.accepted.sent
    → is_shorter o a.accepted.sent ≡ true → IsBestIfAny journal done o → IsBestIfAny journal (done ++ a ∷ []) o
best_stays journal done a None few less h = absurd cc
best_stays journal done a (Some b) few less h =
    let short : a.accepted.sent < b.entries = ltb-true a.accepted.sent b.entries less in
    record {
      counted = h.counted;
      among = has_left done (a ∷ []) b.answer h.among;
      beats = all_append (IsNoLonger journal b) done (a ∷ []) h.beats (inl (omega (arith, few, short)), tt);
    }

no_longer_than : (journal : Journal) (b next : Counted) (a : Traced) → IsNoLonger journal b a
    → (b.entries < next.entries) ⊎ ((b.entries ≡ next.entries) × (next.answer.accepted.place < b.answer.accepted.place)) → IsNoLonger journal next a
no_longer_than journal b next a (inl lt) (inl more) = inl (omega (arith, lt, more))
no_longer_than journal b next a (inl lt) (inr same) = let e = same.0 in inl (omega (arith, lt, e))
no_longer_than journal b next a (inr is) (inl more) = let e = is.0 in inl (omega (arith, e, more))
no_longer_than journal b next a (inr is) (inr same) =
    let e = is.0 in let d = same.0 in let k = is.1 in let m = same.1 in inr (omega (arith, e, d), omega (arith, k, m))

itself : (journal : Journal) (next : Counted) → next.entries ≡ length (prefix_for journal next.answer) → IsNoLonger journal next next.answer
itself journal next counted = inr (sym counted, omega arith)

by_order : (best next : Counted) → comes_first best next ≡ true
    → (best.entries < next.entries) ⊎ ((best.entries ≡ next.entries) × (next.answer.accepted.place < best.answer.accepted.place))
by_order best next e = elim (cases_Bool (nat_lt best.entries next.entries)) [
  | inl more ↦ inl (ltb-true best.entries next.entries more)
  | inr less ↦ elim (cases_Bool (eqb best.entries next.entries)) [
    | inl same ↦ inr (eqb-true best.entries next.entries same, ltb-true next.answer.accepted.place best.answer.accepted.place (rw (less, same) at e))
    | inr other ↦ let none : false ≡ true = rw (less, other) at e in absurd cc
  ]
]

by_order_not : (journal : Journal) (best next : Counted) → next.entries ≡ length (prefix_for journal next.answer) → comes_first best next ≡ false
    → IsNoLonger journal best next.answer
by_order_not journal best next counted e = elim (cases_Bool (nat_lt best.entries next.entries)) [
  | inl more ↦ let none : true ≡ false = rw more at e in absurd cc
  | inr less ↦
      let le = ltb-false best.entries next.entries less in
      elim (cases_Bool (eqb best.entries next.entries)) [
        | inl same ↦
            let is = eqb-true best.entries next.entries same in
            let after = ltb-false next.answer.accepted.place best.answer.accepted.place (rw (less, same) at e) in
            inr (omega (arith, is, counted), omega (arith, after))
        | inr other ↦ let ne = eqb-false best.entries next.entries other in inl (omega (arith, le, ne, counted))
      ]
]

-- one that was counted
pub best_then : (journal : Journal) (done : List Traced) (next : Counted) (o : Option Counted)
    → next.entries ≡ length (prefix_for journal next.answer)
    → IsBestIfAny journal done o → IsBest journal (done ++ next.answer ∷ []) (first_longest o next)
best_then journal done next None counted none = record {
  counted = counted;
  among = has_last done next.answer;
  beats = subst (λ (l : List Traced). AllByRecursion (IsNoLonger journal next) (l ++ next.answer ∷ [])) (sym none) (itself journal next counted, tt);
}
best_then journal done next (Some best) counted h =
    cond_both (comes_first best next) next best (IsBest journal (done ++ next.answer ∷ []))
    (λ first. record {
      counted = counted;
      among = has_last done next.answer;
      beats = all_append (IsNoLonger journal next) done (next.answer ∷ [])
          (all_imply (IsNoLonger journal best) (IsNoLonger journal next) (λ a k. no_longer_than journal best next a k (by_order best next first)) done h.beats)
          (itself journal next counted, tt);
    })
    (λ not_first. record {
      counted = h.counted;
      among = has_left done (next.answer ∷ []) best.answer h.among;
      beats = all_append (IsNoLonger journal best) done (next.answer ∷ []) h.beats (by_order_not journal best next counted not_first, tt);
    })
