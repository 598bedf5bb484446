-- What is chosen of the replies, by cases, and what the choice has.
use Rattle.std.proofs.Common.{◌≡◌, ℕ, ◌<◌, ◌≤◌, ◌⊎◌, Bool, true, ltb, List, [], ◌∷◌, ◌++◌, Option, Some, None, refl, sym, ap, subst, ◌∙◌, arith, inl, inr}
use Rattle.std.specs.List.{filter}
use Rattle.std.proofs.lemmas.Bool.{ltb-true, ltb-false, cases_Bool}
use Rattle.nz_base.proofs.Booleans.{true_and_false}
use Rattle.nz_msg.specs.declared.message.Path.{Path}
use Rattle.nz_msg.specs.declared.message.Path.TheVariants.{Fast, Slow}
use Rattle.nz_machine.specs.declared.reply.Reply.{Reply}
use Rattle.nz_machine.specs.rules.Quorums.{view_of, of_lesser_view, first_of_least_view, Chosen, slow_or_none, fast_or, decision}
use Rattle.nz_machine.specs.runs.World.{Has}
use Rattle.nz_quorum.specs.Tallies.{has_quorum, lead_of}
use Rattle.nz_quorum.specs.Choices.{HasQuorum, IsFirstOfLeastView}

-- ---- the first of the least view

-- of those that pass the test this is the first of the least view
record IsFirst (p : Reply → Bool) (xs : List Reply) (x : Reply) : Type 0 where
  before : List Reply
  rest_after : List Reply
  split : xs ≡ before ++ x ∷ rest_after
  passes : p x ≡ true
  least : (y : Reply) → Has xs y → p y ≡ true → view_of x ≤ view_of y
  first : (y : Reply) → Has before y → p y ≡ true → view_of x < view_of y

none_passes : (p : Reply → Bool) (xs : List Reply) (y : Reply) → first_of_least_view (filter p xs) ≡ None → Has xs y → p y ≡ true → ⊥
none_passes p [] y none has passes = has
none_passes p (x ∷ xs) y none has passes =
    elim (cases_Bool (p x)) [
      | inl here ↦ (let e : Some (of_lesser_view x (first_of_least_view (filter p xs))) ≡ None = rw here at none in absurd cc)
      | inr away ↦
          let rest : first_of_least_view (filter p xs) ≡ None = rw away at none in
          elim has [
            | inl same ↦ true_and_false (p y) passes (ap p (sym same) ∙ away)
            | inr later ↦ none_passes p xs y rest later passes
          ]
    ]

-- after one that fails, or that is of a greater view
after_one : (p : Reply → Bool) (x : Reply) (xs : List Reply) (y : Reply) → (p x ≡ true → view_of y < view_of x) → IsFirst p xs y → IsFirst p (x ∷ xs) y
after_one p x xs y lesser first = record {
  before = x ∷ first.before;
  rest_after = first.rest_after;
  split = ap (λ (ys : List Reply). x ∷ ys) first.split;
  passes = first.passes;
  least = λ z has passes. elim has [
    | inl same ↦ (let lt = lesser (ap p same ∙ passes) in let e = ap view_of same in omega (arith, lt, e))
    | inr later ↦ first.least z later passes
  ];
  first = λ z has passes. elim has [
    | inl same ↦ (let lt = lesser (ap p same ∙ passes) in let e = ap view_of same in omega (arith, lt, e))
    | inr later ↦ first.first z later passes
  ];
}

-- before others of no lesser view
before_others : (p : Reply → Bool) (x : Reply) (xs : List Reply) → p x ≡ true
    → ((y : Reply) → Has xs y → p y ≡ true → view_of x ≤ view_of y) → IsFirst p (x ∷ xs) x
before_others p x xs passes least = record {
  before = [];
  rest_after = xs;
  split = refl;
  passes = passes;
  least = λ z has there. elim has [
    | inl same ↦ (let e = ap view_of same in omega (arith, e))
    | inr later ↦ least z later there
  ];
  first = λ z has there. absurd has;
}

first_of_two : (p : Reply → Bool) (x : Reply) (xs : List Reply) (y : Reply) (rest : Option Reply) → p x ≡ true
    → first_of_least_view (filter p xs) ≡ rest → Some (of_lesser_view x rest) ≡ Some y
    → ((z : Reply) → first_of_least_view (filter p xs) ≡ Some z → IsFirst p xs z) → IsFirst p (x ∷ xs) y
first_of_two p x xs y None passes is e ih =
    let same : x ≡ y = cc in
    subst (IsFirst p (x ∷ xs)) same (before_others p x xs passes (λ z has there. absurd (none_passes p xs z is has there)))
first_of_two p x xs y (Some d) passes is e ih =
    let found = ih d is in
    elim (cases_Bool (ltb (view_of d) (view_of x))) [
      | inl lesser ↦
          let chosen : Some d ≡ Some y = rw lesser at e in
          let same : d ≡ y = cc in
          subst (IsFirst p (x ∷ xs)) same (after_one p x xs d (λ h. ltb-true (view_of d) (view_of x) lesser) found)
      | inr other ↦
          let chosen : Some x ≡ Some y = rw other at e in
          let same : x ≡ y = cc in
          let le = ltb-false (view_of d) (view_of x) other in
          subst (IsFirst p (x ∷ xs)) same (before_others p x xs passes (λ z has there. let after = found.least z has there in omega (arith, le, after)))
    ]

first_is : (p : Reply → Bool) (xs : List Reply) (y : Reply) → first_of_least_view (filter p xs) ≡ Some y → IsFirst p xs y
first_is p [] y e = absurd cc
first_is p (x ∷ xs) y e =
    let ih = first_is p xs in
    elim (cases_Bool (p x)) [
      | inl here ↦ first_of_two p x xs y (first_of_least_view (filter p xs)) here refl (rw here at e) ih
      | inr away ↦ after_one p x xs y (λ here. true_and_false (p x) here away) (ih y (rw away at e))
    ]

some_first : (p : Reply → Bool) (xs : List Reply) (y : Reply) (o : Option Reply)
    → first_of_least_view (filter p xs) ≡ o → Has xs y → p y ≡ true → (x : Reply) × (o ≡ Some x)
some_first p xs y None is has passes = absurd (none_passes p xs y is has passes)
some_first p xs y (Some x) is has passes = (x, refl)

has_middle : (before : List Reply) (x : Reply) (rest_after : List Reply) → Has (before ++ x ∷ rest_after) x
has_middle [] x rest_after = inl refl
has_middle (b ∷ before) x rest_after = inr (has_middle before x rest_after)

-- ---- the decision

pub fast_decides : (f : ℕ) (replies : List Reply) (lead : Reply) → lead_of Fast f replies ≡ Some lead
    → decision f replies ≡ Some (record { path = Fast; reply = lead })
unfolding decision
fast_decides f replies lead e = ap (λ o. fast_or o (slow_or_none (lead_of Slow f replies))) e

pub slow_decides : (f : ℕ) (replies : List Reply) (o : Option Reply) → lead_of Fast f replies ≡ None
    → lead_of Slow f replies ≡ o → decision f replies ≡ slow_or_none o
unfolding decision
slow_decides f replies o e k = ap (λ x. fast_or x (slow_or_none (lead_of Slow f replies))) e ∙ ap slow_or_none k

-- by a fast quorum, or where there is none by a slow one
abbrev Ways : ℕ → List Reply → Chosen → Type 0
Ways f replies chosen =
    ((lead_of Fast f replies ≡ Some chosen.reply) × (chosen.path ≡ Fast))
    ⊎ ((lead_of Fast f replies ≡ None) × (lead_of Slow f replies ≡ Some chosen.reply) × (chosen.path ≡ Slow))

decided_by : (f : ℕ) (replies : List Reply) (chosen : Chosen) → decision f replies ≡ Some chosen → Ways f replies chosen
unfolding decision
decided_by f replies chosen e = by (lead_of Fast f replies) (lead_of Slow f replies) refl refl e
  where
    by : (fast slow : Option Reply) → lead_of Fast f replies ≡ fast → lead_of Slow f replies ≡ slow
        → fast_or fast (slow_or_none slow) ≡ Some chosen → Ways f replies chosen
    by None None a b h = absurd cc
    by None (Some lead) a b h =
        (let same : record { path = Slow; reply = lead } ≡ chosen = cc in
        inr (a, b ∙ ap (λ (c : Chosen). Some c.reply) same, sym (ap (λ (c : Chosen). c.path) same)))
    by (Some lead) slow a b h =
        (let same : record { path = Fast; reply = lead } ≡ chosen = cc in
        inl (a ∙ ap (λ (c : Chosen). Some c.reply) same, sym (ap (λ (c : Chosen). c.path) same)))

lead_is : (path : Path) (f : ℕ) (replies : List Reply) (lead : Reply) → lead_of path f replies ≡ Some lead → IsFirstOfLeastView path f replies lead
lead_is path f replies lead e =
    let first = first_is (has_quorum path f replies) replies lead e in
    record { before = first.before; rest_after = first.rest_after; noted = first.split; quorum = first.passes; least = first.least; first = first.first }

lead_has : (path : Path) (f : ℕ) (replies : List Reply) (lead : Reply) → lead_of path f replies ≡ Some lead → HasQuorum path f replies
lead_has path f replies lead e =
    let first = first_is (has_quorum path f replies) replies lead e in
    record {
      reply = lead;
      noted = subst (λ (xs : List Reply). Has xs lead) (sym first.split) (has_middle first.before lead first.rest_after);
      quorum = first.passes;
    }

no_lead : (path : Path) (f : ℕ) (replies : List Reply) → lead_of path f replies ≡ None → HasQuorum path f replies → ⊥
no_lead path f replies e h = none_passes (has_quorum path f replies) replies h.reply e h.noted h.quorum

-- ---- the laws

pub chosen_is_first : (f : ℕ) (replies : List Reply) (chosen : Chosen) → decision f replies ≡ Some chosen
    → IsFirstOfLeastView chosen.path f replies chosen.reply
chosen_is_first f replies chosen e =
    elim (decided_by f replies chosen e) [
      | inl fast ↦ subst (λ (p : Path). IsFirstOfLeastView p f replies chosen.reply) (sym fast.1) (lead_is Fast f replies chosen.reply fast.0)
      | inr slow ↦ subst (λ (p : Path). IsFirstOfLeastView p f replies chosen.reply) (sym slow.2) (lead_is Slow f replies chosen.reply slow.1)
    ]

-- the replies are decided on this path
abbrev IsDecided : Path → ℕ → List Reply → Type 0
IsDecided path f replies = (chosen : Chosen) × (decision f replies ≡ Some chosen) × (chosen.path ≡ path)

pub fast_has_quorum : (f : ℕ) (replies : List Reply) → IsDecided Fast f replies → HasQuorum Fast f replies
fast_has_quorum f replies d =
    elim (decided_by f replies d.0 d.1) [
      | inl fast ↦ lead_has Fast f replies d.0.reply fast.0
      | inr slow ↦ absurd (let e : Slow ≡ Fast = sym slow.2 ∙ d.2 in cc)
    ]

pub quorum_is_fast : (f : ℕ) (replies : List Reply) → HasQuorum Fast f replies → IsDecided Fast f replies
quorum_is_fast f replies h =
    let lead = some_first (has_quorum Fast f replies) replies h.reply (lead_of Fast f replies) refl h.noted h.quorum in
    (record { path = Fast; reply = lead.0 }, fast_decides f replies lead.0 lead.1, refl)

pub slow_has_quorum : (f : ℕ) (replies : List Reply) → IsDecided Slow f replies → (HasQuorum Fast f replies → ⊥) × HasQuorum Slow f replies
slow_has_quorum f replies d =
    elim (decided_by f replies d.0 d.1) [
      | inl fast ↦ absurd (let e : Fast ≡ Slow = sym fast.1 ∙ d.2 in cc)
      | inr slow ↦ (no_lead Fast f replies slow.0, lead_has Slow f replies d.0.reply slow.1)
    ]

pub quorum_is_slow : (f : ℕ) (replies : List Reply) → (HasQuorum Fast f replies → ⊥) → HasQuorum Slow f replies → IsDecided Slow f replies
quorum_is_slow f replies away h =
    let lead = some_first (has_quorum Slow f replies) replies h.reply (lead_of Slow f replies) refl h.noted h.quorum in
    let none = without (lead_of Fast f replies) refl in
    (record { path = Slow; reply = lead.0 }, slow_decides f replies (Some lead.0) none lead.1, refl)
  where
    without : (o : Option Reply) → lead_of Fast f replies ≡ o → lead_of Fast f replies ≡ None
    without None is = is
    without (Some x) is = absurd (away (lead_has Fast f replies x is))
