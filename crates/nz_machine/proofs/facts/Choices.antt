-- The reply that decides is one of the replies, of the leader of its view, and has a quorum among them.
use Rattle.std.proofs.Common.{◌≡◌, ℕ, Bool, true, false, cond, List, [], ◌∷◌, Option, Some, None, refl, sym, ap, subst, ◌∙◌, inl, inr, ◌⊎◌}
use Rattle.std.proofs.lemmas.Bool.{and_parts}
use Rattle.std.specs.Prelude.{nat_lt}
use Rattle.std.specs.List.{filter}
use Rattle.std.proofs.lemmas.Option.{none-some, same_Some}
use Rattle.nz_machine.specs.declared.reply.Reply.{Reply}
use Rattle.nz_machine.specs.rules.Quorums.{view_of, is_of_leader, has_slow_quorum, has_fast_quorum, of_lesser_view, first_of_least_view}
use Rattle.nz_machine.specs.rules.Quorums.{fast_lead, slow_lead, Chosen, slow_or_none, fast_or, decision}
use Rattle.nz_machine.specs.runs.World.{Has}

-- the replies and the one that decides have a slow quorum, or a fast one
pub data HasQuorum (f : ℕ) (replies : List Reply) (r : Reply) : Type 0 where
  BySlow : has_slow_quorum f replies r ≡ true → HasQuorum f replies r
  ByFast : has_fast_quorum f replies r ≡ true → HasQuorum f replies r

-- it is of a leader
pub quorum_leads : (f : ℕ) (replies : List Reply) (r : Reply) → HasQuorum f replies r → is_of_leader f r ≡ true
quorum_leads f replies r (BySlow enough) = (and_parts (is_of_leader f r) _ enough).0
quorum_leads f replies r (ByFast enough) = (and_parts (is_of_leader f r) _ enough).0

-- the reply is one of them, of a leader, and has a quorum
pub record IsChosen (f : ℕ) (replies : List Reply) (r : Reply) : Type 0 where
  pub among : Has replies r
  pub leads : is_of_leader f r ≡ true
  pub quorum : HasQuorum f replies r

-- one of a list, that passes a test
record Passes (p : Reply → Bool) (replies : List Reply) (r : Reply) : Type 0 where
  among : Has replies r
  passes : p r ≡ true

lesser_by : (x y : Reply) (b : Bool) (r : Reply) → cond b y x ≡ r → (x ≡ r) ⊎ (y ≡ r)
lesser_by x y true r e = inr e
lesser_by x y false r e = inl e

lesser_is : (x : Reply) (o : Option Reply) (r : Reply) → of_lesser_view x o ≡ r → (x ≡ r) ⊎ (o ≡ Some r)
lesser_is x None r e = inl e
lesser_is x (Some y) r e = elim (lesser_by x y (nat_lt (view_of y) (view_of x)) r e) [ inl a ↦ inl a | inr b ↦ inr (ap Some b) ]

least_among : (replies : List Reply) (r : Reply) → first_of_least_view replies ≡ Some r → Has replies r
least_among [] r e = absurd (none-some r e)
least_among (x ∷ replies) r e =
    elim (lesser_is x (first_of_least_view replies) r (same_Some (of_lesser_view x (first_of_least_view replies)) r e)) [
      | inl a ↦ inl a
      | inr b ↦ inr (least_among replies r b)
    ]

kept_by : (p : Reply → Bool) (x : Reply) (rest : List Reply) (r : Reply) (b : Bool) → p x ≡ b
    → Has (cond b (x ∷ rest) rest) r → ((x ≡ r) × (b ≡ true)) ⊎ Has rest r
kept_by p x rest r true e (inl h) = inl (h, refl)
kept_by p x rest r true e (inr h) = inr h
kept_by p x rest r false e h = inr h

filter_has : (p : Reply → Bool) (replies : List Reply) (r : Reply) → Has (filter p replies) r → Passes p replies r
filter_has p [] r h = absurd h
filter_has p (x ∷ replies) r h = elim (kept_by p x (filter p replies) r (p x) refl h) [
  | inl a ↦ record { among = inl a.0; passes = ap p (sym a.0) ∙ a.1 }
  | inr b ↦ let t = filter_has p replies r b in record { among = inr t.among; passes = t.passes }
]

least_of : (p : Reply → Bool) (replies : List Reply) (r : Reply) → first_of_least_view (filter p replies) ≡ Some r → Passes p replies r
least_of p replies r e = filter_has p replies r (least_among (filter p replies) r e)

fast_chosen : (f : ℕ) (replies : List Reply) (r : Reply) → fast_lead f replies ≡ Some r → IsChosen f replies r
fast_chosen f replies r e = let t = least_of (has_fast_quorum f replies) replies r e in
    record { among = t.among; leads = (and_parts (is_of_leader f r) _ t.passes).0; quorum = ByFast t.passes }

slow_chosen : (f : ℕ) (replies : List Reply) (r : Reply) → slow_lead f replies ≡ Some r → IsChosen f replies r
slow_chosen f replies r e = let t = least_of (has_slow_quorum f replies) replies r e in
    record { among = t.among; leads = (and_parts (is_of_leader f r) _ t.passes).0; quorum = BySlow t.passes }

same_chosen : (a b : Chosen) → Some a ≡ Some b → a.reply ≡ b.reply
same_chosen a b e = ap (λ (c : Chosen). c.reply) (same_Some a b e)

chosen_by : (f : ℕ) (replies : List Reply) (chosen : Chosen) (fast slow : Option Reply) → fast_lead f replies ≡ fast
    → slow_lead f replies ≡ slow → fast_or fast (slow_or_none slow) ≡ Some chosen → IsChosen f replies chosen.reply
chosen_by f replies chosen (Some r) slow p q e = subst (IsChosen f replies) (same_chosen _ chosen e) (fast_chosen f replies r p)
chosen_by f replies chosen None (Some r) p q e = subst (IsChosen f replies) (same_chosen _ chosen e) (slow_chosen f replies r q)
chosen_by f replies chosen None None p q e = absurd (none-some chosen e)

pub decision_is : (f : ℕ) (replies : List Reply) (chosen : Chosen) → decision f replies ≡ Some chosen → IsChosen f replies chosen.reply
unfolding decision
decision_is f replies chosen e = chosen_by f replies chosen (fast_lead f replies) (slow_lead f replies) refl refl e
