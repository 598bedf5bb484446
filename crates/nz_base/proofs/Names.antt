-- The tests on actors, ids and keys say what they seem to say.
use Rattle.std.proofs.Common.{◌≡◌, true, false, refl, ap, subst, inl, inr, arith}
use Rattle.std.proofs.lemmas.Bool.{eqb-true, eq-eqb, cases_Bool}
use Rattle.nz_base.specs.declared.actor.Actor.{Actor}
use Rattle.nz_base.specs.declared.actor.Actor.TheVariants.{Replica, Proxy, Client}
use Rattle.nz_base.specs.declared.key.Id.{Id}
use Rattle.nz_base.specs.declared.key.Key.{Key}
use Rattle.nz_base.specs.Actor.{actor_eq}
use Rattle.nz_base.specs.Key.{id_eq, key_eq}
use Rattle.nz_base.proofs.Booleans.{true_and_false}

pub actor_eq_self : (a : Actor) → actor_eq a a ≡ true
actor_eq_self (Replica r) = eq-eqb r r refl
actor_eq_self (Proxy p) = eq-eqb p p refl
actor_eq_self (Client c) = eq-eqb c c refl

pub same_actor : (a b : Actor) → actor_eq a b ≡ true → a ≡ b
same_actor (Replica a) (Replica b) h = ap Replica (eqb-true a b h)
same_actor (Proxy a) (Proxy b) h = ap Proxy (eqb-true a b h)
same_actor (Client a) (Client b) h = ap Client (eqb-true a b h)
same_actor (Replica a) (Proxy b) h = absurd cc
same_actor (Replica a) (Client b) h = absurd cc
same_actor (Proxy a) (Replica b) h = absurd cc
same_actor (Proxy a) (Client b) h = absurd cc
same_actor (Client a) (Replica b) h = absurd cc
same_actor (Client a) (Proxy b) h = absurd cc

pub id_eq_self : (a : Id) → id_eq a a ≡ true
id_eq_self a = grind arith

pub same_id : (a b : Id) → id_eq a b ≡ true → a ≡ b
same_id a b h = grind arith

-- an id is found either way round
pub id_turn : (a b : Id) → id_eq a b ≡ true → id_eq b a ≡ true
id_turn a b h = subst (λ (i : Id). id_eq i a ≡ true) (same_id a b h) (id_eq_self a)

pub id_turn_away : (a b : Id) → id_eq a b ≡ false → id_eq b a ≡ false
id_turn_away a b h =
    elim (cases_Bool (id_eq b a)) [
      | inl same ↦ true_and_false (id_eq a b) (id_turn b a same) h
      | inr away ↦ away
    ]

pub key_eq_self : (a : Key) → key_eq a a ≡ true
key_eq_self a = grind arith

pub same_key : (a b : Key) → key_eq a b ≡ true → a ≡ b
same_key a b h = grind arith
