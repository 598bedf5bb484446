-- What is sent in a tick is what the actors send on their own events.
use Rattle.std.proofs.Common.{◌≡◌, Bool, true, false, cond, List, [], ◌∷◌, ◌++◌, map, refl, sym, ap, subst, ◌∙◌, append_assoc, inl, inr}
use Rattle.std.specs.Prelude.{reverse}
use Rattle.std.specs.List.{AllByRecursion}
use Rattle.std.proofs.lemmas.Bool.{cases_Bool}
use Rattle.std.proofs.lemmas.List.{append-nil, map-append}
use Rattle.nz_base.specs.Actor.{actor_eq}
use Rattle.nz_base.specs.declared.actor.Actor.{Actor}
use Rattle.nz_base.proofs.Names.{actor_eq_self, same_actor}
use Rattle.nz_machine.specs.declared.event.Event.{Event}
use Rattle.nz_machine.specs.declared.event.Parcel.{Parcel}
use Rattle.nz_machine.specs.declared.event.Record.{Record}
use Rattle.nz_machine.specs.declared.journal.Item.{Item}
use Rattle.nz_machine.specs.rules.State.{State, Group, Out}
use Rattle.nz_machine.specs.rules.Step.{event_step, parcel}
use Rattle.nz_machine.specs.runs.World.{state_after, Has, World}
use Rattle.nz_machine.specs.runs.Schedule.{item_of}
use Rattle.nz_machine.specs.runs.Steps.{AreSteps}
use Rattle.nz_machine.proofs.runs.Runs.{FitsOut, sends_have}
use Rattle.nz_machine.proofs.lists.EachItem.{all_append}
use Rattle.nz_machine.proofs.runs.FitRuns.{Fitted, FittedState, fits_keep}
use Rattle.nz_quiet.specs.Folds.{events_for, events_in, state_from, outs_from, sent_by, flight_of, posted, outs_of}
use Rattle.nz_quiet.proofs.Folds.{after_now, events_append, items_of}

-- ---- what an actor sends of what is in flight

outs_join : (a : Actor) (xs ys : List (Actor × Out)) → outs_of a (xs ++ ys) ≡ outs_of a xs ++ outs_of a ys
outs_join a [] ys = refl
outs_join a (x ∷ xs) ys = elim (cases_Bool (actor_eq x.0 a)) [
  | inl own ↦ rw own (ap (λ (os : List Out). x.1 ∷ os) (outs_join a xs ys))
  | inr other ↦ rw other (outs_join a xs ys)
]

own_outs : (a : Actor) (os : List Out) → outs_of a (map (λ (o : Out). (a, o)) os) ≡ os
own_outs a [] = refl
own_outs a (o ∷ os) = let own = actor_eq_self a in rw own (ap (λ (ps : List Out). o ∷ ps) (own_outs a os))

no_outs : (a b : Actor) (os : List Out) → actor_eq b a ≡ false → outs_of a (map (λ (o : Out). (b, o)) os) ≡ []
no_outs a b [] other = refl
no_outs a b (o ∷ os) other = rw other (no_outs a b os other)

-- what an actor sends is in flight
pub out_flies : (a : Actor) (xs : List (Actor × Out)) (o : Out) → Has (outs_of a xs) o → Has xs (a, o)
out_flies a [] o h = absurd h
out_flies a (x ∷ xs) o h = elim (cases_Bool (actor_eq x.0 a)) [
  | inl own ↦
      elim (subst (λ (b : Bool). Has (cond b (x.1 ∷ outs_of a xs) (outs_of a xs)) o) own h) [
        | inl same ↦ inl (λ i. (same_actor x.0 a own i, same i))
        | inr later ↦ inr (out_flies a xs o later)
      ]
  | inr other ↦ inr (out_flies a xs o (subst (λ (b : Bool). Has (cond b (x.1 ∷ outs_of a xs) (outs_of a xs)) o) other h))
]

-- what is in flight its sender sends
pub flies_out : (a : Actor) (xs : List (Actor × Out)) (o : Out) → Has xs (a, o) → Has (outs_of a xs) o
flies_out a [] o h = absurd h
flies_out a (x ∷ xs) o (inl same) =
    let own : actor_eq x.0 a ≡ true = ap (λ (y : Actor × Out). actor_eq y.0 a) same ∙ actor_eq_self a in
    rw own (inl (ap (λ (y : Actor × Out). y.1) same))
flies_out a (x ∷ xs) o (inr h) = elim (cases_Bool (actor_eq x.0 a)) [
  | inl own ↦ rw own (inr (flies_out a xs o h))
  | inr other ↦ rw other (flies_out a xs o h)
]

-- ---- one record more

outs_append : (g : Group) (a : Actor) (s : State a) (xs ys : List Event)
    → outs_from g a s (xs ++ ys) ≡ outs_from g a s xs ++ outs_from g a (state_from g a s xs) ys
unfolding outs_from state_from
outs_append g a s [] ys = refl
outs_append g a s (e ∷ xs) ys =
    ap (λ (os : List Out). (event_step g a s e).1 ++ os) (outs_append g a (event_step g a s e).0 xs ys)
    ∙ sym (append_assoc (event_step g a s e).1 (outs_from g a (event_step g a s e).0 xs) (outs_from g a (state_from g a (event_step g a s e).0 xs) ys))

-- what an actor sends in the tick so far
abbrev sends_of : Group → Actor → List Record → List Record → List Out
sends_of g a now older = outs_from g a (state_after g a older) (events_in a now)

-- what it sends in one record more
abbrev sends_in : Group → Actor → Record → List Record → List Out
sends_in g a r J = outs_from g a (state_after g a J) (events_for a (item_of r ∷ []))

one_more : (g : Group) (a : Actor) (r : Record) (now older : List Record)
    → sends_of g a (r ∷ now) older ≡ sends_of g a now older ++ sends_in g a r (now ++ older)
one_more g a r now older =
    let s = state_after g a older in
    let es = events_for a (map item_of (reverse now)) in
    ap (λ (is : List Item). outs_from g a s (events_for a is)) (items_of r now)
    ∙ ap (outs_from g a s) (events_append a (map item_of (reverse now)) (item_of r ∷ []))
    ∙ outs_append g a s es (events_for a (item_of r ∷ []))
    ∙ ap (λ (t : State a). outs_from g a s es ++ outs_from g a t (events_for a (item_of r ∷ []))) (sym (after_now g a now older))

-- the messages of a record
abbrev pub outs_in : Group → Record → List Record → List Out
outs_in g r J = (event_step g r.actor (state_after g r.actor J) r.event).1

-- what the actor of a record sends in it
own_now : (g : Group) (r : Record) (J : List Record) → sends_in g r.actor r J ≡ outs_in g r J
unfolding outs_from
own_now g r J =
    ap (λ (b : Bool). outs_from g r.actor (state_after g r.actor J) (cond b (r.event ∷ []) [])) (actor_eq_self r.actor)
    ∙ append-nil (outs_in g r J)

same_outs : (g : Group) (a : Actor) (r : Record) (J : List Record) → outs_of a (map (λ (o : Out). (r.actor, o)) (outs_in g r J)) ≡ sends_in g a r J
unfolding outs_from
same_outs g a r J = elim (cases_Bool (actor_eq r.actor a)) [
  | inl own ↦
      subst (λ (b : Actor). outs_of b (map (λ (o : Out). (r.actor, o)) (outs_in g r J)) ≡ sends_in g b r J) (same_actor r.actor a own)
      (own_outs r.actor (outs_in g r J) ∙ sym (own_now g r J))
  | inr other ↦
      no_outs a r.actor (outs_in g r J) other
      ∙ sym (ap (λ (b : Bool). outs_from g a (state_after g a J) (cond b (r.event ∷ []) [])) other)
]

pub outs_are : (g : Group) (a : Actor) (now older : List Record) → outs_of a (flight_of g now older) ≡ outs_from g a (state_after g a older) (events_in a now)
unfolding outs_from
outs_are g a [] older = refl
outs_are g a (r ∷ now) older =
    let J = now ++ older in
    outs_join a (flight_of g now older) (map (λ (o : Out). (r.actor, o)) (outs_in g r J))
    ∙ ap (λ (os : List Out). os ++ outs_of a (map (λ (o : Out). (r.actor, o)) (outs_in g r J))) (outs_are g a now older)
    ∙ ap (λ (os : List Out). sends_of g a now older ++ os) (same_outs g a r J)
    ∙ sym (one_more g a r now older)

-- ---- parcels

posted_outs : (a : Actor) (os : List Out) → map posted (map (λ (o : Out). (a, o)) os) ≡ map (parcel a) os
posted_outs a [] = refl
posted_outs a (o ∷ os) = ap (λ (ps : List Parcel). parcel a o ∷ ps) (posted_outs a os)

pub parcels_are : (g : Group) (now older : List Record) → AreSteps g (now ++ older) → sent_by now ≡ map posted (flight_of g now older)
parcels_are g [] older steps = refl
parcels_are g (r ∷ now) older steps =
    let outs = outs_in g r (now ++ older) in
    ap (λ (ps : List Parcel). ps ++ r.sends) (parcels_are g now older steps.1)
    ∙ ap (λ (ps : List Parcel). map posted (flight_of g now older) ++ ps) (steps.0 ∙ sym (posted_outs r.actor outs))
    ∙ sym (map-append posted (flight_of g now older) (map (λ (o : Out). (r.actor, o)) outs))

all_posted : (a : Actor) (os : List Out) → AllByRecursion (FitsOut a) os
    → AllByRecursion (λ (x : Actor × Out). FitsOut x.0 x.1) (map (λ (o : Out). (a, o)) os)
all_posted a [] all = tt
all_posted a (o ∷ os) all = (all.0, all_posted a os all.1)

-- each message in flight fits a frame
pub flight_fits : (g : Group) (now older : List Record) → World g (now ++ older)
    → AllByRecursion (λ (x : Actor × Out). FitsOut x.0 x.1) (flight_of g now older)
flight_fits g [] older w = tt
flight_fits g (r ∷ now) older w =
    all_append (λ (x : Actor × Out). FitsOut x.0 x.1) (flight_of g now older) (map (λ (o : Out). (r.actor, o)) (outs_in g r (now ++ older)))
    (flight_fits g now older w.1)
    (all_posted r.actor (outs_in g r (now ++ older)) (sends_have g (Fitted g) (FittedState g) (fits_keep g) (now ++ older) r w))
