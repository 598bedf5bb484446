-- The events of one actor in a tick: its clock, and then what arrives for it.
use Rattle.std.proofs.Common.{◌≡◌, ℕ, zero, suc, ◌<◌, ◌≤◌, Bool, false, cond, eqb, List, [], ◌∷◌, ◌++◌, map}
use Rattle.std.proofs.Common.{refl, sym, ap, subst, ◌∙◌, inl, inr, arith}
use Rattle.std.specs.List.{filter}
use Rattle.std.proofs.lemmas.Bool.{cond_both, cases_Bool, eqb-true}
use Rattle.std.proofs.lemmas.Bool.Decides.{nat_tests}
use Rattle.std.proofs.lemmas.List.{map-append}
use Rattle.nz_base.specs.Actor.{actor_eq}
use Rattle.nz_base.specs.Cluster.{replica_count}
use Rattle.nz_base.specs.declared.actor.Actor.{Actor}
use Rattle.nz_base.specs.declared.actor.Actor.TheVariants.{Replica, Proxy, Client}
use Rattle.nz_base.specs.declared.scenario.Scenario.{Scenario}
use Rattle.nz_machine.specs.declared.event.Event.{Event}
use Rattle.nz_machine.specs.declared.event.Event.TheVariants.{Deliver, Tick}
use Rattle.nz_machine.specs.declared.event.Parcel.{Parcel}
use Rattle.nz_machine.specs.declared.journal.Item.{Item}
use Rattle.nz_machine.specs.rules.Replicas.{numbers_below}
use Rattle.nz_machine.specs.runs.Schedule.{group_of, actors_of, tick_item, clock_at, IsPlayable}
use Rattle.nz_machine.specs.runs.World.{IsMember}
use Rattle.nz_quiet.specs.Folds.{delivery, events_for}
use Rattle.nz_quiet.proofs.Folds.{events_append}

-- ---- what arrives

arrivals_for : (a : Actor) (ps : List Parcel) → events_for a (map delivery ps) ≡ map Deliver (filter (λ (p : Parcel). actor_eq p.to a) ps)
arrivals_for a [] = refl
arrivals_for a (p ∷ ps) =
    let rest = arrivals_for a ps in
    cond_both (actor_eq p.to a) (p ∷ filter (λ (q : Parcel). actor_eq q.to a) ps) (filter (λ (q : Parcel). actor_eq q.to a) ps)
    (λ (qs : List Parcel). cond (actor_eq p.to a) (Deliver p ∷ events_for a (map delivery ps)) (events_for a (map delivery ps)) ≡ map Deliver qs)
    (λ t. ap (λ (b : Bool). cond b (Deliver p ∷ events_for a (map delivery ps)) (events_for a (map delivery ps))) t
    ∙ ap (λ (es : List Event). Deliver p ∷ es) rest)
    (λ f. ap (λ (b : Bool). cond b (Deliver p ∷ events_for a (map delivery ps)) (events_for a (map delivery ps))) f ∙ rest)

-- ---- clocks

module _ (s : Scenario) (t : ℕ) (a : Actor) where
  abbrev tick : List Event
  tick = Tick (clock_at s t a) ∷ []

  -- the clocks of the actors of one sort
  abbrev clocks : (ℕ → Actor) → ℕ → List Event
  clocks make n = events_for a (map (tick_item s t) (map make (numbers_below n)))

  map_more : (make : ℕ → Actor) (n : ℕ) → clocks make (suc n) ≡ clocks make n ++ events_for a (tick_item s t (make n) ∷ [])
  map_more make n =
      ap (λ (actors : List Actor). events_for a (map (tick_item s t) actors)) (map-append make (numbers_below n) (n ∷ []))
      ∙ ap (events_for a) (map-append (tick_item s t) (map make (numbers_below n)) (make n ∷ []))
      ∙ events_append a (map (tick_item s t) (map make (numbers_below n))) (tick_item s t (make n) ∷ [])

  other_sort : (make : ℕ → Actor) (n : ℕ) → ((k : ℕ) → actor_eq (make k) a ≡ false) → clocks make n ≡ []
  other_sort make zero other = refl
  other_sort make (suc n) other =
      map_more make n ∙ ap (λ (es : List Event). es ++ events_for a (tick_item s t (make n) ∷ [])) (other_sort make n other)
      ∙ ap (λ (b : Bool). cond b (Tick (clock_at s t (make n)) ∷ []) []) (other n)

  none_yet : (make : ℕ → Actor) (n r : ℕ) → n ≤ r → ((k : ℕ) → actor_eq (make k) a ≡ eqb k r) → clocks make n ≡ []
  none_yet make zero r le own = refl
  none_yet make (suc n) r le own =
      let not_now : eqb n r ≡ false = grind (arith, nat_tests, le) in
      map_more make n ∙ ap (λ (es : List Event). es ++ events_for a (tick_item s t (make n) ∷ [])) (none_yet make n r (omega (arith, le)) own)
      ∙ ap (λ (b : Bool). cond b (Tick (clock_at s t (make n)) ∷ []) []) (own n ∙ not_now)

  own_sort : (make : ℕ → Actor) (n r : ℕ) → r < n → a ≡ make r → ((k : ℕ) → actor_eq (make k) a ≡ eqb k r) → clocks make n ≡ tick
  own_sort make zero r lt is own = absurd (omega (arith, lt))
  own_sort make (suc n) r lt is own = elim (cases_Bool (eqb n r)) [
    | inl here ↦
        let same : n ≡ r = eqb-true n r here in
        map_more make n ∙ ap (λ (es : List Event). es ++ events_for a (tick_item s t (make n) ∷ [])) (none_yet make n r (omega (arith, same)) own)
        ∙ ap (λ (b : Bool). cond b (Tick (clock_at s t (make n)) ∷ []) []) (own n ∙ here)
        ∙ ap (λ (b : Actor). Tick (clock_at s t b) ∷ []) (ap make same ∙ sym is)
    | inr away ↦
        let below : r < n = grind (arith, nat_tests, lt, away) in
        map_more make n ∙ ap (λ (es : List Event). es ++ events_for a (tick_item s t (make n) ∷ [])) (own_sort make n r below is own)
        ∙ ap (λ (b : Bool). tick ++ cond b (Tick (clock_at s t (make n)) ∷ []) []) (own n ∙ away)
  ]

-- ---- the whole of a tick

module _ (s : Scenario) (t : ℕ) (a : Actor) (ps : List Parcel) where
  -- the clocks, by the sorts of actors
  by_sorts : events_for a (map (tick_item s t) (actors_of s))
      ≡ clocks s t a Replica (replica_count s.cluster) ++ (clocks s t a Proxy s.proxies ++ clocks s t a Client s.clients)
  by_sorts =
      let replicas = map Replica (numbers_below (replica_count s.cluster)) in
      let proxies = map Proxy (numbers_below s.proxies) in
      let clients = map Client (numbers_below s.clients) in
      ap (events_for a) (map-append (tick_item s t) replicas (proxies ++ clients))
      ∙ events_append a (map (tick_item s t) replicas) (map (tick_item s t) (proxies ++ clients))
      ∙ ap (λ (is : List Item). events_for a (map (tick_item s t) replicas) ++ events_for a is) (map-append (tick_item s t) proxies clients)
      ∙ ap (λ (es : List Event). events_for a (map (tick_item s t) replicas) ++ es)
      (events_append a (map (tick_item s t) proxies) (map (tick_item s t) clients))

  -- one clock, and then what arrives
  own_tick : clocks s t a Replica (replica_count s.cluster) ++ (clocks s t a Proxy s.proxies ++ clocks s t a Client s.clients)
      ≡ Tick (clock_at s t a) ∷ [] → events_for a (map (tick_item s t) (actors_of s) ++ map delivery ps)
      ≡ Tick (clock_at s t a) ∷ map Deliver (filter (λ (p : Parcel). actor_eq p.to a) ps)
  own_tick once =
      events_append a (map (tick_item s t) (actors_of s)) (map delivery ps)
      ∙ ap (λ (es : List Event). es ++ events_for a (map delivery ps)) (by_sorts ∙ once)
      ∙ ap (λ (es : List Event). Tick (clock_at s t a) ∷ es) (arrivals_for a ps)

-- the events of an actor in a tick: its clock, and then what arrives for it
pub own_events : (s : Scenario) (t : ℕ) (a : Actor) (ps : List Parcel) → IsPlayable s → IsMember (group_of s) a
    → events_for a (map (tick_item s t) (actors_of s) ++ map delivery ps)
    ≡ Tick (clock_at s t a) ∷ map Deliver (filter (λ (p : Parcel). actor_eq p.to a) ps)
own_events s t (Replica r) ps play member =
    let a = Replica r in
    own_tick s t a ps
    (ap (λ (es : List Event). es ++ (clocks s t a Proxy s.proxies ++ clocks s t a Client s.clients))
    (own_sort s t a Replica (replica_count s.cluster) r member refl (λ k. refl))
    ∙ ap (λ (es : List Event). Tick (clock_at s t a) ∷ (es ++ clocks s t a Client s.clients)) (other_sort s t a Proxy s.proxies (λ k. refl))
    ∙ ap (λ (es : List Event). Tick (clock_at s t a) ∷ es) (other_sort s t a Client s.clients (λ k. refl)))
own_events s t (Proxy p) ps play member =
    let a = Proxy p in
    own_tick s t a ps
    (ap (λ (es : List Event). es ++ (clocks s t a Proxy s.proxies ++ clocks s t a Client s.clients))
    (other_sort s t a Replica (replica_count s.cluster) (λ k. refl))
    ∙ ap (λ (es : List Event). es ++ clocks s t a Client s.clients) (own_sort s t a Proxy s.proxies p member refl (λ k. refl))
    ∙ ap (λ (es : List Event). Tick (clock_at s t a) ∷ es) (other_sort s t a Client s.clients (λ k. refl)))
own_events s t (Client c) ps play member =
    let a = Client c in
    own_tick s t a ps
    (ap (λ (es : List Event). es ++ (clocks s t a Proxy s.proxies ++ clocks s t a Client s.clients))
    (other_sort s t a Replica (replica_count s.cluster) (λ k. refl))
    ∙ ap (λ (es : List Event). es ++ clocks s t a Client s.clients) (other_sort s t a Proxy s.proxies (λ k. refl))
    ∙ own_sort s t a Client s.clients c (subst (λ (n : ℕ). c < n) play.scripts member) refl (λ k. refl))
