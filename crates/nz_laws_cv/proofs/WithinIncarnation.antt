-- Incarnations: what a record does to a replica, and what holds between two moments of one incarnation.
use Rattle.std.proofs.Common.{◌≡◌, ℕ, suc, ◌≤◌, ◌<◌, Bool, true, false, cond, ◌&&◌, List, [], ◌∷◌, refl, sym, ap, subst, ◌∙◌, inl, inr, arith}
use Rattle.std.proofs.lemmas.Bool.{and_parts, and_from}
use Rattle.nz_base.specs.Actor.{actor_eq}
use Rattle.nz_base.specs.Cluster.{replica_count}
use Rattle.nz_base.specs.declared.actor.Actor.{Actor}
use Rattle.nz_base.specs.declared.actor.Actor.TheVariants.{Replica}
use Rattle.nz_base.proofs.Booleans.{true_and_false}
use Rattle.nz_base.proofs.Names.{actor_eq_self, same_actor}
use Rattle.nz_machine.specs.declared.event.Event.{Event}
use Rattle.nz_machine.specs.declared.event.Event.TheVariants.{Deliver, Cut, Tick, Alarm, Crash, Restart}
use Rattle.nz_machine.specs.declared.event.Record.{Record}
use Rattle.nz_machine.specs.rules.State.{Group, ReplicaData}
use Rattle.nz_machine.specs.rules.Replicas.{first_replica, is_up, is_down, crashed_replica}
use Rattle.nz_machine.specs.rules.Rejoining.{restarted_replica, restart_rule}
use Rattle.nz_machine.specs.rules.Step.{event_step}
use Rattle.nz_machine.specs.runs.World.{state_after, Has, World, IsMember, MayHappen, Restarts}
use Rattle.nz_machine.specs.runs.Incarnations.{replica_at, is_restart, comes_back, incarnation}
use Rattle.nz_base.specs.Moments.{At}
use Rattle.nz_laws_cv.proofs.Outcomes.{law_state}
use Rattle.nz_laws_cv.proofs.OutcomeRules.{heard_by}
use Rattle.nz_laws_cv.proofs.Hearing.{hears_fit}
use Rattle.nz_machine.proofs.runs.Runs.{acts, all_has}
use Rattle.nz_laws_cv.proofs.Steps.{law_state_at, Acts, Rests, steps}
use Rattle.nz_machine.proofs.runs.Moments.{at_world}
use Rattle.nz_laws_cv.proofs.Modes.{IsSound, first_sound, sound_kept, Goes, goes_same, goes_then, RejoinsNormal}
use Rattle.nz_laws_cv.proofs.Modes.{Course, Falls, Wakes, GoesOn, course, up_no_rejoin}

-- ---- states

pub sound_at : (g : Group) (J : List Record) → World g J → (m : ℕ) → IsSound g.f (law_state_at g m J)
unfolding state_after
sound_at g [] w m = first_sound g.f
sound_at g (r ∷ J) w m = elim (steps g m r J) [
  | Acts a outcome ↦
      sound_kept g.f m r.event (heard_by g m r.event) (hears_fit g m r.event) (law_state_at g m J) (law_state_at g m (r ∷ J)) outcome (sound_at g J w.1 m)
  | Rests e same ↦ subst (IsSound g.f) (sym same) (sound_at g J w.1 m)
]

pub in_group : (g : Group) (m : ℕ) (a : Actor) → a ≡ Replica m → IsMember g a → m < replica_count g.f
in_group g m a e h = subst (IsMember g) e h

-- ---- incarnations

pub inc_back : (g : Group) (m : ℕ) (r : Record) (J : List Record) → comes_back g m r J ≡ true → incarnation g m (r ∷ J) ≡ suc (incarnation g m J)
unfolding incarnation
inc_back g m r J e = ap (λ (b : Bool). cond b (suc (incarnation g m J)) (incarnation g m J)) e

pub inc_same : (g : Group) (m : ℕ) (r : Record) (J : List Record) → comes_back g m r J ≡ false → incarnation g m (r ∷ J) ≡ incarnation g m J
unfolding incarnation
inc_same g m r J e = ap (λ (b : Bool). cond b (suc (incarnation g m J)) (incarnation g m J)) e

pub inc_first : (g : Group) (m : ℕ) → incarnation g m [] ≡ 0
unfolding incarnation
inc_first g m = refl

pub first_state : (g : Group) (m : ℕ) → law_state_at g m [] ≡ law_state (first_replica g.f)
unfolding state_after
first_state g m = refl

-- what a record does to a replica
pub data Passing (g : Group) (m : ℕ) (r : Record) (J : List Record) : Type 0 where
  Woken : (nonce : ℕ) → r.actor ≡ Replica m → r.event ≡ Restart nonce → is_down (replica_at g m J).status ≡ true
      → law_state_at g m (r ∷ J) ≡ law_state (restarted_replica g.f nonce) → incarnation g m (r ∷ J) ≡ suc (incarnation g m J) → Passing g m r J
  Fallen : law_state_at g m (r ∷ J) ≡ law_state (crashed_replica g.f) → incarnation g m (r ∷ J) ≡ incarnation g m J → Passing g m r J
  Gone : incarnation g m (r ∷ J) ≡ incarnation g m J → Goes m (law_state_at g m J) (law_state_at g m (r ∷ J))
      → RejoinsNormal (law_state_at g m J) (law_state_at g m (r ∷ J))
      → Passing g m r J

restart_of : (e : Event) → is_restart e ≡ true → (nonce : ℕ) × (e ≡ Restart nonce)
restart_of (Restart nonce) h = (nonce, refl)
restart_of (Deliver p) h = absurd cc
restart_of (Cut kept p) h = absurd cc
restart_of (Tick clock) h = absurd cc
restart_of Alarm h = absurd cc
restart_of Crash h = absurd cc

woken_state : (f m nonce : ℕ) (s : ReplicaData) → is_down s.status ≡ true → (restart_rule f m s nonce).0 ≡ restarted_replica f nonce
unfolding restart_rule
woken_state f m nonce s h = grind (arith, h)

is_back : (g : Group) (m : ℕ) (r : Record) (J : List Record) (nonce : ℕ) → r.actor ≡ Replica m → r.event ≡ Restart nonce
    → is_down (replica_at g m J).status ≡ true → comes_back g m r J ≡ true
is_back g m r J nonce a e down =
    and_from (actor_eq r.actor (Replica m)) (is_restart r.event && is_down (replica_at g m J).status)
    (ap (λ (x : Actor). actor_eq x (Replica m)) a ∙ actor_eq_self (Replica m))
    (and_from (is_restart r.event) (is_down (replica_at g m J).status) (ap is_restart e) down)

goes_on : (g : Group) (m : ℕ) (r : Record) (J : List Record) → r.actor ≡ Replica m → comes_back g m r J ≡ false
    → Course g.f m r.event (law_state_at g m J) (law_state_at g m (r ∷ J)) → Passing g m r J
goes_on g m r J a b (Falls is) = Fallen is (inc_same g m r J b)
goes_on g m r J a b (Wakes nonce e down) = true_and_false (comes_back g m r J) (is_back g m r J nonce a e down) b
goes_on g m r J a b (GoesOn goes normal) = Gone (inc_same g m r J b) goes normal

passing_by : (g : Group) (m : ℕ) (r : Record) (J : List Record) → World g (r ∷ J) → (b : Bool) → comes_back g m r J ≡ b → Passing g m r J
passing_by g m r J w true b =
    let rest = (and_parts (actor_eq r.actor (Replica m)) (is_restart r.event && is_down (replica_at g m J).status) b).1 in
    let mine = (and_parts (actor_eq r.actor (Replica m)) (is_restart r.event && is_down (replica_at g m J).status) b).0 in
    let restart = restart_of r.event (and_parts (is_restart r.event) (is_down (replica_at g m J).status) rest).0 in
    let down = (and_parts (is_restart r.event) (is_down (replica_at g m J).status) rest).1 in
    let state : replica_at g m (r ∷ J) ≡ restarted_replica g.f restart.0 =
    acts g (Replica m) r J mine ∙ ap (λ (e : Event). (event_step g (Replica m) (replica_at g m J) e).0) restart.1
    ∙ woken_state g.f m restart.0 (replica_at g m J) down in
    Woken restart.0 (same_actor r.actor (Replica m) mine) restart.1 down (ap law_state state) (inc_back g m r J b)
passing_by g m r J w false b = elim (steps g m r J) [
  | Acts a outcome ↦ goes_on g m r J a b
      (course g.f m r.event (heard_by g m r.event) (hears_fit g m r.event) (law_state_at g m J) (law_state_at g m (r ∷ J)) (in_group g m r.actor a w.0.member)
      (sound_at g J w.1 m) outcome)
  | Rests e same ↦ Gone (inc_same g m r J b) (goes_same m (law_state_at g m J) (law_state_at g m (r ∷ J)) same)
      (λ x y. up_no_rejoin (replica_at g m J).status (sym (ap (λ (s : ReplicaData). is_up s.status) same) ∙ y) x)
]

-- each record wakes the replica, fells it, or goes on within its incarnation
pub passing : (g : Group) (m : ℕ) (r : Record) (J : List Record) → World g (r ∷ J) → Passing g m r J
passing g m r J w = passing_by g m r J w (comes_back g m r J) refl

-- ---- pairs of moments

pub inc_step : (g : Group) (m : ℕ) (r : Record) (J : List Record) → World g (r ∷ J) → incarnation g m J ≤ incarnation g m (r ∷ J)
inc_step g m r J w = elim (passing g m r J w) [
  | Woken nonce a e down is inc ↦ omega (arith, inc)
  | Fallen is inc ↦ omega (arith, inc)
  | Gone inc goes normal ↦ omega (arith, inc)
]

pub inc_grows : (g : Group) (m : ℕ) (L K : List Record) → World g L → At L K → incarnation g m K ≤ incarnation g m L
inc_grows g m [] K w at = let e = ap (incarnation g m) at in omega (arith, e)
inc_grows g m (r ∷ L) K w (inl same) = let e = ap (incarnation g m) same in omega (arith, e)
inc_grows g m (r ∷ L) K w (inr older) = let rest = inc_grows g m L K w.1 older in let more = inc_step g m r L w in omega (arith, rest, more)

abbrev pub down_at : Group → ℕ → List Record → Bool
down_at g m K = is_down (replica_at g m K).status

pub crashed_down : {X : Type 0} (g : Group) (m : ℕ) (K : List Record) → law_state_at g m K ≡ law_state (crashed_replica g.f) → down_at g m K ≡ false → X
crashed_down g m K is up = true_and_false (down_at g m K) (ap (λ (s : ReplicaData). is_down s.status) is) up

-- from a moment to a later one of the same incarnation, where it is not down
pub goes_far : (g : Group) (m : ℕ) (L K : List Record) → World g L → At L K → incarnation g m K ≡ incarnation g m L → down_at g m L ≡ false
    → Goes m (law_state_at g m K) (law_state_at g m L)
goes_far g m [] K w at same up = goes_same m (law_state_at g m K) (law_state_at g m []) (ap (law_state_at g m) (sym at))
goes_far g m (r ∷ L) K w (inl is) same up = goes_same m (law_state_at g m K) (law_state_at g m (r ∷ L)) (ap (law_state_at g m) (sym is))
goes_far g m (r ∷ L) K w (inr older) same up =
    let rest = inc_grows g m L K w.1 older in
    elim (passing g m r L w) [
      | Woken nonce a e down is inc ↦ absurd (omega (arith, inc, rest, same))
      | Fallen is inc ↦ crashed_down g m (r ∷ L) is up
      | Gone inc goes normal ↦
          goes_then m (law_state_at g m K) (law_state_at g m L) (law_state_at g m (r ∷ L))
          (goes_far g m L K w.1 older (same ∙ inc) (sym goes.down ∙ up)) goes
    ]

-- ---- nonces

abbrev pub nonce_at : Group → ℕ → List Record → ℕ
nonce_at g m K = (replica_at g m K).rejoin.nonce

-- the restart that gave the nonce
pub record IsBorn (g : Group) (m : ℕ) (K : List Record) : Type 0 where
  pub restart : Record
  pub has : Has K restart
  pub restarts : Restarts (Replica m) (nonce_at g m K) restart

-- a later incarnation has a restart that gave its nonce
pub born : (g : Group) (m : ℕ) (K : List Record) → World g K → down_at g m K ≡ false → 0 < incarnation g m K → IsBorn g m K
born g m [] w up some = absurd (let none = inc_first g m in omega (arith, none, some))
born g m (r ∷ K) w up some = elim (passing g m r K w) [
  | Woken nonce a e down is inc ↦ record { restart = r; has = inl refl; restarts = (a, e ∙ ap Restart (sym (ap (λ (s : ReplicaData). s.rejoin.nonce) is))) }
  | Fallen is inc ↦ crashed_down g m (r ∷ K) is up
  | Gone inc goes normal ↦
      let b = born g m K w.1 (sym goes.down ∙ up) (omega (arith, inc, some)) in
      record { restart = b.restart; has = inr b.has; restarts = (b.restarts.0, b.restarts.1 ∙ ap Restart (sym goes.nonce)) }
]

has_at : (J K : List Record) (r : Record) → At J K → Has K r → Has J r
has_at [] K r at h = subst (λ (x : List Record). Has x r) at h
has_at (s ∷ J) K r (inl same) h = subst (λ (x : List Record). Has x r) same h
has_at (s ∷ J) K r (inr older) h = inr (has_at J K r older h)

-- no nonce comes twice
fresh_nonce : {X : Type 0} (g : Group) (m nonce : ℕ) (r : Record) (J : List Record) → World g (r ∷ J) → r.actor ≡ Replica m → r.event ≡ Restart nonce
    → (old : Record) → Has J old → Restarts (Replica m) nonce old → X
fresh_nonce g m nonce r J w a e old has restarts =
    let may : MayHappen J r.actor (Restart nonce) = subst (λ (x : Event). MayHappen J r.actor x) e w.0.event in
    absurd (all_has (λ (x : Record). ¬ Restarts r.actor nonce x) J old may.1 has (restarts.0 ∙ sym a, restarts.1))

-- equal nonces, equal incarnations
pub same_nonce : (g : Group) (m : ℕ) (K Q : List Record) → World g K → At K Q → down_at g m K ≡ false → down_at g m Q ≡ false → 0 < incarnation g m K
    → 0 < incarnation g m Q
    → nonce_at g m Q ≡ nonce_at g m K → incarnation g m Q ≡ incarnation g m K
same_nonce g m [] Q w at up_k up_q some_k some_q same = ap (incarnation g m) at
same_nonce g m (r ∷ K) Q w (inl is) up_k up_q some_k some_q same = ap (incarnation g m) is
same_nonce g m (r ∷ K) Q w (inr older) up_k up_q some_k some_q same = elim (passing g m r K w) [
  | Woken nonce a e down is inc ↦
      let b = born g m Q (at_world g K Q w.1 older) up_q some_q in
      let is_nonce : nonce_at g m Q ≡ nonce = same ∙ ap (λ (s : ReplicaData). s.rejoin.nonce) is in
      fresh_nonce g m nonce r K w a e b.restart (has_at K Q b.restart older b.has) (b.restarts.0, b.restarts.1 ∙ ap Restart is_nonce)
  | Fallen is inc ↦ crashed_down g m (r ∷ K) is up_k
  | Gone inc goes normal ↦ same_nonce g m K Q w.1 older (sym goes.down ∙ up_k) up_q (omega (arith, inc, some_k)) some_q (same ∙ goes.nonce) ∙ sym inc
]
