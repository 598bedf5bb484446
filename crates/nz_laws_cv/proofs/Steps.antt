-- What a record does to a replica: it acts, by one outcome of a rule, or rests.
use Rattle.std.proofs.Common.{◌≡◌, ℕ, Bool, true, false, List, [], ◌∷◌, refl, sym, ap, subst, inl, inr}
use Rattle.nz_base.specs.declared.actor.Actor.TheVariants.{Replica}
use Rattle.nz_base.specs.Actor.{actor_eq}
use Rattle.nz_base.proofs.Names.{same_actor}
use Rattle.nz_machine.specs.declared.event.Parcel.{Parcel}
use Rattle.nz_machine.specs.declared.event.Record.{Record}
use Rattle.nz_machine.specs.rules.State.{ReplicaData, Group, State}
use Rattle.nz_machine.specs.runs.World.{sent_in, Has}
use Rattle.nz_base.specs.Moments.{At}
use Rattle.nz_machine.specs.runs.Incarnations.{replica_at}
use Rattle.nz_machine.proofs.runs.Runs.{acts, stays, has_right}
use Rattle.nz_laws_cv.proofs.Outcomes.{law_state, Outcome}
use Rattle.nz_laws_cv.proofs.OutcomeRules.{heard_by, event_outcome}

-- what was sent up to a moment was sent
pub sent_later : (p : Parcel) (J K : List Record) → At J K → Has (sent_in K) p → Has (sent_in J) p
sent_later p [] K at h = subst (λ (x : List Record). Has (sent_in x) p) at h
sent_later p (r ∷ J) K (inl same) h = subst (λ (x : List Record). Has (sent_in x) p) same h
sent_later p (r ∷ J) K (inr older) h = has_right r.sends (sent_in J) p (sent_later p J K older h)

-- ---- what the laws read

abbrev pub law_state_at : Group → ℕ → List Record → ReplicaData
law_state_at g m K = law_state (replica_at g m K)

-- a record is of the replica, whose rule has an outcome, or leaves its state
pub data Steps (g : Group) (m : ℕ) (r : Record) (J : List Record) : Type 0 where
  Acts : r.actor ≡ Replica m → Outcome g.f m r.event (heard_by g m r.event) (law_state_at g m J) (law_state_at g m (r ∷ J)) → Steps g m r J
  Rests : actor_eq r.actor (Replica m) ≡ false → law_state_at g m (r ∷ J) ≡ law_state_at g m J → Steps g m r J

steps_by : (g : Group) (m : ℕ) (r : Record) (J : List Record) (b : Bool) → actor_eq r.actor (Replica m) ≡ b → Steps g m r J
steps_by g m r J true e =
    Acts (same_actor r.actor (Replica m) e)
    (subst (λ (s : State (Replica m)). Outcome g.f m r.event (heard_by g m r.event) (law_state_at g m J) (law_state s)) (sym (acts g (Replica m) r J e))
    (event_outcome g m (replica_at g m J) r.event))
steps_by g m r J false e = Rests e (ap law_state (stays g (Replica m) r J e))

-- each record is an outcome of the replica, or leaves it
pub steps : (g : Group) (m : ℕ) (r : Record) (J : List Record) → Steps g m r J
steps g m r J = steps_by g m r J (actor_eq r.actor (Replica m)) refl
