-- The replicas with which a run ends.
use Rattle.std.proofs.Common.{◌≡◌, ℕ, ◌+◌, ◌<◌, ◌≤◌, ◌⊎◌, inl, inr, List, [], ◌∷◌, ◌++◌, length, get_or, sym, ap, ◌∙◌, subst, arith, length-append}
use Rattle.std.proofs.lemmas.Bool.{cases_lt}
use Rattle.std.proofs.lemmas.List.{get_or_append_left, get_or_push}
use Rattle.nz_base.specs.Actor.{number_of}
use Rattle.nz_base.specs.declared.actor.Actor.{Actor}
use Rattle.nz_base.specs.declared.actor.Actor.TheVariants.{Replica, Proxy, Client}
use Rattle.nz_machine.specs.declared.event.Record.{Record}
use Rattle.nz_machine.specs.rules.Replicas.{first_replica}
use Rattle.nz_machine.specs.rules.State.{Group, ReplicaData, State}
use Rattle.nz_machine.specs.rules.Step.{Node}
use Rattle.nz_fabric.specs.threads.Records.{steps_of}
use Rattle.nz_machine.proofs.runs.OwnStates.{own_state}
use Rattle.nz_actor.specs.Actings.{IsThere}
use Rattle.nz_replica.specs.Models.{ReplicaCore, IsCore, AreCores}
use Rattle.nz_run.specs.Casts.{IsAt, AreAt, replica_node, ReplicaFits}

abbrev replica_data : (a : Actor) → State a → ReplicaData
replica_data (Replica r) s = s
replica_data (Proxy p) s = first_replica 0
replica_data (Client c) s = first_replica 0

is_core : (g : Group) (J : List Record) (me : ℕ) (core : ReplicaCore)
    → IsAt g J (Replica me) (replica_node core) core.live (ReplicaFits core g) → IsCore g J me core
is_core g J me core h = record {
  live = h.lives;
  cluster = h.is_of;
  number = ap (λ (n : Node). number_of n.actor) h.stands;
  state = ap (λ (n : Node). replica_data n.actor n.state) h.stands;
}

-- ---- on one thread

pub are_cores : (g : Group) (J : List Record) (cores : List ReplicaCore)
    → AreAt replica_node (λ (r : ReplicaCore). r.live) ReplicaFits g Replica J cores → AreCores g J cores
are_cores g J cores h k d lt = is_core g J k (get_or cores k d) (h k d lt)

-- ---- on several threads

-- a core that all of its actor's records led to its state
pub core_there : (g : Group) (J : List Record) (me : ℕ) (core : ReplicaCore) → core.model.me ≡ me → ReplicaFits core g
    → IsThere g (steps_of (Replica core.model.me) J) (replica_node core) core.live → IsCore g J me core
core_there g J me core same fits h =
    let a = Replica core.model.me in
    subst (λ (k : ℕ). IsCore g J k core) same
    (is_core g J core.model.me core (record {
      stands = h.stands ∙ ap (λ (s : ReplicaData). let n : Node = record { actor = a; state = s } in n) (own_state g a J);
      lives = h.lives;
      is_of = fits;
    }))

more_by : (g : Group) (J : List Record) (cores : List ReplicaCore) (core d : ReplicaCore) (k : ℕ) → AreCores g J cores
    → IsCore g J (length cores) core → k < length cores + 1 → (k < length cores) ⊎ (length cores ≤ k) → IsCore g J k (get_or (cores ++ core ∷ []) k d)
more_by g J cores core d k h last lt (inl below) =
    subst (IsCore g J k) (sym (get_or_append_left cores (core ∷ []) d k (omega (arith, below)))) (h k d below)
more_by g J cores core d k h last lt (inr le) =
    let same : length cores ≡ k = omega (arith, lt, le) in
    subst (IsCore g J k) (sym (get_or_push cores core d k same)) (subst (λ (n : ℕ). IsCore g J n core) same last)

-- one core more
pub cores_more : (g : Group) (J : List Record) (cores cores' : List ReplicaCore) (core : ReplicaCore) → AreCores g J cores
    → IsCore g J (length cores) core → cores' ≡ cores ++ core ∷ [] → AreCores g J cores'
cores_more g J cores cores' core h last e =
    subst (AreCores g J) (sym e)
    (λ k d lt. let long = length-append cores (core ∷ []) in more_by g J cores core d k h last (omega (arith, long, lt)) (cases_lt k (length cores)))
