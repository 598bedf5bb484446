-- What a contract sees of a replica.
use Rattle.std.specs.Prelude.{◌≡◌, ◌<◌, ℕ, Bool, true, List, length, get_or}
use Rattle.nz_base.specs.declared.actor.Actor.TheVariants.{Replica}
use Rattle.nz_machine.specs.declared.event.Record.{Record}
use Rattle.nz_machine.specs.rules.Facts.{ReplicaModel}
use Rattle.nz_machine.specs.rules.State.{Group}
use Rattle.nz_machine.specs.runs.World.{state_after}

-- What a contract sees of a replica as a core: its cluster, its model, and whether no step has run out of memory.
pub record ReplicaCore : Type 0 where
  pub f : ℕ
  pub model : ReplicaModel
  pub live : Bool

-- The group's cluster is the replica's.
abbrev pub IsOf : Group → ReplicaModel → Type 0
IsOf g model = g.f ≡ model.f

-- The core is this replica after the records, and has not run out of memory.
pub record IsCore (g : Group) (J : List Record) (me : ℕ) (core : ReplicaCore) : Type 0 where
  pub live : core.live ≡ true
  pub cluster : g.f ≡ core.f
  pub number : core.model.me ≡ me
  pub state : core.model.state ≡ state_after g (Replica me) J

-- Each core of a list is the replica of its place after the records.
abbrev pub AreCores : Group → List Record → List ReplicaCore → Type 0
AreCores g J cores = (k : ℕ) (d : ReplicaCore) → k < length cores → IsCore g J k (get_or cores k d)
