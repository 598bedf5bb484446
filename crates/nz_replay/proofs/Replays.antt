-- A core that takes the records of its replica goes through the replica's states.
use Rattle.std.proofs.Common.{◌≡◌, ℕ, ◌+◌, true, false, List, [], ◌∷◌, take, reverse, Some, refl, sym, ap, ◌∙◌}
use Rattle.std.specs.Prelude.{slice_get}
use Rattle.std.proofs.lemmas.List.{reverse-append}
use Rattle.nz_base.specs.Actor.{actor_eq}
use Rattle.nz_base.specs.declared.actor.Actor.{Actor}
use Rattle.nz_base.specs.declared.actor.Actor.TheVariants.{Replica, Proxy, Client}
use Rattle.nz_machine.specs.declared.event.Parcel.{Parcel}
use Rattle.nz_machine.specs.declared.event.Record.{Record}
use Rattle.nz_machine.specs.rules.State.{ReplicaData, State, Group}
use Rattle.nz_machine.specs.rules.Replicas.{first_replica}
use Rattle.nz_machine.specs.rules.Step.{Node, node_step, node_run}
use Rattle.nz_machine.specs.runs.World.{state_after}
use Rattle.nz_machine.proofs.runs.Runs.{acts, stays}
use Rattle.nz_replica.specs.Models.{ReplicaCore, IsCore}
use Rattle.nz_machine.specs.declared.journal.Journal.{Journal}
use Rattle.nz_machine.proofs.lists.ListParts.{take_next}
use Rattle.nz_replay.specs.Runs.{run_up_to}

abbrev replica_number : Actor → ℕ
replica_number (Replica r) = r
replica_number (Proxy p) = 0
replica_number (Client c) = 0

abbrev replica_data : (a : Actor) → State a → ReplicaData
replica_data (Replica r) s = s
replica_data (Proxy p) s = first_replica 0
replica_data (Client c) s = first_replica 0

-- the first state
pub core_first : (g : Group) (m : ℕ) → IsCore g [] m (record { f = g.f; model = record { f = g.f; me = m; state = first_replica g.f }; live = true })
unfolding state_after
core_first g m = record { live = refl; cluster = refl; number = refl; state = refl }

-- a step of the core is one of the replica
pub core_steps : (g : Group) (m : ℕ) (r : Record) (J : List Record) (old new : ReplicaCore) (sends : List Parcel) → actor_eq r.actor (Replica m) ≡ true
    → node_run g (record { actor = Replica old.model.me; state = old.model.state }) r.event
    ≡ (record { actor = Replica new.model.me; state = new.model.state }, sends)
    → new.live ≡ true → g.f ≡ new.f → IsCore g J m old → IsCore g (r ∷ J) m new
core_steps g m r J old new sends by step live cluster h =
    let number : old.model.me ≡ new.model.me = ap (λ (t : Node × List Parcel). replica_number t.0.actor) step in
    let after : (node_step g (Replica old.model.me) old.model.state r.event).0 ≡ new.model.state =
    ap (λ (t : Node × List Parcel). replica_data t.0.actor t.0.state) step in
    record {
      live = live;
      cluster = cluster;
      number = sym number ∙ h.number;
      state =
          sym after ∙ ap (λ (k : ℕ). (node_step g (Replica k) old.model.state r.event).0) h.number
          ∙ ap (λ (s : ReplicaData). (node_step g (Replica m) s r.event).0) h.state ∙ sym (acts g (Replica m) r J by);
    }

-- a record of another leaves it
pub core_stays : (g : Group) (m : ℕ) (r : Record) (J : List Record) (core : ReplicaCore)
    → actor_eq r.actor (Replica m) ≡ false → IsCore g J m core → IsCore g (r ∷ J) m core
core_stays g m r J core other h = record { live = h.live; cluster = h.cluster; number = h.number; state = h.state ∙ sym (stays g (Replica m) r J other) }

pub run_then : (journal : Journal) (k : ℕ) (r : Record) → slice_get journal.records k ≡ Some r → run_up_to journal (k + 1) ≡ r ∷ run_up_to journal k
run_then journal k r at = ap reverse (take_next journal.records k r at) ∙ reverse-append (take k journal.records) (r ∷ [])
