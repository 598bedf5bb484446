-- What contracts see of an actor's state, and what it keeps.
use Rattle.std.specs.Prelude.{◌≡◌, ℕ, Bool, true, false, List}
use Rattle.nz_machine.specs.declared.event.Parcel.{Parcel}
use Rattle.nz_machine.specs.rules.State.{Group}
use Rattle.nz_machine.specs.rules.Step.{Node}
use Rattle.nz_fabric.specs.declared.threads.batch.Batch.{Batch}
use Rattle.nz_fabric.specs.threads.Records.{ActorSteps, with_step}
use Rattle.nz_fabric.specs.threads.Shared.{Shared, next_item, next_record}
use Rattle.nz_fabric.specs.threads.Steps.{batch_records, node_after, sends_after, sends_from, with_steps}

-- An actor with its records, and whether it takes batches.
pub record Acting : Type 0 where
  pub own : ActorSteps
  pub ready : Bool

-- The core is live, and has the state that the records lead the actor to.
pub record IsThere (g : Group) (own : ActorSteps) (meaning : Node) (live : Bool) : Type 0 where
  pub lives : live ≡ true
  pub stands : meaning ≡ node_after g own

-- The core is of the group, and is there while the actor takes batches.
pub record IsActing (g : Group) (meaning : Node) (live : Bool) (fits : Type 0) (acting : Acting) : Type 0 where
  pub is_of : fits
  pub there : acting.ready ≡ true → IsThere g acting.own meaning live

-- What the actor sends on the events of a batch after its records.
abbrev pub sends_in : Group → ActorSteps → Batch → List (List Parcel)
sends_in g own batch = sends_from g (node_after g own) batch.events

-- The actor after a batch in this tick, which was recorded with what the machine says.
abbrev pub with_batch : Group → ℕ → Batch → Acting → Acting
with_batch g tick batch s = record {
  own = with_steps (batch_records tick batch.actor batch.events (sends_in g s.own batch)) s.own;
  ready = true;
}

-- The actor after the next item of a network, which was recorded with what the machine says.
abbrev pub with_item : Group → Shared → Acting → Acting
with_item g f s = record { own = with_step (next_record (sends_after g s.own (next_item f).event) f) s.own; ready = true }

-- After a batch that was given up the actor takes no further one. It may have some of the batch's records.
pub record IsStopped (old new : Acting) : Type 0 where
  pub stopped : new.ready ≡ false
  pub actor : new.own.actor ≡ old.own.actor
