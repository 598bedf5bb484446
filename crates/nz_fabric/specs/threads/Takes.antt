-- The takes of a run, and its open batches as contracts see them.
use Rattle.std.specs.Prelude.{◌≡◌, ℕ, ◌+◌, ◌-◌, List, [], ◌∷◌, ◌++◌, Some, slice_get, get_or}
use Rattle.std.specs.List.{AllByRecursion}
use Rattle.nz_base.specs.declared.actor.Actor.{Actor}
use Rattle.nz_base.specs.declared.actor.Actor.TheVariants.{Replica}
use Rattle.nz_machine.specs.declared.event.Event.{Event}
use Rattle.nz_fabric.specs.declared.threads.batch.Batch.{Batch}

-- The batches that are open, which were taken, and neither recorded nor given up; and how many were taken in all.
pub record Batches : Type 0 where
  pub running : List Batch
  pub taken : ℕ

-- These open batches, with this many taken.
abbrev pub batches_with : List Batch → ℕ → Batches
batches_with running taken = record { running = running; taken = taken }

-- A batch of this number, actor and events.
abbrev pub batch_of : ℕ → Actor → List Event → Batch
batch_of number actor events = record { number = number; actor = actor; events = events }

-- What is read where no batch is open.
abbrev pub no_batch : Batch
no_batch = batch_of 0 (Replica 0) []

-- The open batch of a number is the take of that number. The first take has the number 1.
abbrev pub batch_in : List Batch → ℕ → Batch
batch_in takes number = record (get_or takes (number - 1) no_batch) { number = number }

-- One more was taken, and is open.
abbrev pub with_one : Batch → Batches → Batches
with_one b t = batches_with (t.running ++ b ∷ []) (t.taken + 1)

-- The batch is the take of its number.
abbrev pub IsTake : List Batch → Batch → Type 0
IsTake takes b = slice_get takes (b.number - 1) ≡ Some b

-- Each open batch is the take of its number.
abbrev pub AreTakes : List Batch → List Batch → Type 0
AreTakes takes running = AllByRecursion (IsTake takes) running
