-- How a replica is followed through a run, and what a store has executed of what it knew.
use Rattle.std.specs.Prelude.{◌≡◌, ◌≤◌, ◌⊎◌, ℕ, List, [], length, take, Some}
use Rattle.std.specs.List.{AllByRecursion}
use Rattle.nz_base.specs.Moments.{At}
use Rattle.nz_base.specs.declared.key.Entry.{Entry}
use Rattle.nz_store.specs.Sequence.{store_after}
use Rattle.nz_machine.specs.declared.event.Record.{Record}
use Rattle.nz_machine.specs.declared.journal.Journal.{Journal}
use Rattle.nz_machine.specs.rules.State.{Group}
use Rattle.nz_machine.specs.journals.Journals.{run_in}
use Rattle.nz_machine.specs.rules.Replicas.{commands}
use Rattle.nz_machine.specs.runs.Incarnations.{replica_at}
use Rattle.nz_replay.specs.Runs.{run_up_to}
use Rattle.nz_laws_commit.specs.Stable.{committed_of}
use Rattle.nz_observe.specs.declared.known.Known.{Known}
use Rattle.nz_observe.specs.Ticks.{run_to}

-- ---- ticks

-- The records are of ticks up to this one.
abbrev pub AreUpTo : ℕ → List Record → Type 0
AreUpTo tick J = AllByRecursion (λ r. r.tick ≤ tick) J

-- The journal has so many records up to the end of the tick.
pub record IsEndOf (j : Journal) (tick count : ℕ) : Type 0 where
  pub within : count ≤ length j.records
  pub past : AreUpTo tick (run_up_to j count)
  pub run : run_up_to j count ≡ run_to tick (run_in j)

-- ---- what was executed

-- These entries.
abbrev pub executed : List Entry → Known
executed entries = record { store = store_after (commands entries); count = length entries }

-- The first of these entries, unless it is more than these.
abbrev pub HasExecuted : List Entry → Known → Type 0
HasExecuted entries k = k.count ≤ length entries → k.store ≡ store_after (commands (take k.count entries))

-- The replica knew these entries to be committed, at some moment.
pub record WasCommitted (g : Group) (m : ℕ) (K : List Record) (entries : List Entry) : Type 0 where
  pub moment : List Record
  pub at : At K moment
  pub committed : committed_of (replica_at g m moment) ≡ Some entries

-- Nothing was executed, or what the replica knew at some moment.
pub record IsKnown (g : Group) (m : ℕ) (K : List Record) (k : Known) : Type 0 where
  pub entries : List Entry
  pub is : k ≡ executed entries
  pub known : (entries ≡ []) ⊎ WasCommitted g m K entries
