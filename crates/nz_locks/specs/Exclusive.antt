-- Locks exclude: nobody holds a lock that somebody else holds, and who takes a lock takes it after it was given back.
use Rattle.std.specs.Prelude.{◌≡◌, ℕ, ◌<◌, ◌^◌, ◌↔◌, true, List, take, Some, slice_get}
use Rattle.nz_base.specs.Key.{id_of}
use Rattle.nz_base.specs.declared.key.Id.{Id}
use Rattle.nz_base.specs.declared.key.Entry.{Entry}
use Rattle.nz_store.specs.declared.command.Answer.TheVariants.{Done}
use Rattle.nz_store.specs.Entries.{value_of}
use Rattle.nz_store.specs.Sequence.{store_after}
use Rattle.nz_log.specs.Places.{place_of}
use Rattle.nz_msg.specs.declared.message.Path.{Path}
use Rattle.nz_machine.specs.declared.journal.Executed.{Executed}
use Rattle.nz_machine.specs.declared.client_event.ClientEvent.{ClientEvent}
use Rattle.nz_machine.specs.declared.client_event.ClientEvent.TheVariants.{Sent, Accepted}
use Rattle.nz_machine.specs.journals.Journals.{executed_entries}
use Rattle.nz_machine.specs.runs.OneHistory.{Precedes, IsAnswered}
use Rattle.nz_machine.specs.rules.Replicas.{commands}
use Rattle.nz_machine.specs.runs.World.{Has}
use Rattle.nz_locks.specs.Uses.{Acquire, lock_key, holder_value, use_of}
use Rattle.nz_locks.specs.Tenures.{holds, releases}

-- The client holds the lock of the name after the first `place` entries of the list.
abbrev pub HoldsAt : List Entry → ℕ → ℕ → List ℕ → Type 0
HoldsAt H place client name = holds client name (executed_entries (take place H)) ≡ true

-- At each place at most one client holds a lock, and it is the one whose name the key has in the store there.
pub record HasOneHolder (H : List Entry) : Type 0 where
  pub stored : (place client : ℕ) (name : List ℕ) → client < 2 ^ 32
      → HoldsAt H place client name ↔ (value_of (store_after (commands (take place H))) (lock_key name) ≡ Some (holder_value client))
  pub one : (place client other : ℕ) (name : List ℕ) → HoldsAt H place client name → HoldsAt H place other name → client ≡ other

-- Between the entries of two ids the client gives the lock of the name back. Places are counted from 0.
pub record IsReleasedBetween (H : List Entry) (client : ℕ) (name : List ℕ) (first second : Id) : Type 0 where
  pub from : ℕ
  pub to : ℕ
  pub place_of_first : place_of H first ≡ Some from
  pub place_of_second : place_of H second ≡ Some to
  pub place : ℕ
  pub after : from < place
  pub before : place < to
  pub release : Executed
  pub there : slice_get (executed_entries H) place ≡ Some release
  pub released : releases client name release ≡ true

-- The entry takes the lock of the name, if it is answered done.
abbrev pub IsAcquire : List ℕ → Entry → Type 0
IsAcquire name e = use_of e.key.client e.command ≡ Acquire name

-- An acquire that was accepted before another one was sent is over before the other takes the lock: where that one is
-- answered done, the first client gave the lock back in between.
pub record AreInTurn (E : List ClientEvent) (H : List Entry) : Type 0 where
  pub released : (name : List ℕ) (first second : Entry) (path : Path)
      → Has H first → Has H second → IsAcquire name first → IsAcquire name second
      → Precedes E (Accepted (id_of first.key) Done path) (Sent (id_of second.key) second.command)
      → IsAnswered H (id_of second.key) Done
      → IsReleasedBetween H first.key.client name (id_of first.key) (id_of second.key)
