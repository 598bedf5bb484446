-- What a reader of the code gives, against the same on lists.
use Rattle.std.specs.Prelude.{◌≡◌, ℕ, ◌-◌, ◌≤◌, List, map, Result, Ok, Err}
use Rattle.nz_base.specs.declared.key.Id.{Id}
use Rattle.nz_base.specs.declared.key.Entry.{Entry}
use Rattle.nz_base.specs.Key.{id_of}
use Rattle.nz_base.specs.Log.{keys_of, AreRising}
use Rattle.nz_msg.specs.declared.fault.Fault.{Fault}
use Rattle.nz_msg.specs.declared.fault.Fault.TheVariants as faults
use Rattle.nz_msg.specs.declared.refusal.DecodeRefusal.{DecodeRefusal}
use Rattle.nz_msg.specs.declared.refusal.DecodeRefusal.TheVariants as refusals

-- What a reader found is the fault, and want of memory may come anywhere.
abbrev pub Fails : {Y : Type 0} → Fault → Result Y ℕ → Type 0
Fails faults.NoMemory read = Unit {0}
Fails (faults.Bad left) read = read ≡ Err left

-- It gives what is read, seen by view, or its fault, unless memory was not found.
abbrev pub Gives : {X Y : Type 0} → (X → Y) → Result X Fault → Result Y ℕ → Type 0
Gives view (Ok x) read = read ≡ Ok (view x)
Gives view (Err fault) read = Fails fault read

-- No more is left than there was.
abbrev pub IsPlaced : ℕ → Fault → Type 0
IsPlaced size faults.NoMemory = Unit {0}
IsPlaced size (faults.Bad left) = left ≤ size

-- The refusal of this many bytes for a fault in them.
abbrev pub refusal_at : ℕ → Fault → DecodeRefusal
refusal_at size faults.NoMemory = refusals.NoMemory
refusal_at size (faults.Bad left) = refusals.BadBody (size - left)

-- These are the ids of entries in the order of their keys.
pub record AreNoted (entries : List Entry) (ids : List Id) : Type 0 where
  pub rising : AreRising (keys_of entries)
  pub ids_are : ids ≡ map (λ e. id_of e.key) entries
