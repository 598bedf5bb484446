-- Why a reader stopped.
use Rattle.std.specs.Prelude.{◌≡◌, ℕ, ◌<◌, ◌≤◌, ◌⊎◌, List, [], length, Option, Err, IfSome}
use Rattle.nz_lane.specs.declared.lane_reader.Stop.{Stop}
use Rattle.nz_lane.specs.declared.lane_reader.Stop.TheVariants.{Fault, NoMemory, Refused}
use Rattle.nz_lane.specs.Reading.{wanted, item_at}
use Rattle.nz_lane.specs.Streams.{Held}

-- Nothing is said against the stream.
abbrev pub IsNoRefusal : Stop → Type 0
IsNoRefusal Fault = Unit {0}
IsNoRefusal NoMemory = Unit {0}
IsNoRefusal (Refused place why) = ⊥

-- A refusal is at the place of the bytes ahead, and these begin no item for the reason that it has.
abbrev pub IsRefusalOf : ℕ → Option (List ℕ) → Stop → Type 0
IsRefusalOf here left (Refused place why) = (place ≡ here) × IfSome left (λ bytes. (0 < length bytes) × (item_at bytes ≡ Err why))
IsRefusalOf here left _ = Unit {0}

-- The item at the beginning is whole, or no further bytes come.
abbrev pub IsSettledBy : Held → Option (List ℕ) → Type 0
IsSettledBy held left = (wanted held.bytes ≤ length held.bytes) ⊎ IfSome left (λ rest. rest ≡ [])
