-- A run of four records that follows the rules: replica 0 of three releases a key, 1 syncs it, 2 enters view 1, and 1
-- enters and begins it in one record.
use Rattle.std.specs.Prelude.{ℕ, zero, suc, Bool, true, false, List, [], ◌∷◌}
use Rattle.nz_base.specs.declared.key.Key.{Key}
use Rattle.nz_base.specs.declared.key.Entry.{Entry}
use Rattle.nz_laws_commit.specs.States.{LogState, Normal, ViewChange}
use Rattle.nz_laws_commit.specs.Machines.{GroupStates}

-- The four records.
pub data Step : Type 0 where
  First Second Third Fourth : Step

-- The one key, and its entry.
abbrev pub key : Key
key = record { deadline = 5; client = 1; num = 1 }

-- The entry of the example's key.
abbrev pub entry : Entry
entry = record { key = key; command = [] }

-- Whether the replica is the record's actor.
abbrev pub by : Step → ℕ → Bool
by First zero = true
by Second (suc zero) = true
by Third (suc (suc zero)) = true
by Fourth (suc zero) = true
by _ _ = false

-- Nobody restarts, so every crash vector is this.
abbrev pub zeros : List ℕ
zeros = 0 ∷ 0 ∷ 0 ∷ []

-- The first state of each replica.
abbrev pub new_state : LogState
new_state = record { status = Normal; view = 0; last = 0; synced = 0; log = []; vector = zeros }

-- Normal in view 0, with the entry synced.
abbrev pub full_state : LogState
full_state = record { status = Normal; view = 0; last = 0; synced = 1; log = entry ∷ []; vector = zeros }

-- Changing to view 1.
abbrev pub changing_state : LogState
changing_state = record { status = ViewChange; view = 1; last = 0; synced = 0; log = []; vector = zeros }

-- Normal in view 1, with the entry synced.
abbrev pub begun_state : LogState
begun_state = record { status = Normal; view = 1; last = 1; synced = 1; log = entry ∷ []; vector = zeros }

-- A replica's state after a record, from that before it.
abbrev pub after : Step → ℕ → LogState → LogState
after First zero s = full_state
after Second (suc zero) s = full_state
after Third (suc (suc zero)) s = changing_state
after Fourth (suc zero) s = begun_state
after _ _ s = s

-- A replica's state after some records.
abbrev pub state : ℕ → List Step → LogState
state y [] = new_state
state y (r ∷ K) = after r y (state y K)

-- The run before its newest record, and the run.
abbrev pub early : List Step
early = Third ∷ Second ∷ First ∷ []

-- The whole run of the example.
abbrev pub run : List Step
run = Fourth ∷ early

-- The states of the group, of whose three members one may be out of order.
abbrev pub group : GroupStates Step
group = record { f = 1; by = by; restarts = λ r. false; state = state }
