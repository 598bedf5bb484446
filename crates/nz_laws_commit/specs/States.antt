-- The machine as the laws on logs see it: functions of the moments of a run, whose newest record comes first.
use Rattle.std.specs.Prelude.{ℕ, Bool, List, Option, slice_index_or}
use Rattle.nz_base.specs.declared.key.Key.{Key}
use Rattle.nz_base.specs.declared.key.Entry.{Entry}

-- The mode of a replica.
pub data Status : Type 0 where
  Normal ViewChange Rejoining Down : Status

-- Neither down nor rejoining.
abbrev pub IsUp : Status → Type 0
IsUp Normal = Unit {0}
IsUp ViewChange = Unit {0}
IsUp Rejoining = ⊥
IsUp Down = ⊥

-- What is read of a replica's state; last is the last view in which it was Normal.
pub record LogState : Type 0 where
  pub status : Status
  pub view : ℕ
  pub last : ℕ
  pub synced : ℕ
  pub log : List Entry
  pub vector : List ℕ

-- A place of a crash vector.
abbrev pub place : List ℕ → ℕ → ℕ
place u m = slice_index_or u m 0

-- A machine whose records are of type R. A replica is a number, and a moment is the run up to there.
pub record Machine (R : Type 0) : Type 0 where
  -- How many replicas may be out of order.
  pub f : ℕ
  -- Whether the replica is the record's actor.
  pub by : R → ℕ → Bool
  -- The replica's state, and the number of its incarnation.
  pub state : ℕ → List R → LogState
  pub inc : ℕ → List R → ℕ
  -- The log of the leader of a view, and the log with which the view began.
  pub lead : ℕ → List R → List Key
  pub start : ℕ → List R → Option (List Key)
