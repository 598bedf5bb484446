-- What rejoins make known: the property of crash vectors that all else rests on.
use Rattle.std.specs.Prelude.{◌≡◌, ℕ, ◌<◌, ◌≤◌, List, length, Some, IsTrue}
use Rattle.nz_machine.specs.declared.event.Record.{Record}
use Rattle.nz_machine.specs.rules.State.{Group}
use Rattle.nz_machine.specs.declared.data.ToldView.{ToldView}
use Rattle.nz_machine.specs.rules.Replicas.{is_up}
use Rattle.nz_machine.specs.runs.World.{Has}
use Rattle.nz_base.specs.Moments.{At}
use Rattle.nz_machine.specs.runs.Incarnations.{replica_at, incarnation, counter_at, own_counter, completes, views_used, tell_source}

-- What holds of the completed rejoins of a run.
pub record Knowledge (g : Group) (J : List Record) : Type 0 where
  -- The own counters of a replica's completed rejoins rise.
  pub rise : (m : ℕ) (C D : List Record) → At J C → At J D → IsTrue (completes g m C) → IsTrue (completes g m D)
      → length C < length D → own_counter g m C < own_counter g m D
  -- Where a completed rejoin used the answer of an incarnation, each later incarnation of that replica that has
  -- rejoined itself knows the counter: S is when the answer was given, K any moment of the later one.
  pub known : (m : ℕ) (C S K : List Record) (t : ToldView) → At J C → At J K → IsTrue (completes g m C) → Has (views_used g m C) t
      → tell_source g m C t ≡ Some S → IsTrue (is_up (replica_at g t.sender K).status)
      → incarnation g t.sender S < incarnation g t.sender K → own_counter g m C ≤ counter_at g t.sender m K
