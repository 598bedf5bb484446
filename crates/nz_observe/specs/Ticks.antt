-- What replicas know to be committed at the ends of ticks, and that it is never taken back.
use Rattle.std.specs.Prelude.{◌≡◌, ℕ, ◌≤◌, ◌<◌, nat_le, nat_lt, List, [], ◌∷◌, Option, Some, None, if◌then◌else◌}
use Rattle.nz_base.specs.Cluster.{replica_count}
use Rattle.nz_base.specs.Prefixes.{IsPrefix, Comparable}
use Rattle.nz_base.specs.declared.key.Entry.{Entry}
use Rattle.nz_machine.specs.declared.event.Record.{Record}
use Rattle.nz_machine.specs.rules.State.{Group}
use Rattle.nz_machine.specs.runs.Incarnations.{replica_at, incarnation}
use Rattle.nz_machine.specs.runs.Begun.{start}
use Rattle.nz_laws_commit.specs.Stable.{committed_of}

-- The run up to the end of a tick, the newest record first: records of later ticks are left out.
unfoldable pub run_to : ℕ → List Record → List Record
run_to tick [] = []
run_to tick (r ∷ J) = if nat_le r.tick tick then r ∷ J else run_to tick J

-- The entries that the replica knows to be committed at the end of the tick. One that is down or rejoins, or that the
-- cluster does not have, knows of none.
abbrev pub committed : Group → ℕ → ℕ → List Record → Option (List Entry)
committed g m tick J = if nat_lt m (replica_count g.f) then committed_of (replica_at g m (run_to tick J)) else None

-- What a replica knew to be committed at the end of some tick stays.
pub record StableAtTicks (g : Group) (J : List Record) : Type 0 where
  -- Each view above the last one in which the replica was in normal operation starts with it.
  pub started : (m t v : ℕ) (P S : List Entry) → committed g m t J ≡ Some P → (replica_at g m (run_to t J)).last < v → start g v J ≡ Some S → IsPrefix P S
  -- What the same incarnation knows later begins with it.
  pub extended : (m t u : ℕ) (P Q : List Entry) → t ≤ u → incarnation g m (run_to t J) ≡ incarnation g m (run_to u J) → committed g m t J ≡ Some P
      → committed g m u J ≡ Some Q → IsPrefix P Q
  -- Of what two replicas know, at the ends of whatever ticks, one begins with the other.
  pub paired : (m n t u : ℕ) (P Q : List Entry) → committed g m t J ≡ Some P → committed g n u J ≡ Some Q → Comparable P Q

-- At the end of each tick what a replica knows to be committed begins with the entries, or is a prefix of them.
abbrev pub IsComparableAtTicks : Group → List Record → List Entry → Type 0
IsComparableAtTicks g J A = (m t : ℕ) (P : List Entry) → committed g m t J ≡ Some P → Comparable P A
