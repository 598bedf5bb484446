-- What replicas know to be committed, and that it is never taken back.
use Rattle.std.specs.Prelude.{◌≡◌, ℕ, ◌<◌, List, take, Option, Some, None, if◌then◌else◌}
use Rattle.nz_base.specs.declared.key.Entry.{Entry}
use Rattle.nz_base.specs.Moments.{At}
use Rattle.nz_base.specs.Prefixes.{IsPrefix, Comparable}
use Rattle.nz_machine.specs.declared.event.Record.{Record}
use Rattle.nz_machine.specs.rules.State.{ReplicaData, Group}
use Rattle.nz_machine.specs.rules.Replicas.{is_up}
use Rattle.nz_machine.specs.runs.Incarnations.{replica_at, incarnation}
use Rattle.nz_machine.specs.runs.Begun.{start}

-- The entries that a replica knows to be committed. One that is down or rejoins knows of none.
abbrev pub committed_of : ReplicaData → Option (List Entry)
committed_of s = if is_up s.status then Some (take s.commit s.log.entries) else None

-- What a replica knew to be committed at some moment of the run stays.
pub record Stable (g : Group) (J : List Record) : Type 0 where
  -- Each view above the last one in which the replica was in normal operation starts with it.
  pub started : (m v : ℕ) (K : List Record) (P S : List Entry) → At J K → committed_of (replica_at g m K) ≡ Some P → (replica_at g m K).last < v
      → start g v J ≡ Some S → IsPrefix P S
  -- What the same incarnation knows later begins with it.
  pub extended : (m : ℕ) (K L : List Record) (P Q : List Entry) → At J L → At L K → incarnation g m K ≡ incarnation g m L
      → committed_of (replica_at g m K) ≡ Some P → committed_of (replica_at g m L) ≡ Some Q → IsPrefix P Q
  -- Of what two replicas know, at whatever moments, one begins with the other.
  pub paired : (m n : ℕ) (K L : List Record) (P Q : List Entry) → At J K → At J L → committed_of (replica_at g m K) ≡ Some P
      → committed_of (replica_at g n L) ≡ Some Q → Comparable P Q

-- What a replica knew to be committed begins with each accepted prefix, or is a prefix of it.
abbrev pub IsComparableWith : Group → List Record → List Entry → Type 0
IsComparableWith g J A = (m : ℕ) (K : List Record) (P : List Entry) → At J K → committed_of (replica_at g m K) ≡ Some P → Comparable P A
