-- The vector rule (Michael et al., DISC 2017), in each rule for a message with a crash vector, after that rule's own
-- tests of status, view, sender and role.
use Rattle.std.specs.Prelude.{ℕ, List, [], if◌then◌else◌}
use Rattle.nz_cv.specs.Vectors.{is_stray, merged_vector}
use Rattle.nz_machine.specs.rules.State.{ReplicaData, Out}

-- The vector merged in: each counter but the replica's own becomes the greater.
abbrev pub with_vector : ℕ → ReplicaData → List ℕ → ReplicaData
with_vector me s vector = record s { vector = merged_vector s.vector vector me }

-- A stray message changes nothing. Of another one the vector is merged, and then the rule follows.
abbrev pub unless_stray : ℕ → ReplicaData → ℕ → List ℕ → (ReplicaData → ReplicaData × List Out) → ReplicaData × List Out
unless_stray me s sender vector rule = if is_stray vector sender s.vector then (s, []) else rule (with_vector me s vector)
