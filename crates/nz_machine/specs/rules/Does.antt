-- What a rule may count on where a message comes, and what it does to a replica, and to the messages that wait to be sent.
use Rattle.std.specs.Prelude.{◌≡◌, ◌≢◌, ℕ, List, [], ◌++◌, length, map, IsTrue}
use Rattle.nz_base.specs.Cluster.{replica_count}
use Rattle.nz_base.specs.declared.actor.Actor.{Actor}
use Rattle.nz_base.specs.declared.actor.Actor.TheVariants.{Replica}
use Rattle.nz_machine.specs.declared.event.Parcel.{Parcel}
use Rattle.nz_machine.specs.rules.State.{ReplicaData, Out}
use Rattle.nz_machine.specs.rules.Facts.{ReplicaModel}
use Rattle.nz_machine.specs.rules.Step.{parcel, is_in_cluster}

-- A message with this crash vector, of this actor, fits the cluster: a replica that sends is a member, and the vector has
-- a counter for each member.
pub record IsFromMember (s : ReplicaModel) (from : Actor) (vector : List ℕ) : Type 0 where
  pub member : IsTrue (is_in_cluster s.f from)
  pub size : length vector ≡ replica_count s.f

-- The same of a message that the replica did not send itself.
pub record IsFromOther (s : ReplicaModel) (from : Actor) (vector : List ℕ) : Type 0 where
  pub member : IsTrue (is_in_cluster s.f from)
  pub other : from ≢ Replica s.me
  pub size : length vector ≡ replica_count s.f

-- The state is the rule's, and its messages are appended to the earlier ones.
pub record Does (old new : ReplicaModel) (before after : List Parcel) (t : ReplicaData × List Out) : Type 0 where
  pub state : new ≡ record old { state = t.0 }
  pub sends : after ≡ before ++ map (parcel (Replica old.me)) t.1

-- The same of a rule that sends nothing.
pub record DoesSilently (old new : ReplicaModel) (t : ReplicaData × List Out) : Type 0 where
  pub state : new ≡ record old { state = t.0 }
  pub silent : t.1 ≡ []
