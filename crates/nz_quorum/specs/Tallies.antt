-- What a contract sees of a tally, and the quorum of each path.
use Rattle.std.specs.Prelude.{ℕ, ◌<◌, ◌≡◌, Bool, List, length, Option, Some, None, IfSome, filter}
use Rattle.nz_base.specs.Cluster.{replica_count, fast_size, slow_size}
use Rattle.nz_msg.specs.declared.message.Path.{Path}
use Rattle.nz_msg.specs.declared.message.Path.TheVariants as paths
use Rattle.nz_machine.specs.declared.reply.Reply.{Reply}
use Rattle.nz_machine.specs.declared.reply.Reply.TheVariants.{Fast, Slow}
use Rattle.nz_machine.specs.rules.Quorums.{has_fast_quorum, has_slow_quorum, first_of_least_view}

-- A tally: the f of the cluster, and the replies that were noted.
pub record TallyData : Type 0 where
  pub f : ℕ
  pub replies : List Reply

-- The replica that replied.
abbrev pub replica_of : Reply → ℕ
replica_of (Fast replica view digest vector answer) = replica
replica_of (Slow replica view) = replica

-- The crash vector of a fast reply.
abbrev pub reply_vector : Reply → Option (List ℕ)
reply_vector (Fast replica view digest vector answer) = Some vector
reply_vector (Slow replica view) = None

-- A reply of a replica of the cluster, whose vector has a counter for each replica.
pub record IsOfCluster (f : ℕ) (reply : Reply) : Type 0 where
  pub replica : replica_of reply < replica_count f
  pub vector : IfSome (reply_vector reply) (λ vector. length vector ≡ replica_count f)

-- How many replicas a quorum of this path has.
abbrev pub quorum_size : Path → ℕ → ℕ
quorum_size paths.Fast f = fast_size f
quorum_size paths.Slow f = slow_size f

-- The leader's reply has a quorum of this path.
abbrev pub has_quorum : Path → ℕ → List Reply → Reply → Bool
has_quorum paths.Fast f replies lead = has_fast_quorum f replies lead
has_quorum paths.Slow f replies lead = has_slow_quorum f replies lead

-- Of the replies that have a quorum of this path the first of the least view.
abbrev pub lead_of : Path → ℕ → List Reply → Option Reply
lead_of path f replies = first_of_least_view (filter (has_quorum path f replies) replies)
