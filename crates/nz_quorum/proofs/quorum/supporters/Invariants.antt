-- What the loops of the function of this folder keep.
use Rattle.std.proofs.Common.{◌≡◌, ℕ, ◌||◌, eqb, drop}
use Rattle.std.specs.List.{list_any, AllByRecursion}
use Rattle.nz_base.specs.Cluster.{leader_of}
use Rattle.nz_math.specs.Count.{is_in}
use Rattle.nz_machine.specs.rules.Quorums.{view_of}
use Rattle.nz_quorum.specs.Tallies.{IsOfCluster}
use Rattle.nz_quorum.proofs.Support.{backs}
use Rattle.nz_quorum.proofs.quorum.supporters.Given as goal

abbrev pub invariant-loop-reply : goal.invariant-loop-reply
invariant-loop-reply l = record {
  of_cluster : AllByRecursion (IsOfCluster l.fn.cluster) (drop l.reply-index l.replies);
  members : (x : ℕ)
      → (is_in l.set x || list_any (backs l.path l.lead x) (drop l.reply-index l.replies))
      ≡ (eqb (leader_of l.fn.cluster (view_of l.lead)) x || list_any (backs l.path l.lead x) l.replies);
}
