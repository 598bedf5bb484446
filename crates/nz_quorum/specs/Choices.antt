-- The reply that is chosen, described without a walk over the replies.
use Rattle.std.specs.Prelude.{◌≡◌, ℕ, ◌<◌, ◌≤◌, List, ◌∷◌, ◌++◌, IsTrue}
use Rattle.nz_msg.specs.declared.message.Path.{Path}
use Rattle.nz_machine.specs.declared.reply.Reply.{Reply}
use Rattle.nz_machine.specs.rules.Quorums.{view_of}
use Rattle.nz_machine.specs.runs.World.{Has}
use Rattle.nz_quorum.specs.Tallies.{has_quorum}

-- Some noted reply has a quorum of this path.
pub record HasQuorum (path : Path) (f : ℕ) (replies : List Reply) : Type 0 where
  pub reply : Reply
  pub noted : Has replies reply
  pub quorum : IsTrue (has_quorum path f replies reply)

-- The reply is noted and has a quorum of this path; none that has one is of a lesser view, and none that
-- was noted before is of the same view.
pub record IsFirstOfLeastView (path : Path) (f : ℕ) (replies : List Reply) (reply : Reply) : Type 0 where
  pub before : List Reply
  pub rest_after : List Reply
  pub noted : replies ≡ before ++ reply ∷ rest_after
  pub quorum : IsTrue (has_quorum path f replies reply)
  pub least : (other : Reply) → Has replies other → IsTrue (has_quorum path f replies other) → view_of reply ≤ view_of other
  pub first : (other : Reply) → Has before other → IsTrue (has_quorum path f replies other) → view_of reply < view_of other
