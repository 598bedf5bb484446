-- The fast replies of replicas with one log, and the decision on them.
use Rattle.std.specs.Prelude.{◌≡◌, ℕ, List, ◌==◌, if◌then◌else◌, Option, Some, None}
use Rattle.nz_store.specs.declared.command.Answer.{Answer}
use Rattle.nz_msg.specs.declared.message.Path.TheVariants as paths
use Rattle.nz_machine.specs.declared.reply.Reply.{Reply}
use Rattle.nz_machine.specs.declared.reply.Reply.TheVariants.{Fast}
use Rattle.nz_machine.specs.rules.Quorums.{Chosen, answer_in}

-- The fast reply of a replica: of view 0, and at the leader with the answer.
abbrev pub reply_of : List ℕ → List ℕ → Answer → ℕ → Reply
reply_of digest vector answer r = Fast r 0 digest vector (if r == 0 then Some answer else None)

-- The reply is that of some replica.
pub record IsReply (digest vector : List ℕ) (answer : Answer) (y : Reply) : Type 0 where
  pub replica : ℕ
  pub is : y ≡ reply_of digest vector answer replica

-- The request is decided fast, with this answer.
pub record IsFastChoice (answer : Answer) (o : Option Chosen) : Type 0 where
  pub chosen : Chosen
  pub is : o ≡ Some chosen
  pub fast : chosen.path ≡ paths.Fast
  pub answered : answer_in chosen.reply ≡ Some answer
