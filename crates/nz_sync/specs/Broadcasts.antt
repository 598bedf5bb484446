-- What the leader sends alike to several replicas.
use Rattle.std.specs.Prelude.{◌≡◌}
use Rattle.nz_msg.specs.Messages.{Fits, body_of}
use Rattle.nz_msg.specs.declared.message.Message.TheVariants.{LogMod}
use Rattle.nz_machine.specs.rules.State.{ReplicaData}
use Rattle.nz_machine.specs.rules.LogMods.{log_mod_from}
use Rattle.nz_sync.specs.declared.broadcast.Written.{Written}

-- The message is the log-mod from the place, and the body is its body.
pub record IsWritten (s : ReplicaData) (w : Written) : Type 0 where
  pub message : w.message ≡ LogMod (log_mod_from s w.start)
  pub fits : Fits w.message
  pub body : w.body ≡ body_of w.message
