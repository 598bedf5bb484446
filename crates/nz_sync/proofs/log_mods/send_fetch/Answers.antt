-- What the function of this folder owes, proved.
use Rattle.nz_machine.proofs.facts.SentFields.{ids_fit}
use Rattle.nz_sync.proofs.Following.{some_left}
use Rattle.nz_sync.proofs.log_mods.send_fetch.Goals as goal

pub send-requires-clause-message : goal.send-requires-clause-message
send-requires-clause-message c = (
  c.view.ensures.fits,
  ids_fit c.args.ids
      (some_left c.args.ids c.is_empty.result c.is_empty.ensures c.if-is_empty.false) c.requires.few c.requires.fit,
)
