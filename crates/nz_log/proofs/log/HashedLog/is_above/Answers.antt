-- What the function of this folder owes, proved.
use Rattle.std.proofs.Common.{sym, ap, ◌∙◌}
use Rattle.nz_base.specs.Log.{keys_of, is_above_last}
use Rattle.nz_base.proofs.Logs.{above_none, above_some}
use Rattle.nz_log.specs.Synced.{Log}
use Rattle.nz_log.proofs.log.HashedLog.is_above.Goals as goal

pub returns-in-Some : goal.returns-in-Some
returns-in-Some c =
    c.is_below.ensures.value
    ∙ sym (above_some c.self.inside.entries c.args.key.now _ (sym c.in-Some.ensures))
    ∙ ap (λ (l : Log). is_above_last (keys_of l.entries) c.args.key.now) c.self.view_is

pub returns-in-None : goal.returns-in-None
returns-in-None c =
    sym (above_none c.self.inside.entries c.args.key.now (sym c.in-None.ensures))
    ∙ ap (λ (l : Log). is_above_last (keys_of l.entries) c.args.key.now) c.self.view_is
