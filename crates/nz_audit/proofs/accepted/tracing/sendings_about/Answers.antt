-- What the function of this folder owes, proved.
use Rattle.std.specs.HashSet.{contains}
use Rattle.std.proofs.lemmas.Result.{IfOk-weaker}
use Rattle.nz_base.specs.Key.{id_eq}
use Rattle.nz_audit.proofs.TracedSources.{all_known}
use Rattle.nz_audit.proofs.accepted.tracing.sendings_about.Goals as goal

pub returns : goal.returns
returns c = IfOk-weaker c.sendings_in.result _ _ (λ sendings is.
    all_known c.args.journal.now (contains id_eq c.in_ok-wanted.wanted) c.args.answers.now sendings.kept.entries c.requires.world c.requires.accepted
    c.in_ok-wanted.ensures is) c.sendings_in.ensures
