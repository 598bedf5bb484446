-- What the function of this folder owes, proved.
use Rattle.std.proofs.Common.{◌∙◌, sym}
use Rattle.std.specs.HashSet.{contains}
use Rattle.std.proofs.lemmas.Result.{IfOk-weaker}
use Rattle.nz_base.specs.Key.{id_eq}
use Rattle.nz_audit.specs.Sources as sources
use Rattle.nz_audit.proofs.SendingTables.{unwanted_about, only_wanted}
use Rattle.nz_audit.proofs.sources.wanted.about.Goals as goal

pub returns-then-not-contains : goal.returns-then-not-contains
returns-then-not-contains c =
    sym (unwanted_about (contains id_eq c.args.wanted.now) (sources.about c.args.parcel.now) c.in-Some.shown
    (λ id is. sym c.in-Some.is ∙ c.shown_id.ensures id is) (sym c.contains.ensures ∙ c.if-not-contains.true))

pub returns : goal.returns
returns c = IfOk-weaker c.decoded_id.result _ _ (λ id is. is
    ∙ only_wanted (contains id_eq c.args.wanted.now) (sources.about c.args.parcel.now) c.in-Some.shown
    (λ x e. sym c.in-Some.is ∙ c.shown_id.ensures x e) (sym c.contains.ensures ∙ c.if-not-contains.false)) c.decoded_id.ensures
