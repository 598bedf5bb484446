-- What the function of this folder owes, proved.
use Rattle.std.proofs.Common.{◌∙◌, sym, subst}
use Rattle.std.proofs.lemmas.Bool.{not-true}
use Rattle.std.proofs.lemmas.Option.{same_Some}
use Rattle.indexmap.specs.IndexMap.{get}
use Rattle.nz_base.specs.Key.{id_eq}
use Rattle.nz_base.specs.declared.key.Id.{Id}
use Rattle.nz_audit.proofs.ReplyFields.{IsPast, past_if_not_open, past_stays}
use Rattle.nz_audit.proofs.sources.proxy.ProxyNotes.is_past.Goals as goal

pub returns : goal.returns
returns c = λ none.
    let known = c.args.self.now.known in
    past_stays c.args.parcel.now c.in-Replica.field-0 (λ (i : Id). get id_eq known i) c.named_id.ensures.bytes
    c.in-Replica.is (λ id e. subst (λ (i : Id). IsPast (get id_eq known i))
    (same_Some c.in-Some.id id (sym c.in-Some.is ∙ c.named_id.ensures.shown ∙ e))
    (past_if_not_open (get id_eq known c.in-Some.id) (sym c.is_open.ensures ∙ not-true c.is_open.result none)))
