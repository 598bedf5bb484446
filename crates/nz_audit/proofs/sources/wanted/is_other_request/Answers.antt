-- What the function of this folder owes, proved.
use Rattle.std.proofs.Common.{◌∙◌, sym, ap}
use Rattle.std.specs.HashSet.{contains}
use Rattle.std.proofs.lemmas.Bool.{not-true}
use Rattle.nz_base.specs.Key.{id_eq}
use Rattle.nz_machine.specs.declared.event.Event.{Event}
use Rattle.nz_machine.specs.declared.event.Event.TheVariants.{Deliver}
use Rattle.nz_audit.specs.Noting.{after_event}
use Rattle.nz_audit.proofs.ReplyFields.{other_ignored}
use Rattle.nz_audit.proofs.sources.wanted.is_other_request.Goals as goal

pub returns-in-Some-clause-known : goal.returns-in-Some-clause-known
returns-in-Some-clause-known c = λ unwanted id wanted f me source silent down known.
    let w = contains id_eq c.args.wanted.now in
    ap (λ (e : Event). after_event f me source silent down id e known) (c.in-Deliver.is ∙ ap Deliver (sym c.get-parcel.ensures))
    ∙ other_ignored w c.get-parcel.result.now c.in-Client.client c.in-Some.num c.named_num.ensures.bytes c.in-Client.is
    (sym c.named_num.ensures.shown ∙ c.in-Some.is)
    (ap w (sym c.id_of.ensures) ∙ sym c.contains.ensures ∙ not-true c.contains.result unwanted) id wanted f me source silent down known
