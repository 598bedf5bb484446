-- What the function of this folder owes, proved.
use Rattle.std.proofs.Common.{Some, ap, ◌∙◌}
use Rattle.nz_machine.specs.declared.event.Event.TheVariants.{Deliver}
use Rattle.nz_machine.specs.declared.event.Parcel.{Parcel}
use Rattle.nz_node.proofs.Deliveries.{delivered}
use Rattle.nz_node.proofs.events.delivery.Goals as goal

pub returns : goal.returns
returns c =
    let v = c.in-Ok.view in
    ap (λ (p : Parcel). Some (Deliver p)) c.in_ok-parcel.ensures
    ∙ delivered c.args.frame v.kind v.from v.to v.body.now (Some c.in-Some.from) (Some c.in-Some-from_address.to) c.in-Ok.ensures.frame
    c.in-Some.ensures.value c.in-Some-from_address.ensures.value
