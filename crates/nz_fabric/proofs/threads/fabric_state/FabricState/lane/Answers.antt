-- What the function of this folder owes, proved.
use Rattle.std.proofs.Common.{◌∙◌, sym, ap}
use Rattle.nz_fabric.specs.threads.Records.{steps_of}
use Rattle.nz_fabric.specs.threads.Shared.{Shared}
use Rattle.nz_fabric.specs.alone.States.{records_of}
use Rattle.nz_fabric.proofs.one_thread.Held.{all_records}
use Rattle.nz_fabric.proofs.threads.fabric_state.FabricState.lane.Goals as goal

pub returns : goal.returns
returns g c =
    let f = c.self.inside in
    c.lane.ensures
    ∙ ap (steps_of c.args.actor) (sym (all_records f.before f.records.records) ∙ ap (λ (f : Shared). records_of f.run) c.self.view_is)
