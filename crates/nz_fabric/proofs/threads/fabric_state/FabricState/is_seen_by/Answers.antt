-- What the function of this folder owes, proved.
use Rattle.std.proofs.Common.{◌≡◌, ◌∙◌, List, sym, ap, subst}
use Rattle.std.specs.Prelude.{IsTrue, ◌↔◌}
use Rattle.nz_machine.specs.declared.event.Record.{Record}
use Rattle.nz_fabric.specs.threads.Records.{steps_of}
use Rattle.nz_fabric.specs.threads.Shared.{Shared}
use Rattle.nz_fabric.specs.alone.States.{records_of}
use Rattle.nz_fabric.proofs.one_thread.Held.{all_records}
use Rattle.nz_fabric.proofs.threads.fabric_state.FabricState.is_seen_by.Goals as goal

pub returns : goal.returns
returns g c =
    let f = c.self.inside in
    subst (λ (J : List Record). IsTrue c.is_seen_by.result ↔ (c.args.lane.now ≡ steps_of c.args.lane.now.actor J))
    (sym (all_records f.before f.records.records) ∙ ap (λ (f : Shared). records_of f.run) c.self.view_is) c.is_seen_by.ensures
