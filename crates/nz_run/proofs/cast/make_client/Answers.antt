-- What the function of this folder owes, proved.
use Rattle.std.proofs.Common.{◌∙◌, sym, ap, Some, List, []}
use Rattle.nz_base.specs.declared.scenario.Request.{Request}
use Rattle.nz_client.specs.Models.{ClientCore}
use Rattle.nz_machine.specs.rules.Clients.{first_client}
use Rattle.nz_run.proofs.CoreSteps.{got_or, sendable}
use Rattle.nz_run.proofs.cast.make_client.Goals as goal

pub new-requires-clause-sendable : goal.new-requires-clause-sendable
new-requires-clause-sendable c =
    sendable c.args.scenario.now c.from.result c.in_ok-script.script c.requires.playable (c.get.ensures ∙ ap Some (sym c.in_ok-script.ensures))

pub returns : goal.returns
returns c =
    let s = c.args.scenario.now in
    c.new.ensures
    ∙ ap (λ (script : List Request). let v : ClientCore = record {
      model = record { me = c.args.me; proxies = s.proxies; window = s.window; script = script; state = first_client };
      live = Rattle.std.proofs.Common.true;
    } in v)
    (c.in_ok-script.ensures ∙ sym (got_or s.scripts c.from.result c.get.result.now [] c.get.ensures)
    ∙ ap (λ n. Rattle.std.proofs.Common.get_or s.scripts n []) c.from.ensures)
