-- What the function of this folder owes, proved.
use Rattle.std.proofs.Common.{◌∙◌, Some, sym, ap}
use Rattle.nz_base.specs.declared.actor.Actor.{Actor}
use Rattle.nz_machine.specs.journals.Journals.{group_in}
use Rattle.nz_replay.specs.Runs.{run_up_to}
use Rattle.nz_audit.specs.Sources.{source_sent}
use Rattle.nz_audit.proofs.ReadingTakes.{decided_by}
use Rattle.nz_audit.proofs.RunsOfSources.{run_length}
use Rattle.nz_audit.proofs.sources.reading.source_for.Goals as goal

pub returns-in-Replica : goal.returns-in-Replica
returns-in-Replica c =
    let J = run_up_to c.args.journal.now c.args.records in
    let long = run_length c.args.journal.now c.args.records c.requires.records in
    (λ i. Some (record { replica = c.in-Replica.replica; records = sym long i }))
    ∙ sym (ap (λ (a : Actor). source_sent (group_in c.args.journal.now) c.args.id a J) c.in-Replica.is)

pub returns-in-Proxy : goal.returns-in-Proxy
returns-in-Proxy c =
    let g = group_in c.args.journal.now in
    let J = run_up_to c.args.journal.now c.args.records in
    let q = c.in-Proxy.proxy in
    decided_by g q c.args.id J _ c.source_decided.result (c.requires.known q) c.source_decided.ensures
    ∙ sym (ap (λ (a : Actor). source_sent g c.args.id a J) c.in-Proxy.is)
