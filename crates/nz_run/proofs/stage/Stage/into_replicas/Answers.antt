-- What the function of this folder owes, proved.
use Rattle.std.proofs.Common.{◌≡◌, ◌∙◌, ℕ, length, subst}
use Rattle.nz_machine.specs.runs.Schedule.{group_of}
use Rattle.nz_fabric.specs.alone.States.{records_of}
use Rattle.nz_replica.specs.Models.{IsCore}
use Rattle.nz_run.proofs.LastCores.{cores_more}
use Rattle.nz_run.proofs.stage.Stage.into_replicas.Goals as goal

pub loop-cell-preserved : goal.loop-cell-preserved
loop-cell-preserved g c =
    let G = group_of g.N.RunName.scenario in
    let J = records_of c.args.state.now.run in
    let core = c.in-Some-replica_at.replica in
    let cores = c.loop-cell.replicas.items in
    let many : c.len.result ≡ length cores = c.len.ensures ∙ c.loop-cell.replicas.ok.0 in
    cores_more G J cores c.push.new.self.items core c.loop-cell.invariant
    (subst (λ (k : ℕ). IsCore G J k core) many c.in-Some-replica_at.ensures) c.in_ok-push.ensures.items
