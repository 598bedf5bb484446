-- What the function of this folder owes, proved.
use Rattle.std.proofs.Common.{◌≡◌, ◌≤◌, length, sym, ap, ◌∙◌, arith}
use Rattle.std.proofs.lemmas.Option.{IfSome_then}
use Rattle.nz_base.specs.Cluster.{replica_count}
use Rattle.nz_audit.proofs.FirstView.{all_up}
use Rattle.nz_audit.proofs.prefixes.first_view.only_log.Goals as goal

pub returns-then-are_up_in_first_view : goal.returns-then-are_up_in_first_view
returns-then-are_up_in_first_view c = IfSome_then c.log_leading.result c.log_leading.ensures.log (λ log is g J same cores.
    let replicas = c.args.replicas.now in
    let count : replica_count g.f ≡ c.from.result = ap replica_count same ∙ sym c.n.ensures ∙ sym c.from.ensures in
    let given : replica_count g.f ≤ length replicas = (let enough = c.if-replicas-from.true in omega (arith, count, enough)) in
    record { up = all_up g J replicas cores given (sym c.are_up_in_first_view.ensures ∙ c.if-are_up_in_first_view.true); log = is g J cores })
