-- What the function of this folder owes, proved.
use Rattle.std.proofs.Common.{eqb, eqb-true, sym, ap, subst, ◌∙◌}
use Rattle.std.proofs.lemmas.Bool.{and_parts}
use Rattle.nz_log.specs.Synced.{Log}
use Rattle.nz_machine.specs.rules.Replicas.{leads_view}
use Rattle.nz_replica.specs.Models.{IsCore}
use Rattle.nz_audit.proofs.LedPrefixes.{core_at, log_leads}
use Rattle.nz_audit.proofs.prefixes.leaders.log_leading.Goals as goal

pub returns-then-is_leader_in-clause-log : goal.returns-then-is_leader_in-clause-log
returns-then-is_leader_in-clause-log c = λ g J all.
    let core = c.in_ok-replica.replica.now in
    let s = core.model.state in
    let at = c.in_ok-replica.ensures.lookup in
    let h : IsCore g J c.args.number core = subst (λ n. IsCore g J n core) c.from.ensures (core_at g J c.args.replicas.now c.from.result core all at.3.0 at.1) in
    let both = and_parts (leads_view core.f core.model.me s) (eqb s.view c.args.view) (sym (c.is_leader_in.ensures h.live) ∙ c.if-is_leader_in.true) in
    ap (λ (l : Log). l.entries) c.log.ensures
    ∙ log_leads g J c.args.number c.args.view core h both.0 (eqb-true s.view c.args.view both.1)
