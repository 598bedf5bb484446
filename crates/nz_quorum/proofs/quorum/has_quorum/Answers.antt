-- What the function of this folder owes, proved.
use Rattle.std.proofs.Common.{sym, ◌∙◌}
use Rattle.nz_quorum.proofs.Support.{count_supporters, quorum_counts, leader_below}
use Rattle.nz_machine.specs.rules.Quorums.{view_of}
use Rattle.nz_quorum.proofs.quorum.has_quorum.Goals as goal

pub returns-then-is_lead : goal.returns-then-is_lead
returns-then-is_lead c =
    let leads = sym c.is_lead.ensures ∙ c.if-is_lead.true in
    let counted =
    count_supporters c.args.path c.args.cluster c.args.replies.now c.args.lead.now c.supporters.result
    (leader_below c.args.cluster (view_of c.args.lead.now)) c.requires c.count.ensures.numbers c.supporters.ensures leads in
    rw (c.size_of.ensures, c.count.ensures.size, counted) (quorum_counts c.args.path c.args.cluster c.args.replies.now c.args.lead.now leads)
