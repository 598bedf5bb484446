-- What the loops of the function of this folder keep.
use Rattle.std.proofs.Common.{◌≡◌, drop, true}
use Rattle.std.specs.Prelude.{IfSome}
use Rattle.std.specs.List.{filter}
use Rattle.std.specs.Option.{option_copied}
use Rattle.nz_machine.specs.rules.Quorums.{is_of_leader, first_of_least_view}
use Rattle.nz_quorum.specs.Tallies.{has_quorum, lead_of}
use Rattle.nz_quorum.proofs.Leads.{joined}
use Rattle.nz_quorum.proofs.quorum.lead.Given as goal

abbrev pub invariant-loop-reply : goal.invariant-loop-reply
invariant-loop-reply l = record {
  leads : IfSome l.best (λ r. is_of_leader l.fn.cluster r.now ≡ true);
  best : joined (option_copied l.best)
      (first_of_least_view (filter (has_quorum l.path l.fn.cluster l.replies) (drop l.reply-index l.replies))) ≡ lead_of l.path l.fn.cluster l.replies;
}
