-- What the function of this folder owes, proved.
use Rattle.std.proofs.Common.{sym, ◌∙◌, arith}
use Rattle.std.proofs.lemmas.Result.{IfOk-weaker}
use Rattle.nz_machine.specs.journals.Journals.{group_in}
use Rattle.nz_observe.proofs.Follows.{first_core, committed_then}
use Rattle.nz_observe.proofs.committing.committed.Goals as goal

pub follow_to-requires-clause-core : goal.follow_to-requires-clause-core
follow_to-requires-clause-core c = first_core (group_in c.args.journal.now) c.args.number c.in_ok-replica.replica c.in_ok-replica.ensures

pub returns : goal.returns
returns c = IfOk-weaker c.committed_by.result _ _ (λ entries is. is ∙ sym (committed_then c.args.journal.now c.args.number c.args.tick
    c.in_ok-follow_to.field-0 c.follow_to.new.replica (omega arith) c.in_ok-follow_to.ensures.end c.in_ok-follow_to.ensures.core)) c.committed_by.ensures
