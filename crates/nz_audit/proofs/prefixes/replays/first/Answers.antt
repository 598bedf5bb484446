-- What the function of this folder owes, proved.
use Rattle.std.proofs.Common.{[], sym, subst}
use Rattle.nz_machine.specs.journals.Journals.{group_in}
use Rattle.nz_replica.specs.Models.{ReplicaCore, IsCore}
use Rattle.nz_replay.proofs.Replays.{core_first}
use Rattle.nz_audit.proofs.prefixes.replays.first.Goals as goal

pub returns-clause-core : goal.returns-clause-core
returns-clause-core c =
    let g = group_in c.args.journal.now in
    subst (λ (x : ReplicaCore). IsCore g [] c.args.replica x) (sym c.in_ok-new.ensures) (core_first g c.args.replica)
