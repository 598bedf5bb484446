-- What the function of this folder owes, proved.
use Rattle.std.proofs.Common.{List, ◌∙◌, sym, ap, subst}
use Rattle.std.specs.Prelude.{Some}
use Rattle.nz_machine.specs.declared.event.Record.{Record}
use Rattle.nz_machine.specs.journals.Journals.{group_in}
use Rattle.nz_replica.specs.Models.{IsCore}
use Rattle.nz_replay.specs.Runs.{run_up_to}
use Rattle.nz_replay.proofs.Replays.{run_then}
use Rattle.nz_audit.proofs.prefixes.replays.replay_on.Goals as goal

pub loop-place-preserved : goal.loop-place-preserved
loop-place-preserved c =
    let g = group_in c.args.journal.now in
    let k = c.loop-place.place in
    subst (λ (J : List Record). IsCore g J c.args.number c.replay_one.new.core) (sym (run_then c.args.journal.now k c.as_record-in-loop-place.result.now (c.get.ensures ∙ ap Some (sym c.as_record-in-loop-place.ensures))))
    (c.in_ok-replay_one.ensures.core g (run_up_to c.args.journal.now k) c.loop-place.invariant)
