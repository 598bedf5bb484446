-- What the function of this folder owes, proved.
use Rattle.std.proofs.Common.{◌≡◌, ◌==◌, true, false, ap, sym, subst, ◌∙◌}
use Rattle.nz_base.specs.Actor.{actor_eq}
use Rattle.nz_base.specs.declared.actor.Actor.TheVariants.{Replica}
use Rattle.nz_machine.specs.rules.LogMods.{log_mod_to}
use Rattle.nz_sync.specs.Broadcasts.{IsWritten}
use Rattle.nz_sync.proofs.Broadcasts.{other_sent, self_left_out}
use Rattle.nz_sync.proofs.broadcast.send_to_others.Goals as goal
use Rattle.nz_sync.proofs.broadcast.send_to_others.Goals.{then-not-is+in_ok-send_log_mod, else-not-is}

pub loop-replica-preserved : goal.loop-replica-preserved
loop-replica-preserved c =
    let s = c.args.state.now in
    let r = c.loop-replica.replica in
    elim c.if-not-is.branch [
      | then-not-is+in_ok-send_log_mod w ↦
          let other : (r == s.me) ≡ false = ap (actor_eq (Replica r)) (sym c.actor.ensures.actor) ∙ sym c.is.ensures.value ∙ w.if-not-is.true in
          record {
            sent = w.sends-is ∙ other_sent s.me r (log_mod_to s.state) _ _ _ other c.loop-replica.invariant.sent w.in_ok-send_log_mod.ensures.sent;
            written = subst (IsWritten s.state) (sym w.written-is) w.in_ok-send_log_mod.ensures.written;
          }
      | else-not-is w ↦
          let self : (r == s.me) ≡ true = ap (actor_eq (Replica r)) (sym c.actor.ensures.actor) ∙ sym c.is.ensures.value ∙ w.if-not-is.false in
          record {
            sent = self_left_out s.me r (log_mod_to s.state) _ _ _ self c.loop-replica.invariant.sent w.sends-is;
            written = subst (IsWritten s.state) (sym w.written-is) c.loop-replica.invariant.written;
          }
    ]
