-- What the function of this folder owes, proved.
use Rattle.std.proofs.Common.{ℕ, List, [], ◌∷◌, ◌++◌, ap, ◌∙◌}
use Rattle.std.proofs.lemmas.Result.{on_ok_weaker}
use Rattle.nz_base.specs.declared.actor.Actor.{Actor}
use Rattle.nz_base.specs.declared.actor.Actor.TheVariants.{Replica}
use Rattle.nz_msg.specs.declared.message.Message.{Message}
use Rattle.nz_msg.specs.declared.message.Message.TheVariants.{LogMod}
use Rattle.nz_machine.specs.declared.event.Parcel.{Parcel}
use Rattle.nz_machine.specs.rules.LogMods.{log_mod_from}
use Rattle.nz_machine.specs.rules.Step.{parcel}
use Rattle.nz_sync.proofs.broadcast.send_log_mod.Goals as goal

pub returns-clause-sent : goal.returns-clause-sent
returns-clause-sent c =
    let s = c.args.state.now in
    let r = c.args.replica in
    let place = c.in_ok-move_to.ensures.start ∙ c.ack_of.ensures in
    let message = c.in_ok-move_to.ensures.written.message ∙ ap (λ (n : ℕ). LogMod (log_mod_from s.state n)) place in
    on_ok_weaker c.send_written.result
    (λ done. done ∙ ap (λ (xs : List Parcel). xs ++ parcel c.actor.result (Replica r, c.move_to.new.written.message) ∷ []) c.move_to.ensures.same
    ∙ ap (λ (a : Actor). c.args.sends.now ++ parcel a (Replica r, c.move_to.new.written.message) ∷ []) c.actor.ensures.actor
    ∙ ap (λ (m : Message). c.args.sends.now ++ parcel (Replica s.me) (Replica r, m) ∷ []) message)
    c.send_written.ensures
