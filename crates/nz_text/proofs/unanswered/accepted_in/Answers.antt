-- What the function of this folder owes, proved.
use Rattle.std.proofs.Common.{ap, ◌∙◌}
use Rattle.std.specs.HashSet.{contains}
use Rattle.nz_base.specs.Key.{id_eq}
use Rattle.nz_text.specs.Text.{accepts_it}
use Rattle.nz_text.proofs.Opens.{accepted_more, others_more}
use Rattle.nz_text.proofs.unanswered.accepted_in.Goals as goal
use Rattle.nz_text.proofs.unanswered.accepted_in.Goals.{in-Accepted+in_ok-insert, in_default}

pub loop-next-preserved : goal.loop-next-preserved
loop-next-preserved c = λ id. elim c.match-next.branch [
  | in-Accepted+in_ok-insert w ↦
      accepted_more c.args.events.now c.loop-next.next-index c.next-item.result w.in-Accepted.id id
      w.in-Accepted.answer w.in-Accepted.path (contains id_eq c.loop-next.accepted id) (contains id_eq c.match-next.accepted id)
      c.loop-next-test.true c.next-item.is w.in-Accepted.is (c.loop-next.invariant id)
      (ap (λ s. contains id_eq s id) w.accepted-is ∙ w.in_ok-insert.ensures.updates.0 id)
  | in_default w ↦
      ap (λ s. contains id_eq s id) w.accepted-is
      ∙ others_more c.args.events.now c.loop-next.next-index c.next-item.result id
      (contains id_eq c.loop-next.accepted id) c.loop-next-test.true c.next-item.is
      (ap (accepts_it id) w.in_default.is) (c.loop-next.invariant id)
]
