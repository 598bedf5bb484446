-- What the function of this folder owes, proved.
use Rattle.std.proofs.Common.{◌≡◌, Bool, true, sym, ap, subst, ◌∙◌}
use Rattle.nz_machine.specs.rules.Facts.{ReplicaModel}
use Rattle.nz_machine.specs.rules.Replicas.{is_normal, leads}
use Rattle.nz_machine.specs.rules.Releases.{log_with_entry, results_with_entry, first_may}
use Rattle.nz_machine.proofs.facts.StateInvariant.{first_may_stand, room_left, kept_release, kept_crashed}
use Rattle.nz_machine.proofs.state.ReplicaState.release.Goals as goal

pub take_in-requires-clause-above : goal.take_in-requires-clause-above
take_in-requires-clause-above c = (first_may_stand _ _ _ _ c.in-Some.entry c.take_due.new.self c.self.invariant c.in-Some.ensures.rest).above

pub take_in-requires-clause-fresh : goal.take_in-requires-clause-fresh
take_in-requires-clause-fresh c = (first_may_stand _ _ _ _ c.in-Some.entry c.take_due.new.self c.self.invariant c.in-Some.ensures.rest).fresh

pub invariant_of-self : goal.invariant_of-self
invariant_of-self c =
    let entry = c.in-Some.entry in
    let first = subst (λ (v : ReplicaModel). first_may v.state v.state.early ≡ true) (sym c.self.view_is) c.requires.first in
    let normal = subst (λ (v : ReplicaModel). is_normal v.state.status ≡ true) (sym c.self.view_is) c.requires.normal in
    let leading = subst (λ (v : ReplicaModel). c.leads-leads.result ≡ leads v.f v.me v.state) (sym c.self.view_is) c.leads-leads.ensures in
    kept_release _ _ _ _ entry c.take_due.new.self _ _ _ c.self.invariant normal c.in-Some.ensures.rest
    (room_left _ _ _ _ entry c.take_due.new.self c.self.invariant c.in-Some.ensures.rest first)
    (c.in-Ok.ensures.log ∙ ap (λ (b : Bool). log_with_entry b c.self.inside.parts.held.log entry) leading)
    (c.in-Ok.ensures.results ∙ ap (λ (b : Bool). results_with_entry b c.self.inside.parts.results.items c.self.inside.parts.held.log.entries entry) leading)
    (λ normal lead. c.in-Ok.ensures.store (leading ∙ lead))

pub invariant_of-self-in-Err : goal.invariant_of-self-in-Err
invariant_of-self-in-Err c = kept_crashed _ _ _ _ c.self.invariant.member c.forget.ensures
