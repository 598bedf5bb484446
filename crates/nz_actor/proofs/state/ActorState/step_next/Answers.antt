-- What the function of this folder owes, proved.
use Rattle.std.proofs.Common.{◌≡◌, ◌∙◌, List, sym, ap, subst}
use Rattle.std.specs.Prelude.{MatchBool}
use Rattle.nz_machine.specs.declared.event.Parcel.{Parcel}
use Rattle.nz_machine.specs.declared.journal.Item.{Item}
use Rattle.nz_machine.specs.runs.Schedule.{group_of}
use Rattle.nz_fabric.specs.threads.Records.{steps_of}
use Rattle.nz_fabric.specs.threads.Shared.{next_item, with_next, with_stop}
use Rattle.nz_fabric.specs.alone.States.{records_of}
use Rattle.nz_fabric.specs.threads.Steps.{sends_after}
use Rattle.nz_actor.specs.Actings.{Acting}
use Rattle.nz_actor.proofs.Batches.{acting_next, sent_once, stepped}
use Rattle.nz_actor.proofs.state.ActorState.step_next.Goals as goal

pub invariant_of-self-2 : goal.invariant_of-self-2
invariant_of-self-2 g c =
    let group = group_of g.N.RunName.scenario in
    let s = c.self.inside in
    let f = c.args.fabric.now in
    let there = c.self.invariant.there (ap (λ (a : Acting). a.ready) c.self.view_is ∙ c.requires.ready) in
    acting_next group s.lane c.record_next-self-inside.new.lane (g.C.Core.meaning s.core) (g.C.Core.meaning c.step.new.self)
    (g.C.Core.live c.step.new.self) (g.C.Core.fits c.step.new.self group) c.in-Some.item.now.event c.in-Ok.sends f
    (s.lane ≡ steps_of s.lane.actor (records_of f.run)) c.record_next-self-inside.result (c.step.ensures.fits group c.self.invariant.is_of) c.in-Ok.ensures.live
    (ap (λ (i : Item). i.event) c.in-Some.ensures.1) there.stands (c.in-Ok.ensures.step group c.self.invariant.is_of)
    (c.requires.actor ∙ sym (ap (λ (a : Acting). a.own.actor) c.self.view_is)) c.record_next-self-inside.ensures.lane

pub returns-clause-recorded : goal.returns-clause-recorded
returns-clause-recorded g c =
    let group = group_of g.N.RunName.scenario in
    let s = c.self.inside in
    let f = c.args.fabric.now in
    let there = c.self.invariant.there (ap (λ (a : Acting). a.ready) c.self.view_is ∙ c.requires.ready) in
    let sent = sent_once group s.lane (g.C.Core.meaning s.core) (g.C.Core.meaning c.step.new.self) c.in-Some.item.now.event (next_item f).event c.in-Ok.sends
    (ap (λ (i : Item). i.event) c.in-Some.ensures.1) there.stands (c.in-Ok.ensures.step group c.self.invariant.is_of) in
    rw (← c.self.view_is)
    (stepped group s.lane c.record_next-self-inside.new.lane f c.in-Ok.sends (s.lane ≡ steps_of s.lane.actor (records_of f.run))
    c.record_next-self-inside.result s.ready sent c.record_next-self-inside.ensures.lane)

pub returns-clause-fabric : goal.returns-clause-fabric
returns-clause-fabric g c =
    let group = group_of g.N.RunName.scenario in
    let s = c.self.inside in
    let f = c.args.fabric.now in
    let there = c.self.invariant.there (ap (λ (a : Acting). a.ready) c.self.view_is ∙ c.requires.ready) in
    let sent = sent_once group s.lane (g.C.Core.meaning s.core) (g.C.Core.meaning c.step.new.self) c.in-Some.item.now.event (next_item f).event c.in-Ok.sends
    (ap (λ (i : Item). i.event) c.in-Some.ensures.1) there.stands (c.in-Ok.ensures.step group c.self.invariant.is_of) in
    subst (λ (sends : List Parcel). MatchBool c.record_next-self-inside.result
    (c.record_next-self-inside.new.self ≡ with_next sends f) (c.record_next-self-inside.new.self ≡ with_stop f))
    (sent ∙ ap (λ (a : Acting). sends_after group a.own (next_item f).event) c.self.view_is) c.record_next-self-inside.ensures.recorded
