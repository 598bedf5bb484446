-- What the function of this folder owes, proved.
use Rattle.std.proofs.Common.{◌≡◌, ◌∙◌, sym, ap}
use Rattle.nz_machine.specs.runs.Schedule.{group_of}
use Rattle.nz_fabric.specs.declared.threads.batch.Batch.{Batch}
use Rattle.nz_fabric.specs.threads.Records.{steps_of}
use Rattle.nz_fabric.specs.alone.States.{records_of}
use Rattle.nz_actor.specs.Actings.{Acting}
use Rattle.nz_actor.proofs.Batches.{acting_after, played_some, sent}
use Rattle.nz_actor.proofs.state.ActorState.play.Goals as goal

pub invariant_of-self-2 : goal.invariant_of-self-2
invariant_of-self-2 g c =
    let group = group_of g.N.RunName.scenario in
    let s = c.self.inside in
    let batch = c.args.batch in
    let es = c.as_slice.result.now in
    let are = c.as_slice.ensures ∙ ap (λ (b : Batch). b.events) c.batch.ensures in
    let there = c.self.invariant.there (ap (λ (a : Acting). a.ready) c.self.view_is ∙ c.requires.ready) in
    let sends =
    sent group s.lane (g.C.Core.meaning s.core) batch es c.in-Ok.sends.items are there.stands (c.in-Ok.ensures.sends group c.self.invariant.is_of) in
    acting_after group s.lane c.record-self-inside.new.lane (g.C.Core.meaning s.core) (g.C.Core.meaning c.step_all.new.core)
    (g.C.Core.live c.step_all.new.core) (g.C.Core.fits c.step_all.new.core group) c.deref_mut-2.result.now.run.tick batch es c.in-Ok.sends.items
    (s.lane ≡ steps_of batch.actor (records_of c.deref_mut-2.result.now.run)) c.record-self-inside.result
    (c.step_all.ensures.fits group c.self.invariant.is_of) c.in-Ok.ensures.live are there.stands (c.in-Ok.ensures.node group c.self.invariant.is_of) sends
    (c.requires.actor ∙ sym (ap (λ (a : Acting). a.own.actor) c.self.view_is)) c.record-self-inside.ensures.lane

pub returns-clause-recorded : goal.returns-clause-recorded
returns-clause-recorded g c =
    let group = group_of g.N.RunName.scenario in
    let s = c.self.inside in
    let batch = c.args.batch in
    let es = c.as_slice.result.now in
    let are = c.as_slice.ensures ∙ ap (λ (b : Batch). b.events) c.batch.ensures in
    let there = c.self.invariant.there (ap (λ (a : Acting). a.ready) c.self.view_is ∙ c.requires.ready) in
    let sends =
    sent group s.lane (g.C.Core.meaning s.core) batch es c.in-Ok.sends.items are there.stands (c.in-Ok.ensures.sends group c.self.invariant.is_of) in
    rw (← c.self.view_is)
    (played_some group s.lane c.record-self-inside.new.lane batch c.deref_mut-2.result.now.run.tick c.in-Ok.sends.items
    (s.lane ≡ steps_of batch.actor (records_of c.deref_mut-2.result.now.run)) c.record-self-inside.result s.ready sends c.record-self-inside.ensures.lane)
