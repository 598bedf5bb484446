-- What the function of this folder owes, proved.
use Rattle.std.proofs.Common.{◌≡◌, ◌∙◌, List, sym, ap, subst}
use Rattle.std.specs.Prelude.{MatchBool}
use Rattle.nz_machine.specs.declared.event.Parcel.{Parcel}
use Rattle.nz_machine.specs.runs.Schedule.{group_of}
use Rattle.nz_fabric.specs.declared.threads.batch.Batch.{Batch}
use Rattle.nz_fabric.specs.threads.Records.{steps_of}
use Rattle.nz_fabric.specs.threads.Shared.{IsGivenUp, with_record}
use Rattle.nz_fabric.specs.alone.States.{records_of}
use Rattle.nz_actor.specs.Actings.{Acting, sends_in}
use Rattle.nz_actor.proofs.Batches.{acting_after, played, sent}
use Rattle.nz_actor.proofs.state.ActorState.settle.Goals as goal

pub invariant_of-self-2 : goal.invariant_of-self-2
invariant_of-self-2 g c =
    let group = group_of g.N.RunName.scenario in
    let s = c.self.inside in
    let batch = c.args.batch in
    let es = c.as_slice.result.now in
    let are = c.as_slice.ensures ∙ ap (λ (b : Batch). b.events) c.batch.ensures in
    let there = c.self.invariant.there (ap (λ (a : Acting). a.ready) c.self.view_is ∙ c.requires.ready) in
    let sends =
    sent group s.lane (g.C.Core.meaning s.core) batch es c.in-Ok.sends.items are there.stands (c.in-Ok.ensures.sends group c.self.invariant.is_of) in
    acting_after group s.lane c.record-self-inside.new.lane (g.C.Core.meaning s.core) (g.C.Core.meaning c.step_all.new.core)
    (g.C.Core.live c.step_all.new.core) (g.C.Core.fits c.step_all.new.core group) c.args.fabric.now.run.tick batch es c.in-Ok.sends.items
    (s.lane ≡ steps_of batch.actor (records_of c.args.fabric.now.run)) c.record-self-inside.result
    (c.step_all.ensures.fits group c.self.invariant.is_of) c.in-Ok.ensures.live are there.stands (c.in-Ok.ensures.node group c.self.invariant.is_of) sends
    (c.requires.actor ∙ sym (ap (λ (a : Acting). a.own.actor) c.self.view_is)) c.record-self-inside.ensures.lane

pub returns-clause-recorded : goal.returns-clause-recorded
returns-clause-recorded g c =
    let group = group_of g.N.RunName.scenario in
    let s = c.self.inside in
    let batch = c.args.batch in
    let es = c.as_slice.result.now in
    let are = c.as_slice.ensures ∙ ap (λ (b : Batch). b.events) c.batch.ensures in
    let there = c.self.invariant.there (ap (λ (a : Acting). a.ready) c.self.view_is ∙ c.requires.ready) in
    let sends =
    sent group s.lane (g.C.Core.meaning s.core) batch es c.in-Ok.sends.items are there.stands (c.in-Ok.ensures.sends group c.self.invariant.is_of) in
    rw (← c.self.view_is)
    (played group s.lane c.record-self-inside.new.lane batch c.args.fabric.now.run.tick c.in-Ok.sends.items
    (s.lane ≡ steps_of batch.actor (records_of c.args.fabric.now.run)) c.record-self-inside.result s.ready sends c.record-self-inside.ensures.lane)

pub returns-clause-fabric : goal.returns-clause-fabric
returns-clause-fabric g c =
    let group = group_of g.N.RunName.scenario in
    let s = c.self.inside in
    let batch = c.args.batch in
    let es = c.as_slice.result.now in
    let are = c.as_slice.ensures ∙ ap (λ (b : Batch). b.events) c.batch.ensures in
    let there = c.self.invariant.there (ap (λ (a : Acting). a.ready) c.self.view_is ∙ c.requires.ready) in
    let sends =
    sent group s.lane (g.C.Core.meaning s.core) batch es c.in-Ok.sends.items are there.stands (c.in-Ok.ensures.sends group c.self.invariant.is_of) in
    subst (λ (sends : List (List Parcel)). MatchBool c.record-self-inside.result
    (c.record-self-inside.new.self ≡ with_record batch.number sends c.args.fabric.now)
    (IsGivenUp batch.number c.args.fabric.now c.record-self-inside.new.self))
    (sends ∙ ap (λ (a : Acting). sends_in group a.own batch) c.self.view_is) c.record-self-inside.ensures.recorded
