-- What the function of this folder owes, proved.
use Rattle.std.proofs.Common.{◌≡◌, ◌++◌, ◌∙◌, ℕ, List, length, sym, ap, subst, arith}
use Rattle.std.specs.Prelude.{reverse}
use Rattle.nz_base.specs.declared.actor.Actor.{Actor}
use Rattle.nz_machine.specs.declared.event.Record.{Record}
use Rattle.nz_machine.specs.runs.Schedule.{group_of}
use Rattle.nz_fabric.specs.declared.threads.batch.Batch.{Batch}
use Rattle.nz_fabric.specs.threads.Records.{AddsSome, steps_of}
use Rattle.nz_fabric.specs.threads.Shared.{Shared}
use Rattle.nz_fabric.specs.alone.States.{records_of}
use Rattle.nz_fabric.specs.threads.Steps.{batch_records, node_after, with_steps}
use Rattle.nz_fabric.proofs.one_thread.Held.{all_records}
use Rattle.nz_fabric.proofs.several_threads.Sharing.{booked_places, booked_recorded, booked_stopped, booked_given_up}
use Rattle.nz_fabric.proofs.threads.fabric_state.FabricState.record.Goals as goal

-- the batch that is recorded is the one that was given, and the lane is that of its actor
same_steps : (tick : ℕ) (taken b : Batch) (a : Actor) (sends : List _) → taken ≡ b → b.actor ≡ a
    → batch_records tick a taken.events sends ≡ batch_records tick b.actor b.events sends
same_steps tick taken b a sends same own =
    ap (λ (a : Actor). batch_records tick a taken.events sends) (sym own) ∙ ap (λ (x : Batch). batch_records tick b.actor x.events sends) same

pub invariant_of-self : goal.invariant_of-self
invariant_of-self g c = (
  c.self.invariant.0,
  rw (c.close-is_open.ensures.closed)
      (booked_given_up _ _ c.args.batch.number c.sub.new.self.total c.self.invariant.1 c.close-is_open.ensures.place
      (omega (arith, c.sub.ensures.total, c.audit.ensures.total))),
)

pub push_all-requires-clause-few : goal.push_all-requires-clause-few
push_all-requires-clause-few g c =
    let closed = c.close-is_open.ensures in
    let places = booked_places _ _ c.args.batch c.self.invariant.1 closed.place (closed.same.0 c.if-not-is_open.false) in
    omega (arith, places.1, ap (λ (b : Batch). length b.events) c.into_batch-events.ensures.batch)

pub push_all-requires-clause-room : goal.push_all-requires-clause-room
push_all-requires-clause-room g c =
    let closed = c.close-is_open.ensures in
    let places = booked_places _ _ c.args.batch c.self.invariant.1 closed.place (closed.same.0 c.if-not-is_open.false) in
    omega (arith, places.0, ap (λ (b : Batch). length b.events) c.into_batch-events.ensures.batch)

pub invariant_of-self-then-not-push_all : goal.invariant_of-self-then-not-push_all
invariant_of-self-then-not-push_all g c =
    let f = c.self.inside in
    let b = c.args.batch in
    let lane = c.args.lane.now in
    let G = group_of g.N.RunName.scenario in
    let closed = c.close-is_open.ensures in
    let steps = same_steps f.ticks.tick c.into_batch-events.result b lane.actor c.args.sends.items c.into_batch-events.ensures.batch c.requires.own in (
      c.self.invariant.0,
      rw (closed.closed)
          (booked_stopped G (node_after G lane) _ _ b c.sub.new.self.total c.push_all.new.self c.args.sends.items c.self.invariant.1 closed.place
          (closed.same.0 c.if-not-is_open.false) (omega (arith, c.sub.ensures.total, c.audit.ensures.total)) c.requires.sent c.push_all.ensures.room
          (subst (λ (steps : List Record). AddsSome steps f.records.records c.push_all.new.self.records) steps c.if-not-push_all.ensures.pushed.0)),
    )

pub invariant_of-self-else-not-push_all : goal.invariant_of-self-else-not-push_all
invariant_of-self-else-not-push_all g c =
    let f = c.self.inside in
    let b = c.args.batch in
    let lane = c.args.lane.now in
    let G = group_of g.N.RunName.scenario in
    let closed = c.close-is_open.ensures in
    let steps = same_steps f.ticks.tick c.into_batch-events.result b lane.actor c.args.sends.items c.into_batch-events.ensures.batch c.requires.own in (
      c.self.invariant.0,
      rw (closed.closed)
          (booked_recorded G (node_after G lane) _ _ b c.sub.new.self.total c.push_all.new.self c.args.sends.items c.self.invariant.1 closed.place
          (closed.same.0 c.if-not-is_open.false) (omega (arith, c.sub.ensures.total, c.audit.ensures.total)) c.requires.sent c.push_all.ensures.room
          (c.if-not-push_all.ensures.pushed.0 ∙ ap (λ (steps : List Record). f.records.records ++ steps) steps)),
    )

pub returns-clause-lane : goal.returns-clause-lane
returns-clause-lane g c =
    let f = c.self.inside in
    let rs = f.records.records in
    let b = c.args.batch in
    let lane = c.args.lane.now in
    let sends = c.args.sends.items in
    let pushed = c.if-not-push_all.ensures.pushed.1 in
    let all : reverse rs ≡ records_of c.args.self.now.run =
    sym (all_records f.before rs) ∙ ap (λ (f : Shared). records_of f.run) c.self.view_is in
    let steps = same_steps f.ticks.tick c.into_batch-events.result b lane.actor sends c.into_batch-events.ensures.batch c.requires.own
    ∙ ap (λ (f : Shared). batch_records f.run.tick b.actor b.events sends) c.self.view_is in (
      pushed.0 ∙ ap (λ (a : Actor). steps_of a (reverse rs)) (sym c.requires.own) ∙ ap (steps_of b.actor) all,
      pushed.1 ∙ ap (λ (steps : List Record). with_steps steps lane) steps,
    )
