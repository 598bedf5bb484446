-- What the function of this folder owes, proved.
use Rattle.std.proofs.Common.{◌≡◌, ◌∷◌, ◌++◌, [], ◌∙◌, ◌⊎◌, inl, inr, List, length, sym, ap, subst, arith, rules}
use Rattle.std.specs.Prelude.{reverse}
use Rattle.nz_base.specs.declared.actor.Actor.{Actor}
use Rattle.nz_machine.specs.declared.event.Event.{Event}
use Rattle.nz_machine.specs.declared.event.Record.{Record}
use Rattle.nz_machine.specs.runs.Schedule.{group_of}
use Rattle.nz_fabric.specs.threads.Records.{AddsSome, steps_of}
use Rattle.nz_fabric.specs.threads.Steps.{batch_records, with_steps}
use Rattle.nz_fabric.proofs.several_threads.Pushing.{Batched, ArePushed, pushed_start, pushed_at, pushed_sent, pushed_next, pushed_end, pushed_count}
use Rattle.nz_fabric.proofs.several_threads.Pushing.{pushed_whole, pushed_some}
use Rattle.nz_fabric.proofs.threads.records.Records.push_all.Goals as goal

pub loop-event-init : goal.loop-event-init
loop-event-init g c =
    let G = group_of g.N.RunName.scenario in
    let b : Batched = record { tick = c.args.tick; actor = c.actor-actor.result; events = c.args.events; sends = c.args.sends.items } in
    let own = c.args.lane.now in
    let records = c.args.self.now.records in
    let it = c.into_iter-event-iterator.result in
    let events : it.a.rest.items ≡ b.events =
    ap (λ z. z.a.rest.items) c.into_iter-event-iterator.ensures.into_iter_gives ∙ ap (λ i. i.rest.items) c.zip-event-items.ensures.first
    ∙ c.into_iter.ensures.rest ∙ c.into_vec.ensures in
    let sends : it.b.rest.items ≡ b.sends =
    ap (λ z. z.b.rest.items) c.into_iter-event-iterator.ensures.into_iter_gives ∙ c.zip-event-items.ensures.second.0 in
    let start = pushed_start G b own records (sym c.actor-actor.ensures) c.requires.sent in
    record {
      can_next = search rules;
      is_finite = search rules;
      room = search rules;
      pushed =
          subst (λ (es : List Event). ArePushed G b own own records records [] es it.b.rest.items) (sym events)
          (subst (ArePushed G b own own records records [] b.events) (sym sends) start);
    }

pub push-requires : goal.push-requires
push-requires g c =
    let G = group_of g.N.RunName.scenario in
    let b : Batched = record { tick = c.args.tick; actor = c.actor-actor.result; events = c.args.events; sends = c.args.sends.items } in
    let i = c.loop-event.invariant in
    let left = c.next.new.self in
    let room = i.room in
    let now =
    pushed_at G b c.args.lane.now c.loop-event.lane c.args.self.now.records c.loop-event.self.records c.loop-event.yielded
    c.in-Some.event c.loop-event.event-iterator.a.rest.items left.a.rest.items c.in-Some.sends c.loop-event.event-iterator.b.rest.items
    left.b.rest.items i.pushed c.in-Some.ensures.steps.0.0 c.in-Some.ensures.steps.1.0 in
    let count =
    pushed_count G b c.args.lane.now c.loop-event.lane c.args.self.now.records c.loop-event.self.records c.loop-event.yielded
    (c.in-Some.event ∷ left.a.rest.items) (c.in-Some.sends ∷ left.b.rest.items) now in
    record {
      few = omega (arith, count, c.requires.few);
      room = omega (arith, count, c.requires.room, room);
      own = sym i.pushed.actor;
      sent =
          pushed_sent G b c.args.lane.now c.loop-event.lane c.args.self.now.records c.loop-event.self.records c.loop-event.yielded
          c.in-Some.event left.a.rest.items c.in-Some.sends left.b.rest.items now;
    }

pub returns-then-not-push : goal.returns-then-not-push
returns-then-not-push g c =
    let G = group_of g.N.RunName.scenario in
    let b : Batched = record { tick = c.args.tick; actor = c.actor-actor.result; events = c.args.events; sends = c.args.sends.items } in
    let i = c.loop-event.invariant in
    let same = c.if-not-push.ensures.pushed in
    let some =
    pushed_some G b c.args.lane.now c.loop-event.lane c.args.self.now.records c.loop-event.self.records c.push.new.self.records
    c.loop-event.yielded c.loop-event.event-iterator.a.rest.items c.loop-event.event-iterator.b.rest.items i.pushed same.0 in
    record {
      room = c.if-not-push.ensures.room ∙ i.room;
      pushed = (
        subst (λ (a : Actor). AddsSome (batch_records c.args.tick a c.args.events c.args.sends.items) c.args.self.now.records c.push.new.self.records)
            c.actor-actor.ensures some,
        ap (λ x. x.actor) same.1 ∙ i.pushed.actor ∙ c.actor-actor.ensures,
      );
    }

pub loop-event-preserved : goal.loop-event-preserved
loop-event-preserved g c =
    let G = group_of g.N.RunName.scenario in
    let b : Batched = record { tick = c.args.tick; actor = c.actor-actor.result; events = c.args.events; sends = c.args.sends.items } in
    let i = c.loop-event.invariant in
    let left = c.next.new.self in
    let pushed = c.if-not-push.ensures.pushed in
    let now =
    pushed_at G b c.args.lane.now c.loop-event.lane c.args.self.now.records c.loop-event.self.records c.loop-event.yielded
    c.in-Some.event c.loop-event.event-iterator.a.rest.items left.a.rest.items c.in-Some.sends c.loop-event.event-iterator.b.rest.items
    left.b.rest.items i.pushed c.in-Some.ensures.steps.0.0 c.in-Some.ensures.steps.1.0 in
    record {
      can_next = search rules;
      is_finite = search rules;
      room = c.if-not-push.ensures.room ∙ i.room;
      pushed =
          pushed_next G b c.args.lane.now c.loop-event.lane c.push.new.lane c.args.self.now.records c.loop-event.self.records c.push.new.self.records
          c.loop-event.yielded c.in-Some.event left.a.rest.items c.in-Some.sends left.b.rest.items now pushed.0 pushed.1.0 pushed.1.1;
    }

pub returns : goal.returns
returns g c =
    let G = group_of g.N.RunName.scenario in
    let a = c.actor-actor.result in
    let b : Batched = record { tick = c.args.tick; actor = a; events = c.args.events; sends = c.args.sends.items } in
    let i = c.loop-event.invariant in
    let h = i.pushed in
    let own = c.args.lane.now in
    let records = c.args.self.now.records in
    let es = c.loop-event.event-iterator.a.rest.items in
    let ss = c.loop-event.event-iterator.b.rest.items in
    let none : (length es ≡ 0) ⊎ (length ss ≡ 0) =
    elim c.in-None.ensures.steps [ inl w ↦ inl (omega (arith, w.1)) | inr w ↦ inr (omega (arith, w.1)) ] in
    let over : es ≡ [] = pushed_end G b own c.loop-event.lane records c.loop-event.self.records c.loop-event.yielded es ss h none in
    let whole : _ ≡ batch_records c.args.tick a c.args.events c.args.sends.items =
    pushed_whole G b own c.loop-event.lane records c.loop-event.self.records c.loop-event.yielded es ss h over in
    let same : _ ≡ batch_records c.args.tick own.actor c.args.events c.args.sends.items =
    whole ∙ ap (λ (a : Actor). batch_records c.args.tick a c.args.events c.args.sends.items) c.actor-actor.ensures in
    let long = h.long in
    let some = c.requires.some in
    record {
      room = i.room;
      pushed = (
        h.added ∙ ap (λ (rs : List Record). records ++ rs) same,
        (
          h.known (omega (arith, long, some, ap length over)) ∙ ap (λ (a : Actor). steps_of a (reverse records)) c.actor-actor.ensures,
          h.steps ∙ ap (λ (rs : List Record). with_steps rs own) same,
        ),
      );
    }
