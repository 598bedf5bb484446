-- One batch more of an actor.
use Rattle.std.proofs.Common.{◌≡◌, ℕ, ◌+◌, ◌<◌, Bool, true, false, List, [], ◌∷◌, ◌++◌, length, get_or, take, refl, sym, ap, subst, ◌∙◌}
use Rattle.std.proofs.lemmas.List.{take_more}
use Rattle.std.specs.Prelude.{MatchBool}
use Rattle.nz_base.specs.declared.actor.Actor.{Actor}
use Rattle.nz_machine.specs.declared.event.Event.{Event}
use Rattle.nz_machine.specs.declared.event.Parcel.{Parcel}
use Rattle.nz_machine.specs.declared.event.Record.{Record}
use Rattle.nz_machine.specs.rules.State.{Group}
use Rattle.nz_machine.specs.rules.Step.{Node, first_node, node_run}
use Rattle.nz_machine.specs.runs.World.{state_after}
use Rattle.nz_fabric.specs.declared.threads.batch.Batch.{Batch}
use Rattle.nz_fabric.specs.threads.Records.{ActorSteps, with_step}
use Rattle.nz_fabric.specs.threads.Shared.{Shared, next_item, next_record}
use Rattle.nz_fabric.specs.threads.Steps.{batch_records, node_after, node_from, sends_after, sends_from, with_steps}
use Rattle.nz_fabric.proofs.several_threads.Pushing.{length-sends_from, node_with_step}
use Rattle.nz_actor.specs.Actings.{Acting, IsActing, IsStopped, sends_in, with_batch, with_item}

-- ---- the start

-- before its first record the actor is as at the start
node_first : (g : Group) (a : Actor) → first_node g a ≡ node_after g (record { actor = a; steps = [] })
unfolding state_after
node_first g a = refl

pub acting_first : (g : Group) (meaning : Node) (live : Bool) (fits : Type 0) (own : ActorSteps) → fits
    → meaning ≡ first_node g meaning.actor → live ≡ true → own ≡ record { actor = meaning.actor; steps = [] }
    → IsActing g meaning live fits (record { own = own; ready = true })
acting_first g meaning live fits own is_of first lives none = record {
  is_of = is_of;
  there = λ _. record { lives = lives; stands = first ∙ node_first g meaning.actor ∙ ap (node_after g) (sym none) };
}

-- ---- one event more

node_from_more : (g : Group) (n : Node) (es : List Event) (e : Event) → node_from g n (es ++ e ∷ []) ≡ (node_run g (node_from g n es) e).0
node_from_more g n [] e = refl
node_from_more g n (x ∷ es) e = node_from_more g (node_run g n x).0 es e

sends_from_more : (g : Group) (n : Node) (es : List Event) (e : Event)
    → sends_from g n (es ++ e ∷ []) ≡ sends_from g n es ++ (node_run g (node_from g n es) e).1 ∷ []
sends_from_more g n [] e = refl
sends_from_more g n (x ∷ es) e = ap (λ (ss : List (List Parcel)). (node_run g n x).1 ∷ ss) (sends_from_more g (node_run g n x).0 es e)

-- the node after the first events and one more
pub node_at_next : (g : Group) (n now new : Node) (es : List Event) (i : ℕ) (e : Event) (sends : List Parcel) → i < length es → get_or es i e ≡ e
    → now ≡ node_from g n (take i es) → node_run g now e ≡ (new, sends) → new ≡ node_from g n (take (i + 1) es)
node_at_next g n now new es i e sends lt is so_far step =
    sym (ap (λ (t : Node × List Parcel). t.0) step) ∙ ap (λ (m : Node). (node_run g m e).0) so_far ∙ sym (node_from_more g n (take i es) e)
    ∙ ap (λ (x : Event). node_from g n (take i es ++ x ∷ [])) (sym is) ∙ ap (node_from g n) (sym (take_more es i e lt))

-- what was sent on the first events and on one more
pub sends_at_next : (g : Group) (n now new : Node) (es : List Event) (i : ℕ) (e : Event) (sends : List Parcel) (all next : List (List Parcel))
    → i < length es → get_or es i e ≡ e → now ≡ node_from g n (take i es) → all ≡ sends_from g n (take i es) → node_run g now e ≡ (new, sends)
    → next ≡ all ++ sends ∷ [] → next ≡ sends_from g n (take (i + 1) es)
sends_at_next g n now new es i e sends all next lt is so_far sent step pushed =
    pushed ∙ ap (λ (ss : List (List Parcel)). ss ++ sends ∷ []) sent
    ∙ ap (λ (s : List Parcel). sends_from g n (take i es) ++ s ∷ [])
    (sym (ap (λ (t : Node × List Parcel). t.1) step) ∙ ap (λ (m : Node). (node_run g m e).1) so_far)
    ∙ sym (sends_from_more g n (take i es) e) ∙ ap (λ (x : Event). sends_from g n (take i es ++ x ∷ [])) (sym is)
    ∙ ap (sends_from g n) (sym (take_more es i e lt))

-- ---- the records of a batch

-- the records of a batch lead the actor to where its events do
node_with_steps : (g : Group) (own : ActorSteps) (tick : ℕ) (a : Actor) (es : List Event) (sends : List (List Parcel)) → a ≡ own.actor
    → length sends ≡ length es → node_after g (with_steps (batch_records tick a es sends) own) ≡ node_from g (node_after g own) es
node_with_steps g own tick a [] sends same len = refl
node_with_steps g own tick a (e ∷ es) [] same len = cc
node_with_steps g own tick a (e ∷ es) (s ∷ ss) same len =
    let r : Record = record { tick = tick; actor = a; event = e; sends = s } in
    node_with_steps g (with_step r own) tick a es ss same (cc) ∙ ap (λ (n : Node). node_from g n es) (node_with_step g own r same)

-- ---- a batch

-- what the core sends is what the actor sends after its records
pub sent : (g : Group) (own : ActorSteps) (meaning : Node) (batch : Batch) (es : List Event) (sends : List (List Parcel)) → es ≡ batch.events
    → meaning ≡ node_after g own → sends ≡ sends_from g meaning es → sends ≡ sends_in g own batch
sent g own meaning batch es sends are stands e = e ∙ ap (λ (n : Node). sends_from g n es) stands ∙ ap (sends_from g (node_after g own)) are

-- the core is there after the batch, where this was recorded
pub acting_after : (g : Group) (own now : ActorSteps) (old new : Node) (live : Bool) (fits : Type 0) (tick : ℕ) (batch : Batch) (es : List Event)
    (sends : List (List Parcel)) (known : Type 0) (recorded : Bool) → fits → live ≡ true → es ≡ batch.events → old ≡ node_after g own
    → new ≡ node_from g old es → sends ≡ sends_in g own batch → batch.actor ≡ own.actor
    → MatchBool recorded (known × (now ≡ with_steps (batch_records tick batch.actor batch.events sends) own)) (now.actor ≡ own.actor)
    → IsActing g new live fits (record { own = now; ready = recorded })
acting_after g own now old new live fits tick batch es sends known recorded is_of lives are stands node sent same lane =
    let long = ap length sent ∙ length-sends_from g (node_after g own) batch.events in
    record {
      is_of = is_of;
      there = λ is. record {
        lives = lives;
        stands =
            node ∙ ap (λ (n : Node). node_from g n es) stands ∙ ap (node_from g (node_after g own)) are
            ∙ sym (node_with_steps g own tick batch.actor batch.events sends same long)
            ∙ ap (node_after g) (sym (subst (λ (b : Bool). MatchBool b
            (known × (now ≡ with_steps (batch_records tick batch.actor batch.events sends) own)) (now.actor ≡ own.actor)) is lane).1);
      };
    }

-- the actor after a batch, where it was recorded and where it was not
pub played : (g : Group) (own now : ActorSteps) (batch : Batch) (tick : ℕ) (sends : List (List Parcel)) (known : Type 0) (recorded before : Bool)
    → sends ≡ sends_in g own batch
    → MatchBool recorded (known × (now ≡ with_steps (batch_records tick batch.actor batch.events sends) own)) (now.actor ≡ own.actor)
    → MatchBool recorded
    (known × (let s : Acting = record { own = now; ready = recorded } in s ≡ with_batch g tick batch (record { own = own; ready = before })))
    (IsStopped (record { own = own; ready = before }) (record { own = now; ready = recorded }))
played g own now batch tick sends known true before sent lane = (
  lane.0,
  ap (λ (o : ActorSteps). let s : Acting = record { own = o; ready = true } in s)
      (lane.1 ∙ ap (λ (sends : List (List Parcel)). with_steps (batch_records tick batch.actor batch.events sends) own) sent),
)
played g own now batch tick sends known false before sent lane = record { stopped = refl; actor = lane }

-- the same, in some tick
pub played_some : (g : Group) (own now : ActorSteps) (batch : Batch) (tick : ℕ) (sends : List (List Parcel)) (known : Type 0) (recorded before : Bool)
    → sends ≡ sends_in g own batch
    → MatchBool recorded (known × (now ≡ with_steps (batch_records tick batch.actor batch.events sends) own)) (now.actor ≡ own.actor)
    → MatchBool recorded
    ((tick : ℕ) × (let s : Acting = record { own = now; ready = recorded } in s ≡ with_batch g tick batch (record { own = own; ready = before })))
    (IsStopped (record { own = own; ready = before }) (record { own = now; ready = recorded }))
played_some g own now batch tick sends known true before sent lane = (tick, (played g own now batch tick sends known true before sent lane).1)
played_some g own now batch tick sends known false before sent lane = played g own now batch tick sends known false before sent lane

-- ---- one item

-- what the core sends on an event is what the actor sends after its records
pub sent_once : (g : Group) (own : ActorSteps) (old new : Node) (i e : Event) (sends : List Parcel) → i ≡ e → old ≡ node_after g own
    → node_run g old i ≡ (new, sends) → sends ≡ sends_after g own e
sent_once g own old new i e sends same stands step =
    sym (ap (λ (t : Node × List Parcel). t.1) step) ∙ ap (λ (n : Node). (node_run g n i).1) stands ∙ ap (sends_after g own) same

-- the core is there after the item, where this was recorded
pub acting_next : (g : Group) (own now : ActorSteps) (old new : Node) (live : Bool) (fits : Type 0) (i : Event) (sends : List Parcel) (f : Shared)
    (known : Type 0) (recorded : Bool) → fits → live ≡ true → i ≡ (next_item f).event → old ≡ node_after g own → node_run g old i ≡ (new, sends)
    → (next_item f).actor ≡ own.actor → MatchBool recorded (known × (now ≡ with_step (next_record sends f) own)) (now ≡ own)
    → IsActing g new live fits (record { own = now; ready = recorded })
acting_next g own now old new live fits i sends f known recorded is_of lives same stands step actor lane = record {
  is_of = is_of;
  there = λ is. record {
    lives = lives;
    stands =
        sym (ap (λ (t : Node × List Parcel). t.0) step) ∙ ap (λ (n : Node). (node_run g n i).0) stands
        ∙ ap (λ (e : Event). (node_run g (node_after g own) e).0) same ∙ sym (node_with_step g own (next_record sends f) actor)
        ∙ ap (node_after g) (sym (subst (λ (b : Bool). MatchBool b (known × (now ≡ with_step (next_record sends f) own)) (now ≡ own)) is lane).1);
  };
}

-- the actor after the item, where it was recorded and where it was not
pub stepped : (g : Group) (own now : ActorSteps) (f : Shared) (sends : List Parcel) (known : Type 0) (recorded before : Bool)
    → sends ≡ sends_after g own (next_item f).event → MatchBool recorded (known × (now ≡ with_step (next_record sends f) own)) (now ≡ own)
    → MatchBool recorded
    (known × (let s : Acting = record { own = now; ready = recorded } in s ≡ with_item g f (record { own = own; ready = before })))
    (let s : Acting = record { own = now; ready = recorded } in s ≡ record { own = own; ready = false })
stepped g own now f sends known true before sent lane = (
  lane.0,
  ap (λ (o : ActorSteps). let s : Acting = record { own = o; ready = true } in s)
      (lane.1 ∙ ap (λ (sends : List Parcel). with_step (next_record sends f) own) sent),
)
stepped g own now f sends known false before sent lane = ap (λ (o : ActorSteps). let s : Acting = record { own = o; ready = false } in s) lane
