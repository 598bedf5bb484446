-- What the nodes of a deployment do is a run of the machine, and each run of the machine is such a deployment.
use Rattle.std.proofs.Common.{◌≡◌, ℕ, cond, List, [], ◌∷◌, refl, sym, ap, subst, ◌∙◌}
use Rattle.std.specs.List.{AllByRecursion}
use Rattle.std.proofs.lemmas.Bool.{cond_both}
use Rattle.nz_base.specs.Actor.{actor_eq}
use Rattle.nz_base.specs.declared.actor.Actor.{Actor}
use Rattle.nz_base.proofs.Names.{actor_eq_self, same_actor}
use Rattle.nz_machine.specs.declared.event.Event.{Event}
use Rattle.nz_machine.specs.declared.event.Event.TheVariants.{Deliver, Cut, Tick, Alarm, Crash, Restart}
use Rattle.nz_machine.specs.declared.event.Record.{Record}
use Rattle.nz_machine.specs.rules.State.{State, Group}
use Rattle.nz_machine.specs.rules.Step.{node_step}
use Rattle.nz_machine.specs.runs.Steps.{of_actor}
use Rattle.nz_machine.specs.runs.World.{state_after, Restarts, MayHappen, World}
use Rattle.nz_machine.specs.runs.Deployments.{IsItem, IsStepOf, IsLane, WasSentTo, IsDeployment}
use Rattle.nz_machine.proofs.runs.OwnStates.{own_state}

-- ---- one record

-- no earlier record restarts the actor with the nonce of this event
abbrev IsNewIn : List Record → Actor → Event → Type 0
IsNewIn J a e = (nonce : ℕ) → e ≡ Restart nonce → AllByRecursion (λ (r : Record). ¬ Restarts a nonce r) J

may_happen : (J : List Record) (a : Actor) (e : Event) → IsItem e → WasSentTo J a e → IsNewIn J a e → MayHappen J a e
may_happen J a (Deliver p) item sent fresh = sent
may_happen J a (Cut kept p) item sent fresh = sent
may_happen J a (Tick clock) item sent fresh = item
may_happen J a Alarm item sent fresh = tt
may_happen J a Crash item sent fresh = tt
may_happen J a (Restart nonce) item sent fresh = (item, fresh nonce refl)

is_item : (J : List Record) (a : Actor) (e : Event) → MayHappen J a e → IsItem e
is_item J a (Deliver p) may = tt
is_item J a (Cut kept p) may = tt
is_item J a (Tick clock) may = may
is_item J a Alarm may = tt
is_item J a Crash may = tt
is_item J a (Restart nonce) may = may.0

was_sent : (J : List Record) (a : Actor) (e : Event) → MayHappen J a e → WasSentTo J a e
was_sent J a (Deliver p) may = may
was_sent J a (Cut kept p) may = may
was_sent J a (Tick clock) may = tt
was_sent J a Alarm may = tt
was_sent J a Crash may = tt
was_sent J a (Restart nonce) may = tt

-- what the actor sends in the state of its own records is what it sends in the run
same_sends : (g : Group) (r : Record) (J : List Record) → (node_step g r.actor (state_after g r.actor (of_actor r.actor J)) r.event).1
    ≡ (node_step g r.actor (state_after g r.actor J) r.event).1
same_sends g r J = ap (λ (s : State r.actor). (node_step g r.actor s r.event).1) (own_state g r.actor J)

-- ---- lanes

lane_before : (g : Group) (a : Actor) (r : Record) (J : List Record) → IsLane g a (of_actor a (r ∷ J)) → IsLane g a (of_actor a J)
lane_before g a r J =
    cond_both (actor_eq r.actor a) (r ∷ of_actor a J) (of_actor a J) (λ (lane : List Record). IsLane g a lane → IsLane g a (of_actor a J))
    (λ _ h. h.1) (λ _ h. h)

newest_step : (g : Group) (r : Record) (J : List Record) → IsLane g r.actor (of_actor r.actor (r ∷ J)) → IsStepOf g r.actor (of_actor r.actor J) r
newest_step g r J h =
    let own = of_actor r.actor J in
    (subst (IsLane g r.actor) (ap (λ b. cond b (r ∷ own) own) (actor_eq_self r.actor)) h).0

longer_lane : (g : Group) (a : Actor) (r : Record) (J : List Record) → IsStepOf g r.actor (of_actor r.actor J) r
    → IsLane g a (of_actor a J) → IsLane g a (of_actor a (r ∷ J))
longer_lane g a r J step lane =
    cond_both (actor_eq r.actor a) (r ∷ of_actor a J) (of_actor a J) (IsLane g a)
    (λ same. (subst (λ (b : Actor). IsStepOf g b (of_actor b J) r) (same_actor r.actor a same) step, lane)) (λ _. lane)

-- ---- all records

pub deployment_is_run : (g : Group) (J : List Record) → IsDeployment g J → World g J
deployment_is_run g [] d = d.group
deployment_is_run g (r ∷ J) d =
    let step = newest_step g r J (d.lanes r.actor) in
    let before : IsDeployment g J =
    record { group = d.group; members = d.members.1; lanes = λ a. lane_before g a r J (d.lanes a); links = d.links.1; nonces = d.nonces.1 } in (
      record {
        member = d.members.0;
        event = may_happen J r.actor r.event step.item d.links.0 (λ nonce e. d.nonces.0 nonce (refl, e));
        sends = step.sends ∙ same_sends g r J;
      },
      deployment_is_run g J before,
    )

pub run_is_deployment : (g : Group) (J : List Record) → World g J → IsDeployment g J
run_is_deployment g [] w = record { group = w; members = tt; lanes = λ a. tt; links = tt; nonces = tt }
run_is_deployment g (r ∷ J) w =
    let before = run_is_deployment g J w.1 in
    let may = w.0.event in
    let step : IsStepOf g r.actor (of_actor r.actor J) r =
    record { item = is_item J r.actor r.event may; sends = w.0.sends ∙ sym (same_sends g r J) } in
    record {
      group = before.group;
      members = (w.0.member, before.members);
      lanes = λ a. longer_lane g a r J step (before.lanes a);
      links = (was_sent J r.actor r.event may, before.links);
      nonces = ((λ nonce restarts. (subst (MayHappen J r.actor) restarts.1 may).1), before.nonces);
    }
