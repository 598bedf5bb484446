-- A quiet scenario's run is quiet after each tick.
use Rattle.std.proofs.Common.{◌≡◌, ℕ, zero, suc, ◌≤◌, List, [], ◌∷◌, ◌++◌, map, sym, ap, subst, ◌∙◌, arith}
use Rattle.std.specs.List.{AllByRecursion}
use Rattle.std.proofs.lemmas.List.{append-nil}
use Rattle.nz_base.specs.declared.actor.Actor.{Actor}
use Rattle.nz_base.specs.declared.key.Entry.{Entry}
use Rattle.nz_base.specs.declared.limits.TheConstants.{MAX_TICKS}
use Rattle.nz_base.specs.declared.scenario.Scenario.{Scenario}
use Rattle.nz_machine.specs.declared.event.Parcel.{Parcel}
use Rattle.nz_machine.specs.declared.event.Record.{Record}
use Rattle.nz_machine.specs.rules.State.{Group, Out}
use Rattle.nz_machine.specs.runs.Steps.{AreSteps}
use Rattle.nz_machine.specs.runs.Schedule.{group_of, IsTick, InOrderTo, IsPlayable, due, tick_item, actors_of}
use Rattle.nz_machine.specs.runs.World.{Has, IsMember, World}
use Rattle.nz_machine.proofs.runs.Replaying.{world_now}
use Rattle.nz_machine.proofs.runs.Runs.{FitsOut}
use Rattle.nz_machine.proofs.runs.Scheduling.{scheduled_in_order}
use Rattle.nz_quiet.specs.Quiet.{IsQuiet}
use Rattle.nz_quiet.specs.Folds.{delivery, flight_of, posted, AreReadable, flight_in}
use Rattle.nz_quiet.specs.Invariant.{IsQuietAt, IsQuietRun}
use Rattle.nz_quiet.proofs.Flight.{parcels_are, flight_fits}
use Rattle.nz_quiet.proofs.NextTick.{IsNextTick}
use Rattle.nz_quiet.proofs.QuietDue.{due_first, due_quiet}
use Rattle.nz_quiet.proofs.QuietStep.{log_now, early_now, next_quiet}
use Rattle.nz_quiet.proofs.QuietTicks.{members_of, all_read, next_tick}
use Rattle.nz_quiet.proofs.Reading.{heard_due}
use Rattle.nz_quiet.proofs.SameBodies.{same_bodies}
use Rattle.nz_quiet.proofs.Start.{start_quiet}

-- ---- what is in flight after a tick

pub steps_back : (g : Group) (now older : List Record) → AreSteps g (now ++ older) → AreSteps g older
steps_back g [] older h = h
steps_back g (r ∷ now) older h = steps_back g now older h.1

-- what is due in the next tick
pub due_now : (s : Scenario) (t : ℕ) (J : List Record) (order : InOrderTo s t J) → IsQuiet s → AreSteps (group_of s) J
    → due s (suc t) J ≡ map (tick_item s (suc t)) (actors_of s) ++ map delivery (map posted (flight_in s t J order))
due_now s zero J none quiet steps =
    ap (due s 1) none ∙ due_first s quiet ∙ sym (append-nil (map (tick_item s 1) (actors_of s)))
due_now s (suc t) J (now, (older, (tick, before))) quiet steps =
    let g = group_of s in
    due_quiet s t now older J quiet tick before
    ∙ ap (λ (ps : List Parcel). map (tick_item s (suc (suc t))) (actors_of s) ++ map delivery ps)
    (parcels_are g now older (subst (AreSteps g) tick.whole steps))

pub flight_members : (s : Scenario) (t : ℕ) (J : List Record) (order : InOrderTo s t J) → World (group_of s) J → (a : Actor) (o : Out)
    → Has (flight_in s t J order) (a, o) → IsMember (group_of s) a
flight_members s zero J none w a o h = absurd h
flight_members s (suc t) J (now, (older, (tick, before))) w a o h = members_of (group_of s) now older (subst (World (group_of s)) tick.whole w) a o h

all_fitting : (s : Scenario) (t : ℕ) (J : List Record) (order : InOrderTo s t J) → World (group_of s) J
    → AllByRecursion (λ (x : Actor × Out). FitsOut x.0 x.1) (flight_in s t J order)
all_fitting s zero J none w = tt
all_fitting s (suc t) J (now, (older, (tick, before))) w = flight_fits (group_of s) now older (subst (World (group_of s)) tick.whole w)

-- ---- one tick

module _ (s : Scenario) (quiet : IsQuiet s) (play : IsPlayable s) (t : ℕ) (few : suc t ≤ MAX_TICKS) (now older : List Record) (order : InOrderTo s t older)
    (K : List Record) (tick : IsTick s (suc t) now older K) (steps : AreSteps (group_of s) (now ++ older)) (L E : List Entry)
    (is : IsQuietAt (group_of s) t L E (flight_in s t older order) older) where
  abbrev group : Group
  group = group_of s

  abbrev flight : List (Actor × Out)
  flight = flight_in s t older order

  pub world_before : World group older
  world_before = world_now s t older play (scheduled_in_order s t older order) (steps_back group now older steps)

  pub world_after : World group (now ++ older)
  world_after =
      subst (World group) tick.whole
      (world_now s (suc t) K play (scheduled_in_order s (suc t) K (now, (older, (tick, order)))) (subst (AreSteps group) (sym tick.whole) steps))

  -- Each parcel in flight can be read by whom it is for.
  pub readable : (a : Actor) → AreReadable group.f a flight
  readable =
      all_read group t L E flight older is world_before few (λ a o among. flight_members s t older order world_before a o among)
      (all_fitting s t older order world_before)

  pub step_is : IsNextTick group t L E flight older K (flight_of group now older)
  step_is =
      next_tick group t L E flight older is world_before few K (flight_of group now older) readable
      (λ a member. heard_due s a (suc t) flight now older K quiet play member few tick
      (due_now s t older order quiet (steps_back group now older steps)) (readable a))
      (λ a o among. members_of group now older world_after a o among)
      (λ r q first second. same_bodies group now older r q world_after first second)

-- ---- all ticks

pub stays_quiet : (s : Scenario) → IsQuiet s → IsPlayable s → (t : ℕ) → t ≤ MAX_TICKS → (J : List Record) (order : InOrderTo s t J)
    → AreSteps (group_of s) J → IsQuietRun s t J order
stays_quiet s quiet play zero few J none steps =
    record { log = []; early = []; quiet = subst (λ (K : List Record). IsQuietAt (group_of s) 0 [] [] [] K) (sym none) (start_quiet (group_of s)) }
stays_quiet s quiet play (suc t) few K (now, (older, (tick, before))) steps =
    let g = group_of s in
    let all = subst (AreSteps g) tick.whole steps in
    let ih = stays_quiet s quiet play t (omega (arith, few)) older before (steps_back g now older all) in
    let flight = flight_in s t older before in
    let step = step_is s quiet play t few now older before K tick all ih.log ih.early ih.quiet in
    record {
      log = log_now g t ih.log ih.early flight older K (flight_of g now older) ih.quiet step;
      early = early_now g t ih.log ih.early flight older K (flight_of g now older) ih.quiet step;
      quiet = next_quiet g t ih.log ih.early flight older K (flight_of g now older) ih.quiet step;
    }
