-- The events that are read off a run's records have its events with their ticks.
use Rattle.std.proofs.Common.{◌≡◌, ℕ, Option, ap, ◌∙◌}
use Rattle.std.proofs.Common.{List, [], ◌∷◌, ◌++◌, length, map, refl}
use Rattle.std.proofs.lemmas.List.{map-append}
use Rattle.nz_base.specs.declared.key.Id.{Id}
use Rattle.nz_machine.specs.declared.client_event.EventAt.{EventAt}
use Rattle.nz_machine.specs.declared.event.Record.{Record}
use Rattle.nz_machine.specs.journals.EventNotes.{all_at, events_at}
use Rattle.nz_machine.specs.declared.client_event.ClientEvent.{ClientEvent}
use Rattle.nz_machine.specs.runs.Events.{client_events}
use Rattle.nz_machine.specs.rules.State.{Group}
use Rattle.nz_quiet.specs.Quiet.{timed_events}
use Rattle.nz_quiet.specs.Pace.{timed, tick_accepted, pace_by, paces, requests_sent, requests_accepted}

timed_at : (place tick : ℕ) (E : List ClientEvent) → timed (all_at place tick E) ≡ map (λ (e : ClientEvent). (tick, e)) E
timed_at place tick [] = refl
timed_at place tick (e ∷ E) = ap (λ (l : List (ℕ × ClientEvent)). (tick, e) ∷ l) (timed_at place tick E)

run_timed : (g : Group) (J : List Record) → timed (events_at g J) ≡ timed_events g J
run_timed g [] = refl
run_timed g (r ∷ J) =
    let E = client_events g r.actor r J in
    map-append (λ (x : EventAt). (x.tick, x.event)) (events_at g J) (all_at (length J) r.tick E)
    ∙ (λ i. run_timed g J i ++ timed_at (length J) r.tick E i)

-- how many ticks the requests of a run took
pub run_paces : (g : Group) (J : List Record) (E : List EventAt) (ticks : Id → Option ℕ) → E ≡ events_at g J
    → ((id : Id) → ticks id ≡ tick_accepted (requests_accepted (timed E)) id) → map (pace_by ticks) (requests_sent (timed E)) ≡ paces (timed_events g J)
run_paces g J E ticks is by =
    let all : timed E ≡ timed_events g J = ap timed is ∙ run_timed g J in
    λ i. map (pace_by (λ id. (by id ∙ ap (λ (l : List (ℕ × ClientEvent)). tick_accepted (requests_accepted l) id) all) i)) (requests_sent (all i))
