-- The ticks of the records of a run that goes on.
use Rattle.std.proofs.Common.{◌≡◌, ℕ, zero, suc, ◌≤◌, List, [], sym, subst, arith}
use Rattle.std.specs.List.{AllByRecursion}
use Rattle.nz_base.specs.declared.scenario.Scenario.{Scenario}
use Rattle.nz_machine.specs.declared.event.Record.{Record}
use Rattle.nz_machine.specs.declared.journal.Item.{Item}
use Rattle.nz_machine.specs.runs.Schedule.{InOrderTo}
use Rattle.nz_machine.proofs.lists.EachItem.{all_append, all_imply}
use Rattle.nz_fabric.specs.alone.States.{State, IsBegun, IsKeptRun, records_of}

up_to_later : (t : ℕ) (J : List Record) → AllByRecursion (λ (r : Record). r.tick ≤ t) J → AllByRecursion (λ (r : Record). r.tick ≤ suc t) J
up_to_later t J h = all_imply (λ (r : Record). r.tick ≤ t) (λ (r : Record). r.tick ≤ suc t) (λ r own. omega (arith, own)) J h

up_to_same : (t : ℕ) (J : List Record) → AllByRecursion (λ (r : Record). r.tick ≡ t) J → AllByRecursion (λ (r : Record). r.tick ≤ t) J
up_to_same t J h = all_imply (λ (r : Record). r.tick ≡ t) (λ (r : Record). r.tick ≤ t) (λ r own. omega (arith, own)) J h

up_to : (s : Scenario) (t : ℕ) (J : List Record) → InOrderTo s t J → AllByRecursion (λ (r : Record). r.tick ≤ t) J
up_to s zero J none = subst (AllByRecursion (λ (r : Record). r.tick ≤ 0)) (sym none) tt
up_to s (suc t) J (now, (older, (own, before))) =
    subst (AllByRecursion (λ (r : Record). r.tick ≤ suc t)) (sym own.whole)
    (all_append (λ (r : Record). r.tick ≤ suc t) now older (up_to_same (suc t) now own.here) (up_to_later t older (up_to s t older before)))

finished_up_to : (s : Scenario) (t : ℕ) (finished : List Record) (items : List Item) → IsBegun s t finished items → AllByRecursion (λ (r : Record). r.tick ≤ t) finished
finished_up_to s zero finished items b = subst (AllByRecursion (λ (r : Record). r.tick ≤ 0)) (sym b.0) tt
finished_up_to s (suc t) finished items b = up_to_later t finished (up_to s t finished b.0)

-- none is of a later tick than the last one
pub records_up_to : (f : State) → IsKeptRun f → AllByRecursion (λ (r : Record). r.tick ≤ f.tick) (records_of f)
records_up_to f k =
    all_append (λ (r : Record). r.tick ≤ f.tick) f.here f.finished (up_to_same f.tick f.here k.here)
    (finished_up_to f.scenario f.tick f.finished f.items k.begun)
