-- Where the records of a tick are in any order.
use Rattle.std.proofs.Common.{ℕ, zero, suc, List, map, subst}
use Rattle.std.specs.Prelude.{reverse, IsPermutation}
use Rattle.std.proofs.lemmas.List.Sorted.{IsPermutation-refl}
use Rattle.nz_base.specs.declared.scenario.Scenario.{Scenario}
use Rattle.nz_machine.specs.declared.event.Record.{Record}
use Rattle.nz_machine.specs.declared.journal.Item.{Item}
use Rattle.nz_machine.specs.runs.Schedule.{item_of, InOrderTo, ScheduledTo}

-- what is in order is scheduled
pub scheduled_in_order : (s : Scenario) (tick : ℕ) (J : List Record) → InOrderTo s tick J → ScheduledTo s tick J
scheduled_in_order s zero J none = none
scheduled_in_order s (suc tick) J (now, (older, (t, before))) = (
  now,
  (
    older,
    (
      record {
        whole = t.whole;
        here = t.here;
        items = subst (λ (is : List Item). IsPermutation is (map item_of (reverse now))) t.items (IsPermutation-refl (map item_of (reverse now)));
      },
      scheduled_in_order s tick older before,
    ),
  ),
)
