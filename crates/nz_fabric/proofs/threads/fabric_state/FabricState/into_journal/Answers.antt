-- What the function of this folder owes, proved.
use Rattle.std.proofs.Common.{◌≡◌, ◌∙◌, ap, subst, sym, arith, ℕ, List, length}
use Rattle.std.specs.Prelude.{reverse}
use Rattle.nz_base.specs.declared.scenario.Scenario.{Scenario}
use Rattle.nz_machine.specs.declared.event.Record.{Record}
use Rattle.nz_machine.specs.journals.Records.{Recorded}
use Rattle.nz_machine.specs.runs.Schedule.{group_of, Scheduled, ScheduledTo}
use Rattle.nz_machine.specs.runs.Steps.{AreSteps}
use Rattle.nz_fabric.specs.alone.States.{records_of, state_in}
use Rattle.nz_fabric.specs.threads.Shared.{IsOver, Shared}
use Rattle.nz_fabric.proofs.one_thread.Held.{all_records}
use Rattle.nz_fabric.proofs.several_threads.Sharing.{booked_few, scheduled_now}
use Rattle.nz_fabric.proofs.threads.fabric_state.FabricState.into_journal.Goals as goal

pub into_list-requires : goal.into_list-requires
into_list-requires g c =
    let few = booked_few _ _ c.self.invariant.1 in
    omega (arith, few, ap (λ (r : Recorded). length r.records) c.into_recording.ensures.records)

pub returns-clause-records : goal.returns-clause-records
returns-clause-records g c =
    let f = c.self.inside in
    ap reverse (c.into_list.ensures ∙ ap (λ (r : Recorded). r.records) c.into_recording.ensures.records)
    ∙ sym (all_records f.before f.records.records) ∙ ap (λ (f : Shared). records_of f.run) c.self.view_is

pub returns-clause-scheduled : goal.returns-clause-scheduled
returns-clause-scheduled g c =
    let i = c.self.inside in
    let f = state_in i.ticks i.before i.records.records i.agenda.items i.agenda.next in
    let k = c.self.invariant.1.accounted in
    let J = records_of f in
    let order : ScheduledTo f.scenario f.tick J = scheduled_now _ _ k (subst IsOver (sym c.self.view_is) c.requires.over) in
    let last : f.tick ≡ f.scenario.ticks = subst (λ (f : Shared). f.run.tick ≡ f.run.scenario.ticks) (sym c.self.view_is) c.requires.last in
    let whole : Scheduled f.scenario J = subst (λ (n : ℕ). ScheduledTo f.scenario n J) last order in
    subst (λ (J : List Record). Scheduled g.N.RunName.scenario J)
    (sym (ap reverse (c.into_list.ensures ∙ ap (λ (r : Recorded). r.records) c.into_recording.ensures.records) ∙ sym (all_records i.before i.records.records)))
    (subst (λ (s : Scenario). Scheduled s J) k.scenario whole)

pub returns-clause-steps : goal.returns-clause-steps
returns-clause-steps g c =
    subst (λ (rs : List Record). AreSteps (group_of g.N.RunName.scenario) (reverse rs)) (sym c.into_list.ensures) c.into_recording.ensures.steps
