-- What the function of this folder owes, proved.
use Rattle.std.proofs.Common.{◌∙◌, ap, arith, subst}
use Rattle.nz_base.specs.declared.scenario.Scenario.{Scenario}
use Rattle.nz_fabric.specs.schedule.Agendas.{at_start}
use Rattle.nz_fabric.specs.threads.Shared.{IsBooked, booking_of}
use Rattle.nz_fabric.specs.threads.Takes.{Batches}
use Rattle.nz_fabric.proofs.several_threads.Sharing.{booked_start}
use Rattle.nz_fabric.proofs.threads.fabric_state.FabricState.new.Goals as goal

pub invariant_of-state : goal.invariant_of-state
invariant_of-state g c =
    let t = c.in_ok-new.field-0 in (
      omega (arith, c.requires.name),
      subst (λ (s : Scenario). IsBooked s (booking_of t 0 c.in_ok-records.records c.new-4.result c.new-5.result c.open-book.result.0.total))
          c.requires.scenario
          (booked_start c.args.scenario t c.in_ok-records.records c.new-4.result c.new-5.result c.open-book.result.0.total c.requires.playable
          c.in_ok-new.ensures c.in_ok-records.ensures (c.new-4.ensures ∙ ap at_start c.new-3.ensures.items)
          (ap (λ (t : Batches). t.running) c.new-5.ensures) c.open-book.ensures.total),
    )
