-- The network may be shared by threads. The kinds in its calendar and its agenda have snapshots, of which rattle does not say
-- so by itself.
use denote.Param.SendFields.{declared_send}
use denote.Param.Send.{IsSend, IsSync, sendable}
use denote.Hole.{as_row}
use denote.RattleType.{RattleType}
use denote.Struct.Declared.{row}
use Rattle.std.proofs.Crossing.{crosses}
use Rattle.std.proofs.sync.ledger.Book.TheSendSync.{the_send as book_send}
use Rattle.indexmap.proofs.map.IndexMap.TheSendSync.{the_send as map_send}
use Rattle.nz_base.proofs.scenario.Scenario.TheSendSync.{the_field_send as scenario_send}
use Rattle.nz_machine.proofs.journal.Item.TheSendSync.{the_send as item_send, the_field_send as item_field_send}
use Rattle.nz_fabric.proofs.schedule.course.Course.TheSendSync.{the_field_send as course_send}
use Rattle.nz_fabric.proofs.schedule.course.Traffic.TheSendSync.{the_field_send as traffic_send}
use Rattle.nz_fabric.proofs.schedule.numbered.Numbered.TheSendSync.{the_send as numbered_send}
use Rattle.nz_fabric.proofs.threads.open_batches.OpenBatches.TheSendSync.{the_send as batches_send}
use Rattle.nz_fabric.proofs.threads.pacing.Pacing.TheSendSync.{the_field_send as pacing_send}
use Rattle.nz_fabric.proofs.threads.records.Records.TheSendSync.{the_send as records_send}
use Rattle.nz_fabric.specs.contracts.schedule.agenda.Agenda as Agenda
use Rattle.nz_fabric.specs.contracts.schedule.calendar.Calendar as Calendar
use Rattle.nz_fabric.specs.contracts.threads.fabric.Fabric as Fabric
use Rattle.nz_fabric.specs.contracts.threads.fabric_state.FabricState.TheInside as Inside
use Rattle.nz_fabric.specs.contracts.schedule.kinds.Kinds as Kinds
use Rattle.nz_fabric.specs.contracts.schedule.ticks.Ticks as Ticks

kinds_send : IsSend Kinds.the_row
kinds_send = search (sendable, crosses) depth 40 fits 20000

calendar_send : IsSend Calendar.the_row
calendar_send = search (sendable, crosses, kinds_send, map_send, course_send, traffic_send, item_field_send) depth 40 fits 20000

ticks_send : IsSend (as_row Ticks.the_field)
ticks_send = search (sendable, crosses, scenario_send, numbered_send, item_send, calendar_send) depth 40 fits 20000

agenda_send : IsSend Agenda.the_row
agenda_send = search (sendable, crosses, item_send) depth 40 fits 20000

-- the state of the network, field by field
inside_send : (N : RattleType) (name : _) (ledger : _) → IsSend N → IsSend (row (Inside.the_type N name ledger))
inside_send N name ledger send =
    declared_send (Inside.the_type N name ledger) (
      ticks_send,
      (
        agenda_send,
        (
          search (sendable, crosses, records_send) depth 40 fits 20000,
          (
            search sendable,
            (
              search (sendable, crosses, batches_send) depth 40 fits 20000,
              (search (sendable, crosses, book_send) depth 40 fits 20000, (search (sendable, pacing_send), tt)),
            ),
          ),
        ),
      ),
    )

pub fabric_sync : (N : RattleType) (name : _) (ledger : _) → IsSend N → IsSync (row (Fabric.the_type N name ledger))
fabric_sync N name ledger send = search (sendable, crosses, inside_send) depth 40 fits 20000
