-- What the loops of the function of this folder keep.
use Rattle.std.proofs.Common.{◌≡◌, ◌+◌, List, take, drop, reverse}
use Rattle.nz_machine.specs.runs.Schedule.{group_of}
use Rattle.nz_machine.specs.journals.EventNotes.{AreNoted}
use Rattle.nz_machine.specs.runs.World.{World}
use Rattle.nz_machine.specs.declared.event.Record.{Record}
use Rattle.nz_machine.proofs.event_notes.Notes.read.Given as goal

abbrev pub invariant-loop-place : goal.invariant-loop-place
invariant-loop-place l =
    let g = group_of l.scenario in
    (run : List Record) → World g (reverse run) → l.records.records ≡ drop l.gone run
    → AreNoted g (reverse (take (l.gone + l.from) run)) l.fn.self → AreNoted g (reverse (take (l.gone + l.place) run)) l.self
