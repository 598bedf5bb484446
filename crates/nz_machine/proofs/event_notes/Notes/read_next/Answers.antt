-- What the function of this folder owes, proved.
use Rattle.std.proofs.lemmas.Result.{on_ok_weaker}
use Rattle.nz_machine.specs.runs.Schedule.{group_of}
use Rattle.nz_machine.proofs.journals.NotedEvents.{noted_next}
use Rattle.nz_machine.proofs.event_notes.Notes.read_next.Goals as goal

pub returns : goal.returns
returns c = on_ok_weaker c.add.result (λ is J w at h.
    let e = c.in_ok-found.ensures in
    noted_next (group_of c.args.scenario.now) c.args.next.now J c.args.self.now _ c.args.place c.in_ok-found.found
    at h (e.events J w h.after) (e.after J w h.after) is) c.add.ensures
