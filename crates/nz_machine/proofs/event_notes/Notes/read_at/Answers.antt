-- What the function of this folder owes, proved.
use Rattle.std.proofs.Common.{◌+◌, sym, ◌∙◌}
use Rattle.std.proofs.lemmas.Result.{on_ok_weaker}
use Rattle.nz_machine.specs.runs.Schedule.{group_of}
use Rattle.nz_machine.proofs.journals.NotedEvents.{next_noted, silent_noted, rest_at, rest_within}
use Rattle.nz_machine.proofs.event_notes.Notes.read_at.Goals as goal

pub returns-in-Some : goal.returns-in-Some
returns-in-Some c = on_ok_weaker c.read_next.result (λ reads run w is h.
    let at = sym (rest_at run c.args.records.now.records c.args.gone c.args.place is) ∙ c.in-Some.ensures in
    next_noted (group_of c.args.scenario.now) run (c.args.gone + c.args.place) c.in-Some.next.now c.args.self.now c.read_next.new.self w at h reads)
    c.read_next.ensures

pub returns-in-None : goal.returns-in-None
returns-in-None c = λ run w is h.
    let rest = c.args.records.now.records in
    silent_noted (group_of c.args.scenario.now) run (c.args.gone + c.args.place) c.args.self.now w
    (rest_within run rest c.args.gone c.args.place is c.requires.place)
    (λ step at. c.in-None.ensures step (rest_at run rest c.args.gone c.args.place is ∙ at)) h
