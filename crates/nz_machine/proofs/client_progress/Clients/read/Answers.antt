-- What the function of this folder owes, proved.
use Rattle.std.proofs.Common.{◌∙◌}
use Rattle.nz_machine.specs.runs.Schedule.{group_of}
use Rattle.nz_machine.proofs.journals.EventsAreRead.{other_events, other_after}
use Rattle.nz_machine.proofs.client_progress.Clients.read.Goals as goal

pub returns-in-None-clause-events : goal.returns-in-None-clause-events
returns-in-None-clause-events c = λ J w h.
    c.new.ensures ∙ other_events (group_of c.args.scenario.now) c.args.next.now J c.args.self.now w c.in-None.ensures.other h

pub returns-in-None-clause-after : goal.returns-in-None-clause-after
returns-in-None-clause-after c = λ J w h. other_after (group_of c.args.scenario.now) c.args.next.now J c.args.self.now w c.in-None.ensures.other h
