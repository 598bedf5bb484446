-- What the function of this folder owes, proved.
use Rattle.std.proofs.Common.{refl}
use Rattle.nz_machine.specs.runs.Schedule.{group_of}
use Rattle.nz_story.proofs.story.Course.new.Goals as goal

pub returns : goal.returns
returns c = record {
  clients = c.in_ok-clients.ensures;
  count = c.in_ok-replicas.ensures.count;
  replicas = c.in_ok-replicas.ensures.first (group_of c.args.scenario.now) refl;
  sent = c.in_ok-sent.ensures;
}
