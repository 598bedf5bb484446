-- What the function of this folder owes, proved.
use Rattle.std.proofs.Common.{◌∙◌, ap}
use Rattle.nz_story.specs.Known.{known_of}
use Rattle.nz_story.proofs.Following.{now_is}
use Rattle.nz_story.proofs.story.Watched.put_now.Goals as goal

pub returns-clause-watched : goal.returns-clause-watched
returns-clause-watched c = λ g J h. record {
  core = c.in_ok-replay_one.ensures.core g J h.core;
  known = c.in_ok-put_now.ensures.known ∙ ap (λ m. known_of m.state) c.state.ensures;
}

pub returns-clause-written : goal.returns-clause-written
returns-clause-written c = λ g J h.
    now_is g c.args.number c.args.next.now J c.args.self.now.known c.args.self.now.core _ _ c.args.out.now.items _
    h.core (c.in_ok-replay_one.ensures.core g J h.core) h.known (ap (λ m. m.state) c.state.ensures) c.in_ok-put_now.ensures.written
