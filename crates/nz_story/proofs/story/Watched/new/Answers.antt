-- What the function of this folder owes, proved.
use Rattle.std.proofs.Common.{◌∙◌, ap}
use Rattle.nz_story.specs.Known.{known_of}
use Rattle.nz_story.proofs.Following.{first_core}
use Rattle.nz_story.proofs.story.Watched.new.Goals as goal

pub returns : goal.returns
returns c = λ g same. record {
  core = first_core g c.args.cluster c.args.number _ same c.in_ok-core.ensures;
  known = c.in_ok-known.ensures ∙ ap (λ m. known_of m.state) c.state.ensures;
}
