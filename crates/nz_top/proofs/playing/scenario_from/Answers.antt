-- What the function of this folder owes, proved.
use Rattle.std.proofs.Common.{sym, subst, ◌∙◌}
use Rattle.nz_top.specs.Calls.{IsInput}
use Rattle.nz_top.proofs.Playable.{drawn_playable}
use Rattle.nz_top.proofs.playing.scenario_from.Goals as goal

pub returns-in-Ok-clause-playable : goal.returns-in-Ok-clause-playable
returns-in-Ok-clause-playable g c = drawn_playable c.args.origin c.in-Seed.seed c.in-Seed.count c.in-Ok.scenario c.in-Seed.is c.requires c.in-Ok.ensures

pub returns-in-Input-clause-none : goal.returns-in-Input-clause-none
returns-in-Input-clause-none g c = λ play is. c.scenario_of.ensures.none play (subst IsInput (sym (is ∙ c.in-Input.is)) tt)
