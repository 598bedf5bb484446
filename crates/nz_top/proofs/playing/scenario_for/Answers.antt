-- What the function of this folder owes, proved.
use Rattle.std.proofs.Common.{refl}
use Rattle.nz_top.specs.declared.playing.NoScenario.TheVariants.{Foul}
use Rattle.nz_top.proofs.Inputs.{found_foul, only_memory}
use Rattle.nz_top.proofs.playing.scenario_for.Goals as goal

pub returns-in-Err-clause-none : goal.returns-in-Err-clause-none
returns-in-Err-clause-none g c = c.in-Err.ensures.none c.args.play.now refl

pub returns-in-Err-clause-complete : goal.returns-in-Err-clause-complete
returns-in-Err-clause-complete g c = only_memory c.args.play.now _ _ _ _ (c.in-Err.ensures.none c.args.play.now refl)

pub returns-in-Some-clause-complete : goal.returns-in-Some-clause-complete
returns-in-Some-clause-complete g c =
    only_memory c.args.play.now _ _ _ (Foul c.in-Some.id)
    (found_foul c.args.play.now _ c.in-Ok.scenario c.in-Some.id c.requires c.in-Ok.ensures.found c.in-Some.ensures.refused)
