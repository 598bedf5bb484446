-- What the loops of the function of this folder keep.
use Rattle.std.proofs.Common.{◌++◌, map, length}
use Rattle.nz_base.specs.declared.actor.Actor.TheVariants.{Replica}
use Rattle.nz_machine.specs.rules.Releases.{releases}
use Rattle.nz_machine.specs.rules.Step.{parcel}
use Rattle.nz_normal.proofs.Releasing.{Releases}
use Rattle.nz_normal.proofs.releases.release_due.Given as goal

abbrev pub invariant-due : goal.invariant-due
invariant-due l =
    let model = l.fn.state in
    let all = releases model.f model.me model.state model.state.early in
    Releases model.f model.me (all.0, l.fn.sends ++ map (parcel (Replica model.me)) all.1) l.state l.sends

abbrev pub decreases-due : goal.decreases-due
decreases-due l = length l.state.state.early
