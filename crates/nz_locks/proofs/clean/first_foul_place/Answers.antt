-- What the function of this folder owes, proved.
use Rattle.std.proofs.Common.{sym, ap, ◌∙◌, add-one}
use Rattle.nz_locks.specs.Clean.{is_foul_request}
use Rattle.nz_locks.specs.Uses.{is_foul}
use Rattle.nz_locks.proofs.Fouls.{any_next}
use Rattle.nz_locks.proofs.clean.first_foul_place.Goals as goal

pub loop-place-preserved : goal.loop-place-preserved
loop-place-preserved c =
    rw add-one
    (any_next (is_foul_request c.args.client) c.args.script.now c.loop-place.place c.get.result.now c.get.ensures c.loop-place.invariant
    (ap (is_foul c.args.client) (sym c.as_slice.ensures) ∙ sym c.is_foul.ensures ∙ c.if-is_foul.false))
