-- What the function of this folder owes, proved.
use Rattle.nz_top.proofs.Answering.{kept_is_answered}
use Rattle.nz_top.proofs.playing.print_kept.Goals as goal

pub returns : goal.returns
returns g c =
    let run = c.in_ok-journal.ensures in
    kept_is_answered c.args.play.now c.args.scenario.now c.in_ok-journal.field-0.journal _ c.in_ok-bytes.bytes c.requires.playable c.of.ensures
    run.scenario run.scheduled run.in_order run.world c.in_ok-bytes.ensures
