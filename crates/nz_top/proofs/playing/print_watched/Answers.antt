-- What the function of this folder owes, proved.
use Rattle.nz_top.specs.Called.{journal_of}
use Rattle.nz_top.proofs.Answering.{watched_is_answered}
use Rattle.nz_top.proofs.playing.print_watched.Goals as goal

pub returns-in-Some-of_unkept : goal.returns-in-Some-of_unkept
returns-in-Some-of_unkept g c =
    watched_is_answered c.args.play.now c.args.scenario.now (journal_of c.in-Some.unkept) _ c.in-Some.bytes c.requires.playable
    c.in-Some-of_unkept.ensures (rw c.in-Some.is at c.in_ok-bytes.ensures)
