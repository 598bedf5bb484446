-- What the loops of the function of this folder keep.
use Rattle.std.proofs.Common.{length}
use Rattle.nz_script.proofs.sizes.+words_room.Given as goal

abbrev pub decreases-words_room : goal.decreases-words_room
decreases-words_room l = length l.words.now
