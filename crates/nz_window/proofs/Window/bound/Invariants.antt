-- What the loops of the function of this folder keep.
use Rattle.std.proofs.Common.{take}
use Rattle.nz_window.proofs.Medians.{Seen}
use Rattle.nz_window.proofs.Window.bound.Given as goal

abbrev pub invariant-loop-recent : goal.invariant-loop-recent
invariant-loop-recent l = Seen (take l.recent-index l.recent-items) l.bound
