-- What the loops of the function of this folder keep.
use Rattle.std.proofs.Common.{◌≡◌, drop}
use Rattle.nz_base.specs.Log.{keys_of}
use Rattle.nz_merge.specs.Fit.{comes_first}
use Rattle.nz_merge.proofs.report.comes_first.Given as goal

abbrev pub invariant-loop-entry : goal.invariant-loop-entry
invariant-loop-entry l = comes_first l.key (keys_of (drop l.entry-index l.others)) ≡ comes_first l.key (keys_of l.others)
