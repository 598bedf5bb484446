-- What the loops of the function of this folder keep.
use Rattle.std.proofs.Common.{◌≡◌, drop}
use Rattle.nz_base.specs.Log.{keys_of}
use Rattle.nz_merge.specs.Fit.{are_log}
use Rattle.nz_merge.proofs.report.is_log.Given as goal

abbrev pub invariant-loop-place : goal.invariant-loop-place
invariant-loop-place l = are_log (keys_of (drop l.place l.log)) ≡ are_log (keys_of l.log)
