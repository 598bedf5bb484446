-- What the loops of the function of this folder keep.
use Rattle.std.proofs.Common.{◌≡◌, drop}
use Rattle.nz_merge.specs.Fit.{are_fit}
use Rattle.nz_merge.proofs.report.all_fit.Given as goal

abbrev pub invariant-loop-report : goal.invariant-loop-report
invariant-loop-report l = are_fit (drop l.report-index l.reports) ≡ are_fit l.reports
