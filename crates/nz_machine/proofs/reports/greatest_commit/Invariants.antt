-- What the loops of the function of this folder keep.
use Rattle.std.proofs.Common.{◌≡◌, max, map, drop}
use Rattle.nz_merge.specs.Merged.{greatest}
use Rattle.nz_machine.proofs.reports.greatest_commit.Given as goal

abbrev pub invariant-loop-report : goal.invariant-loop-report
invariant-loop-report l = max l.commit (greatest (map (λ c. c.commit) (drop l.report-index l.reports))) ≡ greatest (map (λ c. c.commit) l.reports)
