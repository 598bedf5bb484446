-- What the loops of the function of this folder keep.
use Rattle.std.proofs.Common.{◌≡◌, max, map, drop}
use Rattle.nz_merge.specs.Merged.{greatest, of_view}
use Rattle.nz_merge.proofs.reports.greatest_synced.Given as goal

abbrev pub invariant-loop-report : goal.invariant-loop-report
invariant-loop-report l =
    max l.most (greatest (map (λ c. c.synced) (of_view l.view (drop l.report-index l.reports))))
    ≡ greatest (map (λ c. c.synced) (of_view l.view l.reports))
