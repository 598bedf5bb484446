-- What the loops of the function of this folder keep.
use Rattle.std.proofs.Common.{◌≡◌, ◌+◌, ◌≤◌, length, drop}
use Rattle.nz_merge.specs.Merged.{of_view, holders, AreFit}
use Rattle.nz_merge.proofs.reports.count_holders.Given as goal

abbrev pub invariant-loop-report : goal.invariant-loop-report
invariant-loop-report l = record {
  fit : AreFit (drop l.report-index l.reports);
  few : l.count ≤ l.report-index;
  counted : l.count + length (holders (of_view l.view (drop l.report-index l.reports)) l.key) ≡ length (holders (of_view l.view l.reports) l.key);
}
