-- What the loops of the function of this folder keep.
use Rattle.std.proofs.Common.{◌≡◌, drop}
use Rattle.std.specs.Prelude.{IfSome}
use Rattle.std.specs.Option.{option_copied}
use Rattle.nz_merge.specs.Merged.{IsFit, AreFit, of_view, with_synced, lowest}
use Rattle.nz_merge.proofs.Loops.{joined}
use Rattle.nz_merge.proofs.reports.most_synced.Given as goal

abbrev pub invariant-loop-report : goal.invariant-loop-report
invariant-loop-report l = record {
  left_fit : AreFit (drop l.report-index l.reports);
  best_fit : IfSome l.best (λ c. IsFit c.now);
  best : joined (option_copied l.best) (lowest (with_synced l.most (of_view l.view (drop l.report-index l.reports))))
      ≡ lowest (with_synced l.most (of_view l.view l.reports));
}
