-- What the loops of the function of this folder keep.
use Rattle.std.proofs.Common.{◌≡◌, drop}
use Rattle.nz_base.specs.Log.{keys_of, is_above_last}
use Rattle.nz_merge.specs.Merged.{of_view, keys_above, put_all_in_order}
use Rattle.nz_merge.proofs.Sets.{keys_passing}
use Rattle.nz_merge.proofs.reports.keys_above.Given as goal

abbrev pub invariant-loop-report : goal.invariant-loop-report
invariant-loop-report l =
    put_all_in_order l.keys.keys (keys_passing (is_above_last (keys_of l.base)) (of_view l.view (drop l.report-index l.reports)))
    ≡ keys_above (keys_of l.base) (of_view l.view l.reports)
