-- What the loops of the function of this folder keep.
use Rattle.std.proofs.Common.{◌≡◌}
use Rattle.nz_merge.specs.Merged.{of_view, merged_from}
use Rattle.nz_merge.proofs.Turns.{in_all}
use Rattle.nz_merge.proofs.new_log.merge.Given as goal

abbrev pub invariant-loop-key : goal.invariant-loop-key
invariant-loop-key l = in_all l.least (of_view l.view l.reports) l.log l.key-iterator ≡ merged_from l.least (of_view l.view l.reports)
