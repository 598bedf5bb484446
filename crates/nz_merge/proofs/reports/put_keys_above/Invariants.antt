-- What the loops of the function of this folder keep.
use Rattle.std.proofs.Common.{◌≡◌, drop}
use Rattle.std.specs.List.{filter}
use Rattle.nz_base.specs.Log.{keys_of, is_above_last}
use Rattle.nz_merge.specs.Merged.{put_all_in_order}
use Rattle.nz_merge.proofs.reports.put_keys_above.Given as goal

abbrev pub invariant-loop-entry : goal.invariant-loop-entry
invariant-loop-entry l =
    put_all_in_order l.keys.keys (filter (is_above_last (keys_of l.base)) (keys_of (drop l.entry-index l.log)))
    ≡ put_all_in_order l.fn.keys.keys (filter (is_above_last (keys_of l.base)) (keys_of l.log))
