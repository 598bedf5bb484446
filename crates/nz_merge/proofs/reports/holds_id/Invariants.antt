-- What the loops of the function of this folder keep.
use Rattle.std.proofs.Common.{◌≡◌, drop}
use Rattle.nz_base.specs.Log.{keys_of, has_id}
use Rattle.nz_merge.proofs.reports.holds_id.Given as goal

abbrev pub invariant-loop-entry : goal.invariant-loop-entry
invariant-loop-entry l = has_id (keys_of (drop l.entry-index l.log)) l.id ≡ has_id (keys_of l.log) l.id
