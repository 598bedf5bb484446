-- What the loops of the function of this folder keep.
use Rattle.std.proofs.Common.{◌≡◌, drop}
use Rattle.nz_audit.specs.Leading.{first_view_brought}
use Rattle.nz_audit.proofs.prefixes.leaders.view_of_first.Given as goal

abbrev pub invariant-loop-parcel : goal.invariant-loop-parcel
invariant-loop-parcel l = first_view_brought (drop l.parcel-index l.sends) ≡ first_view_brought l.sends
