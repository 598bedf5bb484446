-- What the loops of the function of this folder keep.
use Rattle.std.proofs.Common.{◌≡◌, ◌++◌, take}
use Rattle.std.specs.Vec.{vec_capacity}
use Rattle.nz_log.proofs.pages.put_copies.Given as goal

abbrev pub invariant-loop-entry : goal.invariant-loop-entry
invariant-loop-entry l = record {
  items : l.copies.items ≡ l.fn.copies.items ++ take l.entry-index l.entries;
  capacity : vec_capacity l.copies ≡ vec_capacity l.fn.copies;
}
