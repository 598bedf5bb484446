-- What the loops of the function of this folder keep.
use Rattle.std.proofs.Common.{◌≡◌, ◌≤◌, ◌+◌, length, take, drop}
use Rattle.std.specs.Vec.{vec_capacity}
use Rattle.nz_log.proofs.pages.Pages.copies_from.Given as goal

abbrev pub invariant-loop-place : goal.invariant-loop-place
invariant-loop-place l = record {
  room : length l.self ≤ l.from + vec_capacity l.copies;
  items : l.copies.items ≡ drop l.from (take l.place l.self);
}
