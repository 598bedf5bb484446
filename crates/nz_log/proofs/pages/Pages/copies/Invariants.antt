-- What the loops of the function of this folder keep.
use Rattle.std.proofs.Common.{◌≡◌, ◌≤◌, take}
use Rattle.std.specs.List.{flat_map}
use Rattle.std.specs.Vec.{vec_capacity}
use Rattle.nz_log.proofs.pages.Pages.copies.Given as goal

abbrev pub invariant-loop-page : goal.invariant-loop-page
invariant-loop-page l = record {
  items : l.copies.items ≡ flat_map (λ page. page.items) (take l.page-index l.self-inside.full.items);
  room : l.self-inside.len ≤ vec_capacity l.copies;
}
