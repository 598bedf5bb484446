-- What the loops of the function of this folder keep.
use Rattle.std.proofs.Common.{◌≡◌, ◌∷◌, ◌++◌, length, take, drop}
use Rattle.nz_log.proofs.pages.Pages.move_on.Given as goal

abbrev pub invariant-loop-at : goal.invariant-loop-at
invariant-loop-at l = record {
  long : length l.self ≡ length l.fn.self;
  moved : take l.at l.self ++ l.hand ∷ drop l.at l.self ≡ take l.place l.fn.self ++ l.fn.entry ∷ drop l.place l.fn.self;
}
