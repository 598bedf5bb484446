-- What the loops of the function of this folder keep.
use Rattle.std.proofs.Common.{◌≡◌, true, ◌++◌, drop}
use Rattle.nz_base.specs.declared.key.Key.{Key}
use Rattle.nz_base.specs.Log.{has_key, AreRising}
use Rattle.nz_story.specs.States.{came}
use Rattle.nz_story.proofs.came.came_in_order.Given as goal

-- the keys to come are looked for among the rest alone
abbrev pub invariant-loop-key : goal.invariant-loop-key
invariant-loop-key l = record {
  came : l.keys.items ++ came l.before (drop l.key-index l.after) ≡ came l.before l.after;
  rising : AreRising l.rest;
  same : (k : Key) → has_key (drop l.key-index l.after) k ≡ true → has_key l.before k ≡ has_key l.rest k;
}
