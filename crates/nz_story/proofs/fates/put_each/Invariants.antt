-- What the loops of the function of this folder keep.
use Rattle.std.proofs.Common.{◌≡◌, ◌++◌, drop}
use Rattle.std.specs.List.{flat_map}
use Rattle.nz_story.specs.Fates.{delivery_text}
use Rattle.nz_story.specs.Passes.{deliveries_in}
use Rattle.nz_story.proofs.fates.put_each.Given as goal

-- what was written, and what is left after it
abbrev pub invariant-loop-delivery : goal.invariant-loop-delivery
invariant-loop-delivery l =
    l.out.items ++ flat_map delivery_text (deliveries_in (drop l.delivery-index l.deliveries))
    ≡ l.fn.out.items ++ flat_map delivery_text (deliveries_in l.deliveries)
