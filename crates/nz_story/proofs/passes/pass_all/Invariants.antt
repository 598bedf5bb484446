-- What the loops of the function of this folder keep.
use Rattle.std.proofs.Common.{◌≡◌, List, ◌∷◌, [], ◌++◌, take, drop}
use Rattle.nz_machine.specs.declared.event.Parcel.{Parcel}
use Rattle.nz_machine.specs.runs.Schedule.{after_faults}
use Rattle.nz_story.specs.Passes.{deliveries_in, counts_of}
use Rattle.nz_story.proofs.passes.pass_all.Given as goal

-- the lines so far count the parcel, and the deliveries are as they leave them
abbrev pub invariant-loop-place : goal.invariant-loop-place
invariant-loop-place l = (earlier : List Parcel) → l.initial.counts ≡ counts_of l.faults earlier → record {
  counts : l.counts ≡ counts_of (take l.place l.faults) (earlier ++ l.parcel ∷ []) ++ counts_of (drop l.place l.faults) earlier;
  passed : deliveries_in l.deliveries.items ≡ after_faults l.tick earlier l.parcel (take l.place l.faults) (deliveries_in l.initial.deliveries.items);
}
