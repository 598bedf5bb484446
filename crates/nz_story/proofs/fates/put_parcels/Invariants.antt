-- What the loops of the function of this folder keep.
use Rattle.std.proofs.Common.{◌≡◌, List, ◌++◌, take, drop}
use Rattle.nz_machine.specs.declared.event.Parcel.{Parcel}
use Rattle.nz_story.specs.Fates.{sends_lines}
use Rattle.nz_story.specs.Passes.{counts_of}
use Rattle.nz_story.proofs.fates.put_parcels.Given as goal

-- the parcels so far are counted, and their lines were written
abbrev pub invariant-loop-parcel : goal.invariant-loop-parcel
invariant-loop-parcel l = (earlier : List Parcel) → l.initial.counts ≡ counts_of l.scenario.faults earlier → record {
  counts : l.counts ≡ counts_of l.scenario.faults (earlier ++ take l.parcel-index l.sends);
  written :
      l.out.items ++ sends_lines l.scenario l.tick (earlier ++ take l.parcel-index l.sends) (drop l.parcel-index l.sends)
      ≡ l.fn.out.items ++ sends_lines l.scenario l.tick earlier l.sends;
}
