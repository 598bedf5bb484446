-- What the loops of the function of this folder keep.
use Rattle.std.proofs.Common.{◌≡◌, max, map, drop}
use Rattle.nz_merge.specs.Merged.{greatest}
use Rattle.nz_machine.proofs.reports.latest.Given as goal

abbrev pub invariant-loop-told : goal.invariant-loop-told
invariant-loop-told l = max l.latest (greatest (map (λ t. t.view) (drop l.told-index l.tells))) ≡ greatest (map (λ t. t.view) l.tells)
