-- What the loops of the function of this folder keep.
use Rattle.std.proofs.Common.{◌≡◌, ◌∷◌, map, take}
use Rattle.nz_machine.proofs.reports.all_reports.Given as goal

abbrev pub invariant-loop-reported : goal.invariant-loop-reported
invariant-loop-reported l = l.reports ≡ l.fn.own ∷ map (λ r. r.report) (take l.reported-index l.collected)
