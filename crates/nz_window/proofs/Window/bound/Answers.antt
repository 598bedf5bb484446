-- What the function of this folder owes, proved.
use Rattle.std.proofs.Common.{◌≤◌, List, ℕ, take, map, fold, max, arith}
use Rattle.std.proofs.lemmas.List.Elements.{All-take}
use Rattle.nz_window.specs.Samples.{AreKept, median}
use Rattle.nz_window.proofs.Bounds.{greatest-bounded}
use Rattle.nz_window.proofs.Window.bound.Goals as goal

pub returns-clause-most : goal.returns-clause-most
returns-clause-most c =
    let seen : List (List ℕ) = take c.loop-recent.recent-index (take c.self.inside.size c.self.inside.replicas) in
    let small : fold max 0 (map median seen) ≤ 10000 =
    greatest-bounded seen 0 (omega arith)
    (All-take AreKept c.loop-recent.recent-index (take c.self.inside.size c.self.inside.replicas) c.self.invariant.window.kept) in
    omega (arith, c.loop-recent.invariant.greatest)
