-- What the function of this folder owes, proved.
use Rattle.std.proofs.Common.{◌∙◌, ap}
use Rattle.nz_window.specs.Samples.{median}
use Rattle.nz_window.proofs.Medians.{median-from_sort}
use Rattle.nz_window.proofs.recent.Recent.median.Goals as goal

pub returns-clause-median : goal.returns-clause-median
returns-clause-median c =
    median-from_sort _ c.sort_unstable.new.self c.sort_unstable.ensures.permutation c.sort_unstable.ensures.sorted ∙ ap median c.self.view_is
