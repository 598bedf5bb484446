-- What the function of this folder owes, proved.
use Rattle.std.specs.Prelude.{IsTrue}
use Rattle.nz_merge.proofs.Merging.{entries}
use Rattle.nz_merge.proofs.laws.entries_come_from_logs.Goals as goal

pub returns : goal.returns
returns c = λ passes. entries (λ e. IsTrue (passes e))
