-- What the function of this folder owes, proved.
use Rattle.std.proofs.Common.{sym, subst}
use Rattle.nz_base.specs.Log.{IsLog}
use Rattle.nz_base.proofs.Logs.{log_filter}
use Rattle.nz_buffers.proofs.list_early.ListEarlyEarlyRep.remove.Goals as goal

pub invariant_of-self : goal.invariant_of-self
invariant_of-self c = subst IsLog (sym c.take_out.ensures.rest) (log_filter _ c.self.inside.entries.items c.self.invariant)
