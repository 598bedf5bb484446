-- What the function of this folder owes, proved.
use Rattle.std.proofs.Common.{rules}
use Rattle.std.proofs.lemmas.Grind.{common_steps}
use Rattle.nz_edge.proofs.Exposed.{loses_prefix}
use Rattle.nz_edge.proofs.mem_source.MemSourceSource.read.Goals as goal

pub returns-clause-given : goal.returns-clause-given
returns-clause-given c =
    rw (c.copy_from_slice.ensures.after, ← c.self.view_is, c.split_at.ensures.back, c.as_slice.ensures)
    (loses_prefix c.self.inside.bytes _ c.self.inside.given c.min-count.result (search (rules, common_steps)))
