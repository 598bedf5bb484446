-- What the function of this folder owes, proved.
use Rattle.std.proofs.Common.{ap, ◌∙◌}
use Rattle.nz_buffers.proofs.Keeping.{first_at}
use Rattle.nz_buffers.specs.Buffers.{first_key}
use Rattle.nz_buffers.proofs.early.Early.first.Goals as goal

pub returns-in-Some : goal.returns-in-Some
returns-in-Some c =
    first_at c.self.inside.entries.entries c.in-Some.key.now c.in-Some.field-0-1.now c.self.invariant.at
    c.in-Some.ensures.first ∙ ap first_key c.self.view_is
