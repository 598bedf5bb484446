-- What the function of this folder owes, proved.
use Rattle.std.proofs.Common.{length, ap, ◌∙◌}
use Rattle.nz_log.proofs.Paging.{whole_length}
use Rattle.nz_log.proofs.pages.Pages.len.Goals as goal

pub returns : goal.returns
returns c = whole_length _ c.self.inside.full.items c.self.inside.last.items c.self.inside.len c.self.invariant ∙ ap length c.self.view_is
