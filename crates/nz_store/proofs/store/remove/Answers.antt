-- What the function of this folder owes, proved.
use Rattle.std.proofs.Common.{ap, ◌∙◌}
use Rattle.nz_store.specs.Table.{entries_of}
use Rattle.nz_store.proofs.Tables.{looked_up, removed}
use Rattle.nz_store.proofs.store.remove.Goals as goal

pub returns-clause-table : goal.returns-clause-table
returns-clause-table c =
    ap entries_of c.remove.ensures.entries ∙ removed c.args.table.now.entries c.args.key.now c.requires.ordered

pub returns-clause-value : goal.returns-clause-value
returns-clause-value c = c.remove.ensures.value ∙ looked_up c.args.table.now.entries c.args.key.now
