-- What the function of this folder owes, proved.
use Rattle.std.proofs.Common.{List, sym, subst}
use Rattle.std.specs.List.{AllByRecursion}
use Rattle.nz_base.specs.declared.key.Entry.{Entry}
use Rattle.nz_machine.specs.rules.Facts.{FitsEntry}
use Rattle.nz_machine.proofs.facts.SentFields.{entries_of_fit}
use Rattle.nz_sync.proofs.fetches.on_fetch_reply.Goals as goal

pub keep_late_entries-requires : goal.keep_late_entries-requires
keep_late_entries-requires c =
    subst (λ (es : List Entry). AllByRecursion FitsEntry es) (sym c.as_slice.ensures) (entries_of_fit 0 64 c.args.body.now.entries c.requires.1)
