-- What the function of this folder owes, proved.
use Rattle.std.proofs.Common.{◌+◌, List, sym, ap, subst, ◌∙◌}
use Rattle.nz_base.specs.declared.key.Entry.{Entry}
use Rattle.nz_log.specs.Synced.{Log, log_with_synced, displaced_entries}
use Rattle.nz_log.specs.Keeping.{IsKeptLog, IsNext}
use Rattle.nz_log.proofs.Next.{displaces_none, modified_in_place, kept_in_place}
use Rattle.nz_log.proofs.log.HashedLog.sync_next.Goals as goal

pub invariant_of-self : goal.invariant_of-self
invariant_of-self c =
    let log : Log = record { entries = c.self.inside.entries; synced = c.self.inside.synced } in
    let next = subst (λ (l : Log). IsNext l c.args.entry.key) (sym c.self.view_is) c.requires in
    subst (λ (xs : List Entry). IsKeptLog
    (record { entries = xs; synced = c.self.inside.synced + 1 }) c.self.inside.digests.items
    c.self.inside.places.entries) (sym c.replace.ensures.rest)
    (kept_in_place log c.args.entry c.self.invariant.sound next c.self.inside.digests.items c.self.inside.places.entries c.self.invariant)

pub returns-clause-log : goal.returns-clause-log
returns-clause-log c =
    let log : Log = record { entries = c.self.inside.entries; synced = c.self.inside.synced } in
    let next = subst (λ (l : Log). IsNext l c.args.entry.key) (sym c.self.view_is) c.requires in
    ap (λ (xs : List Entry). record { entries = xs; synced = c.self.inside.synced + 1 }) c.replace.ensures.rest
    ∙ sym (modified_in_place log c.args.entry c.self.invariant.sound next)
    ∙ ap (λ (l : Log). log_with_synced l c.args.entry) c.self.view_is

pub returns-clause-none : goal.returns-clause-none
returns-clause-none c =
    let log : Log = record { entries = c.self.inside.entries; synced = c.self.inside.synced } in
    let next = subst (λ (l : Log). IsNext l c.args.entry.key) (sym c.self.view_is) c.requires in
    sym (ap (λ (l : Log). displaced_entries l c.args.entry) c.self.view_is) ∙ displaces_none log c.args.entry c.self.invariant.sound next
