-- What the function of this folder owes, proved.
use Rattle.std.proofs.Common.{◌≡◌, List, ◌++◌, OnOk, sym, ap, subst, ◌∙◌}
use Rattle.nz_base.specs.declared.key.Id.{Id}
use Rattle.nz_base.specs.declared.key.Entry.{Entry}
use Rattle.nz_base.specs.Key.{id_of}
use Rattle.nz_base.specs.Log.{keys_of, HaveOwnIds}
use Rattle.nz_log.specs.Synced.{displaced_entries}
use Rattle.nz_buffers.specs.Buffers.{without}
use Rattle.nz_machine.proofs.facts.Takes.{without_displaced, own_late}
use Rattle.nz_machine.proofs.held.Held.sync_entry.Goals as goal

pub keep_each-requires : goal.keep_each-requires
keep_each-requires c =
    let late = c.remove-3.ensures.rest ∙ ap (λ (j : Id). without c.args.self.now.late j) c.id-id.ensures in
    subst (λ (xs : List Entry). HaveOwnIds (keys_of xs)) (sym (λ i. late i ++ c.in_ok-displaced.ensures.displaced i))
    (own_late c.args.self.now.log c.args.self.now.early c.args.self.now.late c.args.entry c.requires.apart c.requires.fresh)

pub returns-clause-late : goal.returns-clause-late
returns-clause-late c =
    let late = c.remove-3.ensures.rest ∙ ap (λ (j : Id). without c.args.self.now.late j) c.id-id.ensures in
    let all : c.remove-3.new.self ++ c.in_ok-displaced.displaced
    ≡ without c.args.self.now.late (id_of c.args.entry.key) ++ displaced_entries c.args.self.now.log c.args.entry =
    λ i. late i ++ c.in_ok-displaced.ensures.displaced i in
    subst (λ (xs : List Entry). OnOk c.keep_each.result (c.keep_each.new.late ≡ xs))
    (all ∙ sym (without_displaced c.args.self.now.log c.args.self.now.late c.args.entry)) c.keep_each.ensures
