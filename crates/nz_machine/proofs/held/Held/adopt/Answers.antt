-- What the function of this folder owes, proved.
use Rattle.std.proofs.Common.{◌++◌, List, refl, sym, ap, subst, ◌∙◌}
use Rattle.std.proofs.lemmas.Result.{on_ok_weaker}
use Rattle.nz_base.specs.declared.key.Entry.{Entry}
use Rattle.nz_base.specs.Log.{keys_of, HaveOwnIds}
use Rattle.nz_log.specs.Synced.{left_out}
use Rattle.nz_machine.specs.declared.held.Held.{Held}
use Rattle.nz_machine.specs.rules.Taking.{with_held}
use Rattle.nz_machine.proofs.facts.Adopting.{apart_adopted}
use Rattle.nz_machine.proofs.facts.Adopts.{own_left, left_both, adopted}
use Rattle.nz_machine.proofs.facts.Takes.{same_apart}
use Rattle.nz_machine.proofs.held.Held.adopt.Goals as goal

pub keep_each-requires : goal.keep_each-requires
keep_each-requires c =
    let list = c.args.list in
    let late = c.drop_ids.ensures.late ∙ ap (left_out c.args.self.now.late) c.as_slice.ensures in
    let old = c.in_ok-left_out.ensures.left_out in
    subst (λ (xs : List Entry). HaveOwnIds (keys_of xs)) (λ i. sym late i ++ sym old i)
    (own_left c.args.self.now.log c.args.self.now.early c.args.self.now.late list c.requires.apart c.requires.list)

pub pass_over-requires : goal.pass_over-requires
pass_over-requires c =
    let list = c.args.list in
    let early = c.drop_ids.ensures.early ∙ ap (left_out c.args.self.now.early) c.as_slice.ensures in
    let late = c.drop_ids.ensures.late ∙ ap (left_out c.args.self.now.late) c.as_slice.ensures in
    let old = c.in_ok-left_out.ensures.left_out in
    let whole = c.in_ok-keep_each.ensures ∙ (λ i. late i ++ old i) ∙ sym (left_both c.args.self.now.log c.args.self.now.late list) in
    same_apart _ _ _ _ _ _ c.in_ok-left_out.ensures.ok early whole
    (apart_adopted c.args.self.now.log c.args.self.now.early c.args.self.now.late list c.requires.apart c.requires.list.log
    c.requires.list.few c.requires.list.fit)

pub returns : goal.returns
returns c = λ s.
    let h : Held = c.args.self.now in
    let list = c.args.list in
    let early = c.drop_ids.ensures.early ∙ ap (left_out h.early) c.as_slice.ensures in
    let late = c.drop_ids.ensures.late ∙ ap (left_out h.late) c.as_slice.ensures in
    let old = c.in_ok-left_out.ensures.left_out in
    let whole = c.in_ok-keep_each.ensures ∙ (λ i. late i ++ old i) in
    on_ok_weaker c.pass_over.result
    (λ is. adopted s h.log c.replace_all.new.self h.early h.late c.drop_ids.new.early c.keep_each.new.late
    _ _ list c.in_ok-left_out.ensures.ok early whole refl refl ∙ ap (with_held s) (sym is))
    c.pass_over.ensures
