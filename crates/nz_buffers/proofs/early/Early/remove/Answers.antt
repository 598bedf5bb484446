-- What the function of this folder owes, proved.
use Rattle.std.proofs.Common.{List, None, sym, ap, subst, ◌∙◌}
use Rattle.std.specs.Map.{values_of}
use Rattle.std.specs.BTreeMap.{is_at}
use Rattle.nz_base.specs.declared.key.Key.{Key}
use Rattle.nz_base.specs.declared.key.Entry.{Entry}
use Rattle.nz_base.specs.Key.{key_cmp}
use Rattle.nz_buffers.specs.Buffers.{find_id, without}
use Rattle.nz_buffers.specs.Keeping.{IsKeptBuffer}
use Rattle.nz_buffers.proofs.Keeping.{lookup_is, removed_is, keys_agree, kept_removed, none_found, none_without, answer_held}
use Rattle.nz_buffers.proofs.early.Early.remove.Goals as goal

pub invariant_of-self : goal.invariant_of-self
invariant_of-self c =
    let i = c.args.id in
    let es = c.self.inside.entries.entries in
    let keys = c.self.inside.keys.entries in
    subst (λ (xs : List (Key × Entry)). IsKeptBuffer xs c.swap_remove.new.self.entries) (sym c.remove.ensures.entries)
    (kept_removed es keys c.swap_remove.new.self.entries i c.in-Some.key c.self.invariant (sym c.in-Some.ensures.value) (λ j. c.in-Some.ensures.updates.0 j))

pub returns-in-Some : goal.returns-in-Some
returns-in-Some c =
    let i = c.args.id in
    let es = c.self.inside.entries.entries in
    let k = c.in-Some.key in
    let agree = keys_agree i k es c.self.invariant.at c.self.invariant.log.own_ids (sym (c.in-Some.ensures.value ∙ c.self.invariant.found i)) in
    let is = c.remove.ensures.value ∙ lookup_is (is_at (key_cmp k)) i es agree ∙ ap (λ (xs : List Entry). find_id xs i) c.self.view_is in
    record {
      value = is;
      held = answer_held c.remove.result c.args.self.now i is;
      rest =
          ap values_of c.remove.ensures.entries ∙ removed_is (is_at (key_cmp k)) i es agree c.self.invariant.log.own_ids
          ∙ ap (λ (xs : List Entry). without xs i) c.self.view_is;
    }

pub returns-in-None : goal.returns-in-None
returns-in-None c =
    let i = c.args.id in
    let vs = values_of c.self.inside.entries.entries in
    let none = none_found vs i (c.in-None.ensures.value ∙ c.self.invariant.found i) in
    let is = sym none ∙ ap (λ (xs : List Entry). find_id xs i) c.self.view_is in
    record {
      value = is;
      held = answer_held None c.args.self.now i is;
      rest = none_without vs i none ∙ ap (λ (xs : List Entry). without xs i) c.self.view_is;
    }
