-- What the function of this folder owes, proved.
use Rattle.std.proofs.Common.{List, None, sym, ap, ◌∙◌}
use Rattle.std.specs.Map.{values_of}
use Rattle.std.specs.BTreeMap.{is_at}
use Rattle.nz_base.specs.declared.key.Entry.{Entry}
use Rattle.nz_base.specs.Key.{key_cmp}
use Rattle.nz_buffers.specs.Buffers.{find_id}
use Rattle.nz_buffers.proofs.Removing.{found_held}
use Rattle.nz_buffers.proofs.Keeping.{lookup_is, keys_agree, none_found}
use Rattle.nz_buffers.proofs.early.Early.find.Goals as goal

pub returns-in-Some : goal.returns-in-Some
returns-in-Some c =
    let i = c.args.id in
    let es = c.self.inside.entries.entries in
    let k = c.in-Some.key.now in
    let agree = keys_agree i k es c.self.invariant.at c.self.invariant.log.own_ids (sym (c.in-Some.ensures.value ∙ c.self.invariant.found i)) in
    let is = c.get-in-Some.ensures.value ∙ lookup_is (is_at (key_cmp k)) i es agree ∙ ap (λ (xs : List Entry). find_id xs i) c.self.view_is in
    record { value = is; held = found_held c.get-in-Some.result c.args.self.now i is }

pub returns-in-None : goal.returns-in-None
returns-in-None c =
    let i = c.args.id in
    let is =
    sym (none_found (values_of c.self.inside.entries.entries) i (c.in-None.ensures.value ∙ c.self.invariant.found i))
    ∙ ap (λ (xs : List Entry). find_id xs i) c.self.view_is in
    record { value = is; held = found_held None c.args.self.now i is }
