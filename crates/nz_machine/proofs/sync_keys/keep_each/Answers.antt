-- What the function of this folder owes, proved.
use Rattle.std.proofs.Common.{List, ◌++◌, sym, ap, subst, ◌∙◌}
use Rattle.std.specs.Vec.Iter.{into_iter_items}
use Rattle.nz_base.specs.declared.key.Entry.{Entry}
use Rattle.nz_base.specs.Log.{keys_of, HaveOwnIds}
use Rattle.nz_machine.proofs.facts.Takes.{next_fresh}
use Rattle.nz_machine.proofs.sync_keys.keep_each.Goals as goal

pub keep-requires : goal.keep-requires
keep-requires c =
    let late = c.loop-entry.late in
    let one = ap (λ (xs : List Entry). late ++ xs) c.in-Some.ensures.steps.0 in
    record {
      fresh = next_fresh late c.in-Some.entry (into_iter_items c.next.new.self)
          (subst (λ (xs : List Entry). HaveOwnIds (keys_of xs)) (sym c.loop-entry.invariant.all ∙ one) c.requires);
    }
