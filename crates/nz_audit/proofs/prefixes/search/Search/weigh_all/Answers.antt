-- What the function of this folder owes, proved.
use Rattle.std.proofs.Common.{List, ◌++◌, sym, subst}
use Rattle.std.specs.Prelude.{IsPermutation}
use Rattle.std.specs.List.{AllByRecursion}
use Rattle.std.proofs.lemmas.Result.{on_ok_weaker}
use Rattle.nz_audit.specs.declared.accepted.answers.Traced.{Traced}
use Rattle.nz_audit.specs.Prefixes.{all_traced, IsWithin, IsFound}
use Rattle.nz_machine.proofs.lists.EachItem.{all_permuted}
use Rattle.nz_audit.proofs.SearchFinds.{found_permuted}
use Rattle.nz_audit.proofs.prefixes.search.Search.weigh_all.Goals as goal

pub weigh_each-requires-clause-within : goal.weigh_each-requires-clause-within
weigh_each-requires-clause-within c =
    let j = c.args.journal.now in
    subst (AllByRecursion (IsWithin j)) (sym c.as_slice.ensures.value)
    (all_permuted (IsWithin j) c.in_ok-accepted.accepted.items c.put_in_order.new.accepted.items c.put_in_order.ensures
    (subst (AllByRecursion (IsWithin j)) (sym c.in_ok-accepted.ensures) c.requires.within))

pub returns-clause-found : goal.returns-clause-found
returns-clause-found c = on_ok_weaker c.weigh_each.result (λ found done h.
    let j = c.args.journal.now in
    let s = c.weigh_each.new.self in
    let traced = all_traced j c.args.answers.now in
    let ordered = c.put_in_order.new.accepted.items in
    found_permuted j done traced ordered s
    (subst (λ (l : List Traced). IsPermutation l ordered) c.in_ok-accepted.ensures c.put_in_order.ensures)
    (subst (λ (l : List Traced). IsFound j (done ++ l) s) c.as_slice.ensures.value (found done h))) c.weigh_each.ensures.found
