-- What the function of this folder owes, proved.
use Rattle.std.proofs.Common.{◌≡◌, ℕ, List, sym, ap, ◌∙◌}
use Rattle.std.specs.Global.{Vec}
use Rattle.std.specs.BTreeMap.{BTreeMap, insert_entry}
use Rattle.nz_store.specs.Entries.{with_value}
use Rattle.nz_store.specs.Table.{entries_of, table_key_cmp}
use Rattle.nz_store.proofs.Tables.{inserted, replaced}
use Rattle.nz_store.proofs.store.set.Goals as goal

pub returns-in-Some-clause-ok : goal.returns-in-Some-clause-ok
returns-in-Some-clause-ok c =
    ap entries_of (c.get_mut.follows.holds c.in_ok-value.value).0
    ∙ replaced c.args.table.now.entries c.args.key.now c.in_ok-value.value _ c.requires.ordered (sym c.in-Some.ensures.value)
    ∙ ap (with_value (entries_of c.args.table.now.entries) c.args.key.now) c.in_ok-value.ensures

pub returns-clause-ok : goal.returns-clause-ok
returns-clause-ok c =
    let key_is : c.in_ok-key.key.items ≡ c.args.key.now = c.in_ok-key.ensures.items in
    ap entries_of c.in_ok-insert.ensures.entries
    ∙ ap (λ (t : BTreeMap (Vec ℕ) (List ℕ)). entries_of (insert_entry table_key_cmp t.entries c.in_ok-key.key c.in_ok-value.value))
    c.get_mut.follows.holds-at-none
    ∙ inserted c.args.table.now.entries c.in_ok-key.key c.in_ok-value.value
    ∙ (λ i. with_value (entries_of c.args.table.now.entries) (key_is i) (c.in_ok-value.ensures i))
