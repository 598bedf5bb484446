-- What the function of this folder owes, proved.
use Rattle.std.proofs.Common.{◌≡◌, true, List, [], Ok, ap, subst, ◌∙◌}
use Rattle.std.proofs.lemmas.Result.{err_from_is_err_and}
use Rattle.nz_base.specs.declared.key.Entry.{Entry}
use Rattle.nz_base.specs.Key.{id_eq, id_of}
use Rattle.indexmap.specs.IndexSet.{insert_key}
use Rattle.nz_msg.specs.Reading.{Fails}
use Rattle.nz_msg.specs.Codec.{items_at}
use Rattle.nz_msg.specs.Fields.{may_follow, next_entry}
use Rattle.nz_msg.proofs.Follows.{noted_more}
use Rattle.nz_msg.proofs.Loops.{goes_on, ends, is_done}
use Rattle.nz_msg.proofs.lists.list_of_entries.Goals as goal

pub returns-in_err-entry : goal.returns-in_err-entry
returns-in_err-entry c =
    let p = err_from_is_err_and c.from_residual-in_err-entry.result c.from_residual-in_err-entry.ensures.1 in
    rw (p.1, p.2) (ends next_entry c.in_err-entry.field-0.0 c.loop.entries c.args.count c.loop.counter c.loop.rest
    (items_at next_entry [] c.args.count c.args.bytes) c.loop-test.true
    (subst (λ (before : List Entry). Fails c.in_err-entry.field-0.0 ((next_entry before).get c.loop.rest))
    c.as_slice.ensures c.in_err-entry.ensures.value) c.loop.invariant.whole)

pub loop-preserved : goal.loop-preserved
loop-preserved c = record {
  whole =
      rw c.in_ok-push.ensures.ok (goes_on next_entry c.loop.entries c.args.count c.loop.counter c.loop.rest
      c.in_ok-entry.entry c.in_ok-entry.after (items_at next_entry [] c.args.count c.args.bytes) c.loop-test.true
      (subst (λ (before : List Entry). (next_entry before).get c.loop.rest
      ≡ Ok (c.in_ok-entry.entry, c.in_ok-entry.after)) c.as_slice.ensures c.in_ok-entry.ensures.value) c.loop.invariant.whole);
  noted =
      let next : may_follow (λ (e : Entry). e.key) c.loop.entries c.in_ok-entry.entry.key ≡ true =
      subst (λ (before : List Entry). may_follow (λ (e : Entry). e.key) before c.in_ok-entry.entry.key ≡ true)
      c.as_slice.ensures c.in_ok-entry.ensures.follows in
      let keys : c.insert.new.self.keys ≡ insert_key id_eq c.loop.ids.keys (id_of c.in_ok-entry.entry.key) =
      c.in_ok-insert.ensures.keys ∙ ap (insert_key id_eq c.loop.ids.keys) c.id.ensures in
      rw (c.in_ok-push.ensures.ok, keys) (noted_more c.loop.entries c.loop.ids.keys c.in_ok-entry.entry c.loop.invariant.noted next);
}

pub returns : goal.returns
returns c =
    is_done next_entry c.loop.entries c.args.count c.loop.counter c.loop.rest
    (items_at next_entry [] c.args.count c.args.bytes) c.loop-test.false c.loop.invariant.whole
