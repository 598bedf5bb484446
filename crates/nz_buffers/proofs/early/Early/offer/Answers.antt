-- What the function of this folder owes, proved.
use Rattle.std.proofs.Common.{◌≡◌, true, false, List, Some, sym, ap, subst, ◌∙◌, if◌then◌else◌}
use Rattle.std.specs.Map.{lookup, values_of}
use Rattle.nz_base.specs.declared.key.Id.{Id}
use Rattle.nz_base.specs.declared.key.Key.{Key}
use Rattle.nz_base.specs.declared.key.Entry.{Entry}
use Rattle.nz_base.specs.Key.{id_eq, id_of}
use Rattle.nz_base.specs.Log.{keys_of, has_id}
use Rattle.nz_buffers.specs.Buffers.{is_past, insert_by_key}
use Rattle.nz_buffers.specs.Keeping.{IsKeptBuffer}
use Rattle.nz_buffers.proofs.Keeping.{kept_inserted, inserted_is}
use Rattle.nz_buffers.proofs.early.Early.offer.Goals as goal

pub invariant_of-self-2 : goal.invariant_of-self-2
invariant_of-self-2 c =
    let e = c.args.entry in
    let es = c.self.inside.entries.entries in
    let keys = c.self.inside.keys.entries in
    let fresh = subst (λ (xs : List Entry). has_id (keys_of xs) (id_of e.key) ≡ false) (sym c.self.view_is) c.requires.fresh in
    subst (λ (xs : List (Key × Entry)). IsKeptBuffer xs c.note_key.new.keys.entries) (sym c.in_ok-insert.ensures.entries)
    (kept_inserted es keys c.note_key.new.keys.entries e c.self.invariant fresh
    (λ i. c.note_key.ensures i ∙ ap (λ (m : List (Id × Key)). if id_eq (id_of e.key) i then Some e.key else lookup (id_eq i) m) c.reserve.ensures.entries))

pub returns-clause-ok : goal.returns-clause-ok
returns-clause-ok c =
    let e = c.args.entry in
    let es = c.self.inside.entries.entries in
    let fresh = subst (λ (xs : List Entry). has_id (keys_of xs) (id_of e.key) ≡ false) (sym c.self.view_is) c.requires.fresh in
    let past : is_past c.args.last e.key ≡ true = sym c.is_past_last.ensures ∙ c.if-not-is_past_last.false in
    ap values_of c.in_ok-insert.ensures.entries ∙ inserted_is es e c.self.invariant.at fresh
    ∙ rw past (ap (λ (xs : List Entry). insert_by_key xs e) c.self.view_is)
