-- What the function of this folder owes, proved.
use Rattle.std.proofs.Common.{◌≡◌, false, List, ◌∷◌, ◌++◌, [], sym, ap, subst, ◌∙◌}
use Rattle.std.specs.Map.{values_of}
use Rattle.nz_base.specs.declared.key.Id.{Id}
use Rattle.nz_base.specs.declared.key.Entry.{Entry}
use Rattle.nz_base.specs.Key.{id_eq, id_of}
use Rattle.nz_base.specs.Log.{keys_of, has_id}
use Rattle.nz_buffers.specs.Keeping.{AreByIds}
use Rattle.nz_buffers.proofs.Removing.{find_none}
use Rattle.nz_buffers.proofs.Keeping.{lookup_is, ids_agree, by_ids_push}
use Rattle.indexmap.proofs.CallerLemmas.{insert_entry-new}
use Rattle.std.proofs.lemmas.List.{map-append}
use Rattle.indexmap.specs.IndexMap.{insert_entry}
use Rattle.nz_buffers.proofs.late.Late.keep.Goals as goal

pub invariant_of-self-2 : goal.invariant_of-self-2
invariant_of-self-2 c =
    let e = c.args.entry in
    let es = c.self.inside.entries.entries in
    let fresh = subst (λ (xs : List Entry). has_id (keys_of xs) (id_of e.key) ≡ false) (sym c.self.view_is) c.requires.fresh in
    let none =
    lookup_is (id_eq (id_of e.key)) (id_of e.key) es (ids_agree (id_of e.key) es c.self.invariant.at)
    ∙ find_none (values_of es) (id_of e.key) fresh in
    let is =
    c.in_ok-insert.ensures.entries ∙ ap (λ (i : Id). insert_entry id_eq es i e) c.id.ensures
    ∙ insert_entry-new id_eq c.self.inside.entries (id_of e.key) e none in
    subst AreByIds (sym is) (by_ids_push es e c.self.invariant fresh)

pub returns-clause-ok : goal.returns-clause-ok
returns-clause-ok c =
    let e = c.args.entry in
    let es = c.self.inside.entries.entries in
    let fresh = subst (λ (xs : List Entry). has_id (keys_of xs) (id_of e.key) ≡ false) (sym c.self.view_is) c.requires.fresh in
    let none =
    lookup_is (id_eq (id_of e.key)) (id_of e.key) es (ids_agree (id_of e.key) es c.self.invariant.at)
    ∙ find_none (values_of es) (id_of e.key) fresh in
    let is =
    c.in_ok-insert.ensures.entries ∙ ap (λ (i : Id). insert_entry id_eq es i e) c.id.ensures
    ∙ insert_entry-new id_eq c.self.inside.entries (id_of e.key) e none in
    ap values_of is ∙ map-append (λ (p : Id × Entry). p.1) es ((id_of e.key, e) ∷ []) ∙ ap (λ (xs : List Entry). xs ++ e ∷ []) c.self.view_is
