-- What a table of ids has after one value was put into it.
use Rattle.std.proofs.Common.{◌≡◌, false, cond, List, [], ◌∷◌, Some, None, sym, ap, ◌∙◌}
use Rattle.std.specs.Map.{lookup}
use Rattle.std.proofs.lemmas.Bool.{cond_both}
use Rattle.indexmap.specs.IndexMap.{insert_entry}
use Rattle.nz_base.specs.declared.key.Id.{Id}
use Rattle.nz_base.specs.Key.{id_eq}
use Rattle.nz_base.proofs.Names.{id_eq_self, same_id}

-- what was put into a table last is found
pub lookup_inserted : {V : Type 0} (es : List (Id × V)) (id : Id) (v : V) → lookup (id_eq id) (insert_entry id_eq es id v) ≡ Some v
lookup_inserted [] id v = ap (λ b. cond b (Some v) None) (id_eq_self id)
lookup_inserted {V} (e ∷ es) id v =
    cond_both (id_eq id e.0) ((e.0, v) ∷ es) (e ∷ insert_entry id_eq es id v) (λ (t : List (Id × V)). lookup (id_eq id) t ≡ Some v)
    (λ t. ap (λ b. cond b (Some v) (lookup (id_eq id) es)) t)
    (λ f. ap (λ b. cond b (Some e.1) (lookup (id_eq id) (insert_entry id_eq es id v))) f ∙ lookup_inserted es id v)

-- the others stay
pub lookup_other : {V : Type 0} (es : List (Id × V)) (x id : Id) (v : V) → id_eq x id ≡ false
    → lookup (id_eq x) (insert_entry id_eq es id v) ≡ lookup (id_eq x) es
lookup_other [] x id v h = ap (λ b. cond b (Some v) None) h
lookup_other {V} (e ∷ es) x id v h =
    cond_both (id_eq id e.0) ((e.0, v) ∷ es) (e ∷ insert_entry id_eq es id v) (λ (t : List (Id × V)). lookup (id_eq x) t ≡ lookup (id_eq x) (e ∷ es))
    (λ t. let other : id_eq x e.0 ≡ false = ap (id_eq x) (sym (same_id id e.0 t)) ∙ h in
    ap (λ b. cond b (Some v) (lookup (id_eq x) es)) other ∙ sym (ap (λ b. cond b (Some e.1) (lookup (id_eq x) es)) other))
    (λ _. ap (cond (id_eq x e.0) (Some e.1)) (lookup_other es x id v h))
