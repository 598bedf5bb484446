-- What holds of each item holds of each item of a part, and how long parts are.
use Rattle.std.proofs.Common.{◌≡◌, ℕ, zero, suc, ◌+◌, ◌≤◌, Bool, true, false, List, [], ◌∷◌, ◌++◌, length, take, drop, map, Some, sym, ap, subst}
use Rattle.std.proofs.Common.{◌∙◌, inl, inr, arith}
use Rattle.std.proofs.lemmas.Bool.{cases_Bool, or_parts}
use Rattle.std.proofs.lemmas.List.{take_more}
use Rattle.std.proofs.lemmas.Option.{slice_get_within, get_or_from_slice_get}
use Rattle.std.specs.Prelude.{IfSome, slice_get, slice_index_or, ◌||◌}
use Rattle.std.specs.List.{AllByRecursion, filter, flat_map}
use Rattle.std.specs.Map.{lookup}
use Rattle.indexmap.specs.IndexMap.{insert_entry}
use Rattle.nz_base.specs.declared.key.Id.{Id}
use Rattle.nz_base.specs.declared.key.Entry.{Entry}
use Rattle.nz_base.specs.Key.{id_eq, id_of}
use Rattle.nz_base.specs.Log.{keys_of, has_id, HaveOwnIds}
use Rattle.nz_base.proofs.Names.{same_id}
use Rattle.nz_buffers.specs.Buffers.{find_id}
use Rattle.nz_machine.proofs.lists.EachItem.{all_append}

pub all_take : {X : Type 0} (P : X → Type 0) (n : ℕ) (xs : List X) → AllByRecursion P xs → AllByRecursion P (take n xs)
all_take P zero xs all = tt
all_take P (suc n) [] all = tt
all_take P (suc n) (x ∷ xs) all = (all.0, all_take P n xs all.1)

pub all_drop : {X : Type 0} (P : X → Type 0) (n : ℕ) (xs : List X) → AllByRecursion P xs → AllByRecursion P (drop n xs)
all_drop P zero xs all = all
all_drop P (suc n) [] all = tt
all_drop P (suc n) (x ∷ xs) all = all_drop P n xs all.1

pub all_map : {X Y : Type 0} (P : Y → Type 0) (f : X → Y) (xs : List X) → AllByRecursion (λ x. P (f x)) xs → AllByRecursion P (map f xs)
all_map P f [] all = tt
all_map P f (x ∷ xs) all = (all.0, all_map P f xs all.1)

pub all_flat_map : {X Y : Type 0} (P : Y → Type 0) (f : X → List Y) (xs : List X)
    → AllByRecursion (λ x. AllByRecursion P (f x)) xs → AllByRecursion P (flat_map f xs)
all_flat_map P f [] all = tt
all_flat_map P f (x ∷ xs) all = all_append P (f x) (flat_map f xs) all.0 (all_flat_map P f xs all.1)

pub all_get : {X : Type 0} (P : X → Type 0) (xs : List X) (i : ℕ) → AllByRecursion P xs → IfSome (slice_get xs i) P
all_get P [] i all = tt
all_get P (x ∷ xs) zero all = all.0
all_get P (x ∷ xs) (suc i) all = all_get P xs i all.1

pub all_index : {X : Type 0} (P : X → Type 0) (xs : List X) (i : ℕ) (d : X) → AllByRecursion P xs → P d → P (slice_index_or xs i d)
all_index P [] i d all other = other
all_index P (x ∷ xs) zero d all other = all.0
all_index P (x ∷ xs) (suc i) d all other = all_index P xs i d all.1 other

-- one item more
pub take_next : {X : Type 0} (xs : List X) (i : ℕ) (x : X) → slice_get xs i ≡ Some x → take (i + 1) xs ≡ take i xs ++ x ∷ []
take_next xs i x at = take_more xs i x (slice_get_within xs i x at) ∙ ap (λ y. take i xs ++ y ∷ []) (get_or_from_slice_get xs i x x at)

-- ---- finding

-- what is found by its id has the id
pub find_each : (P : Entry → Type 0) (es : List Entry) (id : Id) → AllByRecursion P es → IfSome (find_id es id) (λ e. P e × (id_eq id (id_of e.key) ≡ true))
find_each P [] id all = tt
find_each P (e ∷ es) id all =
    elim (cases_Bool (id_eq id (id_of e.key))) [
      | inl here ↦ rw here (all.0, here)
      | inr away ↦ rw away (find_each P es id all.1)
    ]

-- what a table has under an id
pub lookup_each : {V : Type 0} (P : Id × V → Type 0) (es : List (Id × V)) (id : Id) → AllByRecursion P es → IfSome (lookup (id_eq id) es) (λ v. P (id, v))
lookup_each P [] id all = tt
lookup_each P (e ∷ es) id all =
    elim (cases_Bool (id_eq id e.0)) [
      | inl here ↦ rw here (subst (λ (x : Id). P (x, e.1)) (sym (same_id id e.0 here)) all.0)
      | inr away ↦ rw away (lookup_each P es id all.1)
    ]

-- one value more under an id
pub insert_each : {V : Type 0} (P : Id × V → Type 0) (es : List (Id × V)) (id : Id) (v : V) → AllByRecursion P es
    → P (id, v) → AllByRecursion P (insert_entry id_eq es id v)
insert_each P [] id v all own = (own, tt)
insert_each P (e ∷ es) id v all own =
    elim (cases_Bool (id_eq id e.0)) [
      | inl here ↦ rw here (subst (λ (x : Id). P (x, v)) (same_id id e.0 here) own, all.1)
      | inr away ↦ rw away (all.0, insert_each P es id v all.1 own)
    ]

-- ---- lengths

pub few_either : {X : Type 0} (p q : X → Bool) (xs : List X) → length (filter (λ x. p x || q x) xs) ≤ length (filter p xs) + length (filter q xs)
few_either p q [] = omega arith
few_either p q (x ∷ xs) =
    let ih = few_either p q xs in
    elim (cases_Bool (p x)) [
      | inl first ↦ elim (cases_Bool (q x)) [
        | inl second ↦ rw (first, second) (omega (arith, ih))
        | inr none ↦ rw (first, none) (omega (arith, ih))
      ]
      | inr other ↦ elim (cases_Bool (q x)) [
        | inl second ↦ rw (other, second) (omega (arith, ih))
        | inr none ↦ rw (other, none) (omega (arith, ih))
      ]
    ]

none_of_id : (id : Id) (es : List Entry) → has_id (keys_of es) id ≡ false → length (filter (λ e. id_eq id (id_of e.key)) es) ≤ 0
none_of_id id [] none = omega arith
none_of_id id (e ∷ es) none =
    rw ((or_parts (id_eq id (id_of e.key)) (has_id (keys_of es) id) none).0)
    (none_of_id id es (or_parts (id_eq id (id_of e.key)) (has_id (keys_of es) id) none).1)

-- of one id there is one entry at most
pub one_of_id : (id : Id) (es : List Entry) → HaveOwnIds (keys_of es) → length (filter (λ e. id_eq id (id_of e.key)) es) ≤ 1
one_of_id id [] own = omega arith
one_of_id id (e ∷ es) own =
    elim (cases_Bool (id_eq id (id_of e.key))) [
      | inl here ↦
          let none = none_of_id id es (subst (λ (i : Id). has_id (keys_of es) i ≡ false) (sym (same_id id (id_of e.key) here)) own.0) in
          rw here (omega (arith, none))
      | inr away ↦ rw away (one_of_id id es own.1)
    ]
