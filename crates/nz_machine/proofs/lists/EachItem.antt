-- What holds of each item of a list holds of each of its parts, and of lists that were put together.
use Rattle.std.proofs.Common.{ℕ, zero, suc, Bool, replicate, List, [], ◌∷◌, ◌++◌, inl, inr}
use Rattle.std.proofs.lemmas.Bool.{cases_Bool}
use Rattle.std.proofs.lemmas.List.Elements.{All-from_recursion, recursion_from_All}
use Rattle.std.proofs.lemmas.List.Sorted.{All-permutation}
use Rattle.std.specs.List.{AllByRecursion, filter}
use Rattle.std.specs.Prelude.{IsPermutation}
use Rattle.indexmap.specs.IndexMap.{insert_entry}
use Rattle.nz_base.specs.declared.key.Entry.{Entry}
use Rattle.nz_base.specs.Key.{key_below}
use Rattle.nz_buffers.specs.Buffers.{insert_by_key}

pub all_append : {X : Type 0} (P : X → Type 0) (xs ys : List X) → AllByRecursion P xs → AllByRecursion P ys → AllByRecursion P (xs ++ ys)
all_append P [] ys prefix back = back
all_append P (x ∷ xs) ys prefix back = (prefix.0, all_append P xs ys prefix.1 back)

pub all_of_prefix : {X : Type 0} (P : X → Type 0) (xs ys : List X) → AllByRecursion P (xs ++ ys) → AllByRecursion P xs
all_of_prefix P [] ys all = tt
all_of_prefix P (x ∷ xs) ys all = (all.0, all_of_prefix P xs ys all.1)

pub all_back : {X : Type 0} (P : X → Type 0) (xs ys : List X) → AllByRecursion P (xs ++ ys) → AllByRecursion P ys
all_back P [] ys all = all
all_back P (x ∷ xs) ys all = all_back P xs ys all.1

pub all_filter : {X : Type 0} (P : X → Type 0) (p : X → Bool) (xs : List X) → AllByRecursion P xs → AllByRecursion P (filter p xs)
all_filter P p [] all = tt
all_filter P p (x ∷ xs) all =
    elim (cases_Bool (p x)) [
      | inl kept ↦ rw kept (all.0, all_filter P p xs all.1)
      | inr gone ↦ rw gone (all_filter P p xs all.1)
    ]

-- of each item of one order, of each of another
pub all_permuted : {X : Type 0} (P : X → Type 0) (xs ys : List X) → IsPermutation xs ys → AllByRecursion P xs → AllByRecursion P ys
all_permuted P xs ys same all = recursion_from_All P ys (All-permutation P xs ys same (All-from_recursion P xs all))

pub all_imply : {X : Type 0} (P Q : X → Type 0) → ((x : X) → P x → Q x) → (xs : List X) → AllByRecursion P xs → AllByRecursion Q xs
all_imply P Q h [] all = tt
all_imply P Q h (x ∷ xs) all = (h x all.0, all_imply P Q h xs all.1)

-- with an entry put in by its key
pub all_insert : (P : Entry → Type 0) (es : List Entry) (e : Entry) → AllByRecursion P es → P e → AllByRecursion P (insert_by_key es e)
all_insert P [] e all own = (own, tt)
all_insert P (f ∷ fs) e all own =
    elim (cases_Bool (key_below e.key f.key)) [
      | inl lower ↦ rw lower (own, all)
      | inr not_lower ↦ rw not_lower (all.0, all_insert P fs e all.1 own)
    ]

-- with a value put at its key
pub all_entry : {K V : Type 0} (P : K × V → Type 0) (eq : K → K → Bool) (es : List (K × V)) (k : K) (v : V)
    → AllByRecursion P es → ((j : K) → P (j, v)) → AllByRecursion P (insert_entry eq es k v)
all_entry P eq [] k v all own = (own k, tt)
all_entry P eq (e ∷ es) k v all own =
    elim (cases_Bool (eq k e.0)) [
      | inl here ↦ rw here (own e.0, all.1)
      | inr away ↦ rw away (all.0, all_entry P eq es k v all.1 own)
    ]

pub all_replicate : {X : Type 0} (P : X → Type 0) (n : ℕ) (x : X) → P x → AllByRecursion P (replicate n x)
all_replicate P zero x own = tt
all_replicate P (suc n) x own = (own, all_replicate P n x own)
