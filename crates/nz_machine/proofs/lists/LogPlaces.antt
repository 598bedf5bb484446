-- The place of an id in a log, and in a longer one.
use Rattle.std.proofs.Common.{◌≡◌, ℕ, zero, suc, ◌<◌, true, List, [], ◌∷◌, ◌++◌, length, take, Option}
use Rattle.std.proofs.Common.{Some, None, is_some, refl, ap, ◌∙◌, inl, inr, arith, length-append}
use Rattle.std.proofs.lemmas.Bool.{cases_Bool, or_left, or_right}
use Rattle.std.specs.Prelude.{slice_get, slice_index_or}
use Rattle.std.specs.Option.{option_map}
use Rattle.std.proofs.lemmas.List.{take-append-le}
use Rattle.nz_base.specs.Prefixes.{IsPrefix}
use Rattle.nz_base.specs.declared.key.Id.{Id}
use Rattle.nz_base.specs.declared.key.Entry.{Entry}
use Rattle.nz_base.specs.Key.{id_eq, id_of}
use Rattle.nz_base.specs.Log.{keys_of, has_id, HaveOwnIds}
use Rattle.nz_base.proofs.Names.{id_eq_self}
use Rattle.nz_log.specs.Places.{place_of, digest_at, digest_of_log}
use Rattle.nz_log.proofs.Placing.{place_held, place_found, place_only}
use Rattle.nz_machine.specs.runs.World.{Has}

-- ---- longer lists

get_append : {X : Type 0} (xs ys : List X) (i : ℕ) → i < length xs → slice_get (xs ++ ys) i ≡ slice_get xs i
get_append [] ys i lt = absurd (omega (arith, lt))
get_append (x ∷ xs) ys zero lt = refl
get_append (x ∷ xs) ys (suc i) lt = get_append xs ys i (omega (arith, lt))

pub get_kept : {X : Type 0} (xs ys : List X) (i : ℕ) → IsPrefix xs ys → i < length xs → slice_get ys i ≡ slice_get xs i
get_kept {X} xs ys i p lt = ap (λ (l : List X). slice_get l i) p.whole ∙ get_append xs p.rest i lt

place_append : (xs ys : List Entry) (id : Id) (i : ℕ) → place_of xs id ≡ Some i → place_of (xs ++ ys) id ≡ Some i
place_append [] ys id i e = absurd cc
place_append (x ∷ xs) ys id i e =
    elim (cases_Bool (id_eq id (id_of x.key))) [
      | inl here ↦ rw here (rw here at e)
      | inr away ↦ rw away (further (place_of xs id) (λ n. place_append xs ys id n) (rw away at e))
    ]
  where
    further : (o : Option ℕ) → ((n : ℕ) → o ≡ Some n → place_of (xs ++ ys) id ≡ Some n) → option_map suc o ≡ Some i
        → option_map suc (place_of (xs ++ ys) id) ≡ Some i
    further None found e = absurd cc
    further (Some n) found e = ap (λ (o : Option ℕ). option_map suc o) (found n refl) ∙ e

-- a place in a log is one in a longer log
pub place_kept : (xs ys : List Entry) (id : Id) (i : ℕ) → IsPrefix xs ys → place_of xs id ≡ Some i → place_of ys id ≡ Some i
place_kept xs ys id i p e = ap (λ (l : List Entry). place_of l id) p.whole ∙ place_append xs p.rest id i e

pub place_within : (es : List Entry) (id : Id) (i : ℕ) → place_of es id ≡ Some i → i < length es
place_within es id i e = (place_found es id i e).within

pub digest_kept : (xs ys : List Entry) (place : ℕ) → place < length xs → IsPrefix xs ys → digest_at ys place ≡ digest_at xs place
digest_kept xs ys place lt p =
    ap (λ (l : List Entry). digest_of_log (take (suc place) l)) p.whole ∙ ap digest_of_log (take-append-le (suc place) xs p.rest (omega (arith, lt)))

-- ---- entries of a list

index_last : (es : List Entry) (e d : Entry) → slice_index_or (es ++ e ∷ []) (length es) d ≡ e
index_last [] e d = refl
index_last (x ∷ es) e d = index_last es e d

-- an entry at the end, whose id no other has
pub place_at_end : (es : List Entry) (e : Entry) → HaveOwnIds (keys_of (es ++ e ∷ [])) → place_of (es ++ e ∷ []) (id_of e.key) ≡ Some (length es)
place_at_end es e own =
    let long = length-append es (e ∷ []) in
    place_only (es ++ e ∷ []) (id_of e.key) (length es) own
    (record { within = omega (arith, long); here = λ d. ap (λ (x : Entry). id_eq (id_of e.key) (id_of x.key)) (index_last es e d) ∙ id_eq_self (id_of e.key) })

holds_id : (es : List Entry) (e : Entry) → Has es e → has_id (keys_of es) (id_of e.key) ≡ true
holds_id [] e h = absurd h
holds_id (x ∷ es) e (inl same) =
    let here = ap (λ (y : Entry). id_eq (id_of e.key) (id_of y.key)) same ∙ id_eq_self (id_of e.key) in
    or_left (id_eq (id_of e.key) (id_of x.key)) (has_id (keys_of es) (id_of e.key)) here
holds_id (x ∷ es) e (inr h) = or_right (id_eq (id_of e.key) (id_of x.key)) (has_id (keys_of es) (id_of e.key)) (holds_id es e h)

place_some : (o : Option ℕ) → is_some o ≡ true → (i : ℕ) × (o ≡ Some i)
place_some (Some i) h = (i, refl)
place_some None h = absurd cc

-- an entry of a list has a place
pub has_place : (es : List Entry) (e : Entry) → Has es e → (i : ℕ) × (place_of es (id_of e.key) ≡ Some i)
has_place es e h = place_some (place_of es (id_of e.key)) (place_held es (id_of e.key) ∙ holds_id es e h)
