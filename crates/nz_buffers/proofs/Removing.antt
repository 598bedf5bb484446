-- What a removal leaves.
use Rattle.std.proofs.Common.{◌≡◌, ℕ, suc, ◌<◌, true, false, List, [], ◌∷◌, ◌++◌, length, take, drop, get_or, Option, Some}
use Rattle.std.proofs.Common.{None, is_some, Bor, IsSome, IsTrue, ◌↔◌, drop-cons, refl, sym, ap, subst, ◌∙◌, inl, inr}
use Rattle.std.proofs.lemmas.Bool.{cases_Bool, or_parts}
use Rattle.std.specs.Option.{option_copied}
use Rattle.std.specs.List.{remove}
use Rattle.std.proofs.lemmas.List.{map-append, take-append-drop}
use Rattle.nz_base.specs.declared.key.Id.{Id}
use Rattle.nz_base.specs.declared.key.Key.{Key}
use Rattle.nz_base.specs.declared.key.Entry.{Entry}
use Rattle.nz_base.specs.Key.{id_eq, id_of}
use Rattle.nz_base.specs.Log.{keys_of, has_id, HaveOwnIds, IsFirstPlace}
use Rattle.nz_base.proofs.Names.{same_id}
use Rattle.nz_buffers.specs.Buffers.{find_id, without}

-- ---- the entry with an id

-- none has the id, and nothing is taken out
pub without_none : (es : List Entry) (i : Id) → has_id (keys_of es) i ≡ false → without es i ≡ es
without_none [] i h = refl
without_none (e ∷ es) i h =
    rw ((or_parts (id_eq i (id_of e.key)) (has_id (keys_of es) i) h).0)
    (ap (λ (xs : List Entry). e ∷ xs) (without_none es i (or_parts (id_eq i (id_of e.key)) (has_id (keys_of es) i) h).1))

pub find_none : (es : List Entry) (i : Id) → has_id (keys_of es) i ≡ false → find_id es i ≡ None
find_none [] i h = refl
find_none (e ∷ es) i h =
    rw ((or_parts (id_eq i (id_of e.key)) (has_id (keys_of es) i) h).0)
    (find_none es i (or_parts (id_eq i (id_of e.key)) (has_id (keys_of es) i) h).1)

-- before the entry none has its id, and after it none has either
taken_split : (prefix : List Entry) (e : Entry) (back : List Entry) (i : Id) → has_id (keys_of prefix) i ≡ false
    → id_eq i (id_of e.key) ≡ true → has_id (keys_of back) i ≡ false
    → (find_id (prefix ++ e ∷ back) i ≡ Some e) × (without (prefix ++ e ∷ back) i ≡ prefix ++ back)
taken_split [] e back i away here after = (rw here refl, rw here (without_none back i after))
taken_split (f ∷ prefix) e back i away here after =
    let rest = taken_split prefix e back i (or_parts (id_eq i (id_of f.key)) (has_id (keys_of prefix) i) away).1 here after in
    let apart = (or_parts (id_eq i (id_of f.key)) (has_id (keys_of prefix) i) away).0 in
    (rw apart rest.0, rw apart (ap (λ (xs : List Entry). f ∷ xs) rest.1))

-- the ids after an entry differ from its own
own_id_after : (prefix : List Key) (k : Key) (back : List Key) → HaveOwnIds (prefix ++ k ∷ back) → has_id back (id_of k) ≡ false
own_id_after [] k back own = own.0
own_id_after (f ∷ prefix) k back own = own_id_after prefix k back own.1

split_at : (es : List Entry) (place : ℕ) (d : Entry) → place < length es → take place es ++ get_or es place d ∷ drop (suc place) es ≡ es
split_at es place d h = ap (λ (xs : List Entry). take place es ++ xs) (sym (drop-cons es place d h)) ∙ take-append-drop place es

-- the entry that is at the place is the one with the id, and the rest are the others
pub taken_at : (es : List Entry) (i : Id) (place : ℕ) (d : Entry) → HaveOwnIds (keys_of es) → IsFirstPlace es i place
    → (find_id es i ≡ Some (get_or es place d)) × (without es i ≡ remove es place)
taken_at es i place d own at =
    let prefix = take place es in
    let e = get_or es place d in
    let back = drop (suc place) es in
    let split : prefix ++ e ∷ back ≡ es = split_at es place d at.within in
    let parts : keys_of es ≡ keys_of prefix ++ e.key ∷ keys_of back = sym (ap keys_of split) ∙ map-append (λ (x : Entry). x.key) prefix (e ∷ back) in
    let after : has_id (keys_of back) i ≡ false =
    subst (λ (j : Id). has_id (keys_of back) j ≡ false) (sym (same_id i (id_of e.key) (at.here d)))
    (own_id_after (keys_of prefix) e.key (keys_of back) (subst HaveOwnIds parts own)) in
    let both = taken_split prefix e back i at.not_before (at.here d) after in
    (subst (λ (xs : List Entry). find_id xs i ≡ Some e) split both.0, subst (λ (xs : List Entry). without xs i ≡ prefix ++ back) split both.1)

-- it is found where the id is held
pub find_held : (es : List Entry) (i : Id) → is_some (find_id es i) ≡ has_id (keys_of es) i
find_held [] i = refl
find_held (e ∷ es) i =
    elim (cases_Bool (id_eq i (id_of e.key))) [
      | inl here ↦ rw here refl
      | inr away ↦ rw away (find_held es i)
    ]

-- the same of an entry that is lent
pub found_held : (found : Option (Bor Entry)) (es : List Entry) (i : Id) → option_copied found ≡ find_id es i → IsSome found ↔ IsTrue (has_id (keys_of es) i)
found_held found es i same =
    (λ some. sym (find_held es i) ∙ ap is_some (sym same) ∙ copied found ∙ some, λ held. sym (copied found) ∙ ap is_some same ∙ find_held es i ∙ held)
  where
    copied : (o : Option (Bor Entry)) → is_some (option_copied o) ≡ is_some o
    copied None = refl
    copied (Some x) = refl
