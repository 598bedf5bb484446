-- Lists of keys that begin with others.
use Rattle.std.proofs.Common.{◌≡◌, true, List, [], ◌∷◌, ◌++◌, refl, sym, ap, subst, ◌∙◌}
use Rattle.std.proofs.lemmas.Bool.{and_parts, and_from}
use Rattle.nz_base.specs.declared.key.Key.{Key}
use Rattle.nz_base.specs.Key.{key_eq}
use Rattle.nz_base.specs.Log.{has_key}
use Rattle.nz_base.specs.Prefixes.{IsPrefix}
use Rattle.nz_base.proofs.Names.{key_eq_self, same_key}
use Rattle.nz_merge.specs.Merged.{begins_with}

-- each key of one list is in the other
abbrev pub AreAmong : List Key → List Key → Type 0
AreAmong xs ys = (x : Key) → has_key xs x ≡ true → has_key ys x ≡ true

pub begins_append : (prefix rest : List Key) → begins_with (prefix ++ rest) prefix ≡ true
begins_append [] rest = refl
begins_append (k ∷ prefix) rest = and_from (key_eq k k) (begins_with (prefix ++ rest) prefix) (key_eq_self k) (begins_append prefix rest)

-- what begins with a prefix is the prefix and a rest
pub rest_of : (keys prefix : List Key) → begins_with keys prefix ≡ true → (rest : List Key) × (keys ≡ prefix ++ rest)
rest_of keys [] h = (keys, refl)
rest_of [] (f ∷ prefix) h = absurd cc
rest_of (k ∷ keys) (f ∷ prefix) h =
    let more = rest_of keys prefix (and_parts (key_eq f k) (begins_with keys prefix) h).1 in
    (more.0, ap (λ (x : Key). x ∷ keys) (sym (same_key f k (and_parts (key_eq f k) (begins_with keys prefix) h).0)) ∙ ap (λ (xs : List Key). f ∷ xs) more.1)

-- the test says that the list is a prefix
pub prefix_of_test : (prefix keys : List Key) → begins_with keys prefix ≡ true → IsPrefix prefix keys
prefix_of_test prefix keys h = let more = rest_of keys prefix h in record { rest = more.0; whole = more.1 }

-- and the other way
pub test_of_prefix : (prefix keys : List Key) → IsPrefix prefix keys → begins_with keys prefix ≡ true
test_of_prefix prefix keys p = subst (λ (xs : List Key). begins_with xs prefix ≡ true) (sym p.whole) (begins_append prefix p.rest)
