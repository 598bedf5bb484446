-- A list that is put in the place of a log, with which it may have its first keys in common.
use Rattle.std.proofs.Common.{◌≡◌, ℕ, ◌+◌, ◌<◌, true, false, not, List, [], ◌∷◌, ◌++◌, length, take, drop, Option, Some, None, if◌then◌else◌}
use Rattle.std.proofs.Common.{get_or, refl, sym, ap, subst, ◌∙◌, arith}
use Rattle.std.proofs.lemmas.Bool.{or_left, or_right}
use Rattle.std.specs.List.{filter}
use Rattle.std.proofs.lemmas.List.{take-append-drop, take_more, length-take-le}
use Rattle.std.proofs.lemmas.List.Elements.{filter-append}
use Rattle.nz_base.specs.declared.key.Id.{Id}
use Rattle.nz_base.specs.declared.key.Key.{Key}
use Rattle.nz_base.specs.declared.key.Entry.{Entry}
use Rattle.nz_base.specs.Key.{id_eq, id_of}
use Rattle.nz_base.specs.Log.{keys_of, has_id, IsLog}
use Rattle.nz_base.proofs.Names.{id_eq_self}
use Rattle.nz_base.proofs.Logs.{keys_append, has_id-append}
use Rattle.nz_log.specs.Places.{place_of}
use Rattle.nz_log.specs.Synced.{left_out}
use Rattle.nz_log.specs.Keeping.{IsSummed, HaveCommonPrefix, digest_with}
use Rattle.nz_log.proofs.Indexing.{next_one, place_noted, place_forgotten}
use Rattle.nz_log.proofs.Summing.{sums_push, sums_take}
use Rattle.nz_log.proofs.Next.{summed_by_keys}
use Rattle.nz_log.proofs.Keeping.{next_fresh}

-- one entry more has the same key
pub common_more : (es fs : List Entry) (n : ℕ) (x y : Entry) → n < length es → n < length fs → x ≡ get_or es n x → y ≡ get_or fs n y → x.key ≡ y.key
    → keys_of (take n es) ≡ keys_of (take n fs) → keys_of (take (n + 1) es) ≡ keys_of (take (n + 1) fs)
common_more es fs n x y within fits at_es at_fs named same =
    let left : take (n + 1) es ≡ take n es ++ x ∷ [] = take_more es n x within ∙ ap (λ (z : Entry). take n es ++ z ∷ []) (sym at_es) in
    let right : take (n + 1) fs ≡ take n fs ++ y ∷ [] = take_more fs n y fits ∙ ap (λ (z : Entry). take n fs ++ z ∷ []) (sym at_fs) in
    ap keys_of left
    ∙ keys_append (take n es) (x ∷ [])
    ∙ ap (λ (ks : List Key). ks ++ x.key ∷ []) same
    ∙ ap (λ (k : Key). keys_of (take n fs) ++ k ∷ []) named
    ∙ sym (keys_append (take n fs) (y ∷ []))
    ∙ ap keys_of (sym right)

-- ---- the entries from a place on, one after another

module _ (es : List Entry) (place : ℕ) (x : Entry) (log : IsLog es) (within : place < length es) (is : x ≡ get_or es place x) where
  whole : es ≡ take place es ++ x ∷ drop (place + 1) es
  whole = sym (take-append-drop place es) ∙ ap (λ (xs : List Entry). take place es ++ xs) (next_one es place x within is)

  one_more : take (place + 1) es ≡ take place es ++ x ∷ []
  one_more = take_more es place x within ∙ ap (λ (y : Entry). take place es ++ y ∷ []) (sym is)

  fresh : has_id (keys_of (take place es)) (id_of x.key) ≡ false
  fresh = next_fresh (take place es) x (drop (place + 1) es) (subst IsLog whole log)

  -- its id is noted
  pub noted_at : (f g : Id → Option ℕ) → ((i : Id) → f i ≡ place_of (take place es) i)
      → ((i : Id) → g i ≡ (if id_eq (id_of x.key) i then Some place else f i)) → (i : Id) → g i ≡ place_of (take (place + 1) es) i
  noted_at f g old now i =
      let long : length (take place es) ≡ place = length-take-le place es (omega (arith, within)) in
      place_noted (take place es) x f g fresh old
      (λ j. now j ∙ ap (λ (n : ℕ). if id_eq (id_of x.key) j then Some n else f j) (sym long)) i
      ∙ ap (λ (xs : List Entry). place_of xs i) (sym one_more)

  -- its id is forgotten
  pub forgotten_at : (f g : Id → Option ℕ) → ((i : Id) → f i ≡ place_of (take (place + 1) es) i)
      → ((i : Id) → g i ≡ (if id_eq (id_of x.key) i then None else f i)) → (i : Id) → g i ≡ place_of (take place es) i
  forgotten_at f g old now =
      place_forgotten (take place es) x f g fresh (λ i. old i ∙ ap (λ (xs : List Entry). place_of xs i) one_more) now

-- its digest is put after the others
pub summed_at : (es : List Entry) (ds : List (List ℕ)) (place : ℕ) (x : Entry) (sum : List ℕ) → place < length es → x ≡ get_or es place x
    → IsSummed (take place es) ds → sum ≡ digest_with (take place es) x.key → IsSummed (take (place + 1) es) (ds ++ sum ∷ [])
summed_at es ds place x sum within is old new =
    let one_more : take (place + 1) es ≡ take place es ++ x ∷ [] =
    take_more es place x within ∙ ap (λ (y : Entry). take place es ++ y ∷ []) (sym is) in
    subst (λ (xs : List Entry). IsSummed xs (ds ++ sum ∷ [])) (sym one_more) (sums_push (take place es) ds x sum old new)

-- the first digests are those of the list
pub summed_first : (es fs : List Entry) (ds : List (List ℕ)) (count : ℕ) → HaveCommonPrefix es fs count → IsSummed es ds
    → IsSummed (take count fs) (take count ds)
summed_first es fs ds count common summed =
    summed_by_keys (take count es) (take count fs) (take count ds) common.same (sums_take es ds count summed common.within)

-- ---- what is left out

none_out : (xs : List Entry) (ks : List Key) → ((i : Id) → has_id (keys_of xs) i ≡ true → has_id ks i ≡ true)
    → filter (λ (e : Entry). not (has_id ks (id_of e.key))) xs ≡ []
none_out [] ks held = refl
none_out (x ∷ xs) ks held =
    let i = id_of x.key in
    let here : has_id ks i ≡ true = held i (or_left (id_eq i i) (has_id (keys_of xs) i) (id_eq_self i)) in
    rw here (none_out xs ks (λ j there. held j (or_right (id_eq j (id_of x.key)) (has_id (keys_of xs) j) there)))

-- none of the common entries is left out
none_left_out : (es fs : List Entry) (count : ℕ) → HaveCommonPrefix es fs count → left_out (take count es) fs ≡ []
none_left_out es fs count common =
    let prefix = keys_of (take count fs) in
    let back = keys_of (drop count fs) in
    let parts : keys_of fs ≡ prefix ++ back = ap keys_of (sym (take-append-drop count fs)) ∙ keys_append (take count fs) (drop count fs) in
    none_out (take count es) (keys_of fs) (λ i there.
    let first : has_id prefix i ≡ true = subst (λ (ks : List Key). has_id ks i ≡ true) common.same there in
    ap (λ (ks : List Key). has_id ks i) parts ∙ has_id-append prefix back i ∙ or_left (has_id prefix i) (has_id back i) first)

-- what is left out is found among the other entries
pub left_out_after : (es fs : List Entry) (count : ℕ) → HaveCommonPrefix es fs count → left_out (drop count es) fs ≡ left_out es fs
left_out_after es fs count common =
    let out = λ (e : Entry). not (has_id (keys_of fs) (id_of e.key)) in
    ap (λ (xs : List Entry). xs ++ left_out (drop count es) fs) (sym (none_left_out es fs count common))
    ∙ sym (filter-append out (take count es) (drop count es))
    ∙ ap (λ (xs : List Entry). left_out xs fs) (take-append-drop count es)
