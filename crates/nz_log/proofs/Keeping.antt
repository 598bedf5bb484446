-- What is kept of a log: looked up, and after one more entry.
use Rattle.nz_base.specs.declared.limits.TheConstants.{MAX_ENTRIES}
use Rattle.std.proofs.Common.{◌≡◌, ℕ, zero, suc, ◌+◌, ◌-◌, ◌<◌, ◌≤◌, true, false, List, [], ◌∷◌, ◌++◌, length, take, drop, get_or, nat_lt}
use Rattle.std.proofs.Common.{Option, Some, None, IfSome, is_some, refl, sym, ap, subst, ◌∙◌, inl, inr, if◌then◌else◌, arith}
use Rattle.std.specs.Prelude.{slice_get}
use Rattle.std.specs.Option.{option_map}
use Rattle.std.specs.Map.{lookup}
use Rattle.std.proofs.lemmas.Bool.{cases_lt, ltb_from_iff, cases_Bool, or_parts}
use Rattle.std.proofs.lemmas.List.{length-take-le, get_or-take, take-append-drop}
use Rattle.std.proofs.lemmas.Option.{slice_get_read}
use Rattle.nz_base.specs.declared.key.Id.{Id}
use Rattle.nz_base.specs.declared.key.Key.{Key}
use Rattle.nz_base.specs.declared.key.Entry.{Entry}
use Rattle.nz_base.specs.Key.{key_below, id_eq, id_of}
use Rattle.nz_base.specs.Log.{keys_of, has_id, is_above_last, AreRising, HaveOwnIds, IsLog}
use Rattle.nz_base.proofs.Logs.{has_first, has_id-append, keys_append, prefix_below, above_last, above_some, own_id}
use Rattle.nz_log.specs.Places.{place_of}
use Rattle.nz_log.specs.Synced.{Log, synced_part, unsynced_part}
use Rattle.nz_log.specs.Keeping.{IsKeptLog, IsMidway, digest_with}
use Rattle.nz_log.proofs.Placing.{place_found, place_held, held_at}
use Rattle.nz_log.proofs.Indexing.{place_noted, midway_start}
use Rattle.nz_log.proofs.Summing.{sums_push}
use Rattle.nz_log.proofs.Modifying.{pushed_sound, put_prefix, put_back}

-- ---- look-ups

-- a place is one in the log
pub place_within : (es : List Entry) (i : Id) → IfSome (place_of es i) (λ place. place < length es)
place_within es i = within (place_of es i) refl
  where
    within : (o : Option ℕ) → place_of es i ≡ o → IfSome o (λ place. place < length es)
    within None is = tt
    within (Some place) is = (place_found es i place is).within

-- an id whose place comes before n is among the first n
early : (es : List Entry) (n : ℕ) (i : Id) (place : ℕ) → n ≤ length es → place_of es i ≡ Some place → place < n → has_id (keys_of (take n es)) i ≡ true
early es n i place few is below =
    let at = place_found es i place is in
    let long : length (take n es) ≡ n = length-take-le n es few in
    held_at (take n es) i place (record {
      within = omega (arith, long, below);
      here = λ d. ap (λ (x : Entry). id_eq i (id_of x.key)) (get_or-take n es place d below) ∙ at.here d;
    })

late : (es : List Entry) (n : ℕ) (i : Id) (place : ℕ) → place_of es i ≡ Some place → n ≤ place → has_id (keys_of (take n es)) i ≡ false
late es zero i place is above = refl
late [] (suc n) i place is above = refl
late (e ∷ es) (suc n) i place is above =
    elim (cases_Bool (id_eq i (id_of e.key))) [
      | inl here ↦ absurd (let first : 0 ≡ place = some_same 0 place (rw here at is) in omega (arith, first, above))
      | inr away ↦ rw away (further (place_of es i) place (late es n i) (rw away at is) above)
    ]
  where
    some_same : (a b : ℕ) → Some a ≡ Some b → a ≡ b
    some_same a b h = cc

    further : (o : Option ℕ) (place : ℕ) → ((m : ℕ) → o ≡ Some m → n ≤ m → has_id (keys_of (take n es)) i ≡ false)
        → option_map suc o ≡ Some place → suc n ≤ place → has_id (keys_of (take n es)) i ≡ false
    further None place rest h above = absurd cc
    further (Some m) place rest h above = let next : suc m ≡ place = some_same (suc m) place h in rest m refl (omega (arith, next, above))

pub held_before : (es : List Entry) (n : ℕ) (i : Id) (place : ℕ) → n ≤ length es → place_of es i ≡ Some place → nat_lt place n ≡ has_id (keys_of (take n es)) i
held_before es n i place few is = sym (ltb_from_iff (
  λ held. elim (cases_lt place n) [
    | inl below ↦ below
    | inr above ↦ absurd (let no = late es n i place is above in cc)
  ],
  λ below. early es n i place few is below,
))

pub none_before : (es : List Entry) (n : ℕ) (i : Id) → place_of es i ≡ None → false ≡ has_id (keys_of (take n es)) i
none_before es n i is =
    let away : has_id (keys_of es) i ≡ false = sym (place_held es i) ∙ ap is_some is in
    let parts : has_id (keys_of es) i ≡ _ =
    ap (λ (xs : List Entry). has_id (keys_of xs) i) (sym (take-append-drop n es))
    ∙ ap (λ (ks : List Key). has_id ks i) (keys_append (take n es) (drop n es)) ∙ has_id-append (keys_of (take n es)) (keys_of (drop n es)) i in
    sym (or_parts (has_id (keys_of (take n es)) i) (has_id (keys_of (drop n es)) i) (sym parts ∙ away)).0

-- the last of the first n entries
pub above_first : (es : List Entry) (n : ℕ) (last : ℕ) (key : Key) (x : Entry) → n ≤ length es → last + 1 ≡ n
    → x ≡ get_or es last x → key_below x.key key ≡ is_above_last (keys_of (take n es)) key
above_first es n last key x few next is =
    let long : length (take n es) ≡ n = length-take-le n es few in
    let at : length (take n es) - 1 ≡ last = omega (arith, long, next) in
    let there : slice_get (take n es) last ≡ Some x =
    slice_get_read (take n es) (length (take n es)) last x refl (omega (arith, long, next))
    (is ∙ sym (get_or-take n es last x (omega (arith, next)))) in
    sym (above_some (take n es) key x (ap (slice_get (take n es)) at ∙ there))

-- ---- one more entry

pub kept_push : (log : Log) (sums : List (List ℕ)) (places now : List (Id × ℕ)) (e : Entry) (sum : List ℕ) → IsKeptLog log sums places
    → is_above_last (keys_of log.entries) e.key ≡ true → has_id (keys_of log.entries) (id_of e.key) ≡ false
    → length log.entries < MAX_ENTRIES → sum ≡ digest_with log.entries e.key
    → ((i : Id) → lookup (id_eq i) now ≡ (if id_eq (id_of e.key) i then Some (length log.entries) else lookup (id_eq i) places))
    → IsKeptLog (record log { entries = log.entries ++ e ∷ [] }) (sums ++ sum ∷ []) now
kept_push log sums places now e sum kept above fresh room is index = record {
  sound = pushed_sound log e kept.sound above fresh room;
  summed = sums_push log.entries sums e sum kept.summed is;
  found = place_noted log.entries e (λ i. lookup (id_eq i) places) (λ i. lookup (id_eq i) now) fresh kept.found index;
}

-- ---- an entry put at the end of the synced part

pub midway_put : (log : Log) (e : Entry) (sums : List (List ℕ)) (places : List (Id × ℕ)) (now : Id → Option ℕ) (put : List Entry) → IsKeptLog log sums places
    → has_id (keys_of (synced_part log)) (id_of e.key) ≡ false → put ≡ synced_part log ++ e ∷ unsynced_part log
    → ((i : Id) → now i ≡ (if id_eq (id_of e.key) i then Some log.synced else lookup (id_eq i) places))
    → IsMidway e.key (take (log.synced + 1) put) (drop (log.synced + 1) put) now
midway_put log e sums places now put kept fresh is index =
    let prefix = synced_part log in
    let back = unsynced_part log in
    let whole : prefix ++ back ≡ log.entries = take-append-drop log.synced log.entries in
    let within = kept.sound.within in
    let long : length prefix ≡ log.synced = length-take-le log.synced log.entries within in
    let first : take (log.synced + 1) put ≡ prefix ++ e ∷ [] = ap (take (log.synced + 1)) is ∙ put_prefix log.entries log.synced e within in
    let rest : drop (log.synced + 1) put ≡ back = ap (drop (log.synced + 1)) is ∙ put_back log.entries log.synced e within in
    let own = subst (λ (xs : List Entry). HaveOwnIds (keys_of xs)) (sym whole) kept.sound.ordered.own_ids in
    let mid =
    midway_start prefix e back (λ i. lookup (id_eq i) places) now own fresh
    (λ i. kept.found i ∙ ap (λ (xs : List Entry). place_of xs i) (sym whole))
    (λ i. index i ∙ ap (λ (n : ℕ). if id_eq (id_of e.key) i then Some n else lookup (id_eq i) places) (sym long)) in
    subst (λ (xs : List Entry). IsMidway e.key xs (drop (log.synced + 1) put) now) (sym first)
    (subst (λ (xs : List Entry). IsMidway e.key (prefix ++ e ∷ []) xs now) (sym rest) mid)

-- ---- the entries of a list, one after another

pub next_above : (prefix : List Entry) (e : Entry) (back : List Entry) → IsLog (prefix ++ e ∷ back) → is_above_last (keys_of prefix) e.key ≡ true
next_above prefix e back log =
    let rising = subst AreRising (keys_append prefix (e ∷ back)) log.rising in
    above_last (keys_of prefix) e.key (λ x there. prefix_below (keys_of prefix) (keys_of (e ∷ back)) x e.key rising there (has_first e.key (keys_of back)))

pub next_fresh : (prefix : List Entry) (e : Entry) (back : List Entry) → IsLog (prefix ++ e ∷ back) → has_id (keys_of prefix) (id_of e.key) ≡ false
next_fresh prefix e back log = own_id (keys_of prefix) e.key (keys_of back) (subst HaveOwnIds (keys_append prefix (e ∷ back)) log.own_ids)
