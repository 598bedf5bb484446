-- Taking keys one after the other, as the code does.
use Rattle.std.proofs.Common.{◌≡◌, ℕ, suc, zero, ◌+◌, ◌<◌, ◌≤◌, Bool, true, false, not, List, [], ◌∷◌, ◌++◌, length, drop, get_or, drop-cons}
use Rattle.std.proofs.Common.{add-one, Option, Some, None, is_some, refl, sym, ap, subst, ◌∙◌, inl, inr, arith, append_assoc}
use Rattle.std.proofs.lemmas.Bool.{cases_Bool, and_parts, or_parts}
use Rattle.std.specs.Prelude.{slice_get}
use Rattle.std.specs.List.{filter}
use Rattle.std.specs.Option.{option_map}
use Rattle.std.proofs.lemmas.List.{take-append-drop, append-nil}
use Rattle.std.proofs.lemmas.List.Elements.{filter-append}
use Rattle.nz_base.specs.declared.key.Id.{Id}
use Rattle.nz_base.specs.declared.key.Key.{Key}
use Rattle.nz_base.specs.declared.key.Entry.{Entry}
use Rattle.nz_base.specs.Key.{key_below, id_eq, id_of}
use Rattle.nz_base.specs.Log.{keys_of, has_key, has_id, AreRising, HaveOwnIds}
use Rattle.nz_base.proofs.Keys.{key_below-trans}
use Rattle.nz_base.proofs.Logs.{keys_append, has_first, has_later, own_id}
use Rattle.nz_log.specs.Places.{place_of}
use Rattle.nz_log.specs.Synced.{Log, synced_part, unsynced_part, is_displaced, log_with_synced, displaced_entries}
use Rattle.nz_log.proofs.Placing.{place_held}
use Rattle.nz_buffers.specs.Buffers.{find_id, without, first_if}
use Rattle.nz_buffers.proofs.Removing.{find_none}
use Rattle.nz_msg.specs.Fields as fields
use Rattle.nz_machine.specs.rules.State.{ReplicaData}
use Rattle.nz_machine.specs.rules.Facts.{FitsEntry, AreApart}
use Rattle.nz_machine.specs.rules.LogMods.{entry_of_id, may_sync, synced_with, if_found, sync_keys}
use Rattle.nz_machine.specs.declared.sync_keys.Taken.{Taken}
use Rattle.nz_machine.specs.declared.sync_keys.Taken.TheVariants.{Synced, Missing, Refused}
use Rattle.nz_machine.specs.rules.Taking.{found_in, after_first}
use Rattle.nz_machine.proofs.facts.KeysApart.{own_rest}
use Rattle.nz_machine.proofs.facts.IdCounts.{times_append, times_all, own_times, times_own}
use Rattle.nz_machine.proofs.facts.KeysKeepFacts.{own_synced, found_fits}

-- ---- the entry with an id

find_skips : (xs ys : List Entry) (i : Id) → has_id (keys_of xs) i ≡ false → find_id (xs ++ ys) i ≡ find_id ys i
find_skips [] ys i none = refl
find_skips (x ∷ xs) ys i none =
    rw ((or_parts (id_eq i (id_of x.key)) (has_id (keys_of xs) i) none).0)
    (find_skips xs ys i (or_parts (id_eq i (id_of x.key)) (has_id (keys_of xs) i) none).1)

pub find_after_synced : (log : Log) (i : Id) → has_id (keys_of (synced_part log)) i ≡ false → find_id log.entries i ≡ find_id (unsynced_part log) i
find_after_synced log i none =
    ap (λ (xs : List Entry). find_id xs i) (sym (take-append-drop log.synced log.entries)) ∙ find_skips (synced_part log) (unsynced_part log) i none

pub find_nowhere : (es : List Entry) (i : Id) → place_of es i ≡ None → find_id es i ≡ None
find_nowhere es i is = find_none es i (sym (place_held es i) ∙ ap is_some is)

pub find_at : (es : List Entry) (i : Id) (place : ℕ) (e : Entry) → place_of es i ≡ Some place → slice_get es place ≡ Some e → find_id es i ≡ Some e
find_at [] i place e is at = absurd cc
find_at (x ∷ xs) i place e is at =
    elim (cases_Bool (id_eq i (id_of x.key))) [
      | inl here ↦
          let first : Some 0 ≡ Some place = rw here at is in
          let zero_place : place ≡ 0 = cc in
          rw here (subst (λ (n : ℕ). slice_get (x ∷ xs) n ≡ Some e) zero_place at)
      | inr away ↦ rw away (go (λ n p h. find_at xs i n e p h) (place_of xs i) refl (rw away at is))
    ]
  where
    go : ((n : ℕ) → place_of xs i ≡ Some n → slice_get xs n ≡ Some e → find_id xs i ≡ Some e) → (o : Option ℕ)
        → place_of xs i ≡ o → option_map suc o ≡ Some place → find_id xs i ≡ Some e
    go rest None p h = absurd cc
    go rest (Some n) p h =
        let next : suc n ≡ place = cc in
        rest n p (subst (λ (m : ℕ). slice_get (x ∷ xs) m ≡ Some e) (sym next) at)

-- ---- what goes to late

without_split : (key : Key) (es : List Entry) → without (filter (is_displaced key) es) (id_of key) ≡ filter (is_displaced key) es
without_split key [] = refl
without_split key (e ∷ es) =
    elim (cases_Bool (is_displaced key e)) [
      | inl goes ↦
          let apart : not (id_eq (id_of key) (id_of e.key)) ≡ true = (and_parts (not (key_below key e.key)) (not (id_eq (id_of key) (id_of e.key))) goes).1 in
          rw (goes, apart) (ap (λ (xs : List Entry). e ∷ xs) (without_split key es))
      | inr stays ↦ rw stays (without_split key es)
    ]

pub without_displaced : (log : Log) (late : List Entry) (e : Entry)
    → without (late ++ displaced_entries log e) (id_of e.key) ≡ without late (id_of e.key) ++ displaced_entries log e
without_displaced log late e =
    filter-append (λ (x : Entry). not (id_eq (id_of e.key) (id_of x.key))) late (displaced_entries log e)
    ∙ ap (λ (xs : List Entry). without late (id_of e.key) ++ xs) (without_split e.key (unsynced_part log))

pub own_late : (log : Log) (early late : List Entry) (e : Entry) → AreApart log early late → has_id (keys_of (synced_part log)) (id_of e.key) ≡ false
    → HaveOwnIds (keys_of (without late (id_of e.key) ++ displaced_entries log e))
own_late log early late e a fresh =
    let i = id_of e.key in
    let all = times_own _ (own_synced log early late e a fresh) in
    let last = without (late ++ displaced_entries log e) i in
    let rest =
    own_rest (keys_of (log_with_synced log e).entries) (keys_of (without early i ++ last))
    (subst HaveOwnIds (keys_append (log_with_synced log e).entries (without early i ++ last)) all) in
    subst (λ (xs : List Entry). HaveOwnIds (keys_of xs)) (without_displaced log late e)
    (own_rest (keys_of (without early i)) (keys_of last) (subst HaveOwnIds (keys_append (without early i) last) rest))

-- an entry that comes next is of an id that is not there
pub next_fresh : (late : List Entry) (e : Entry) (rest : List Entry) → HaveOwnIds (keys_of (late ++ e ∷ rest)) → has_id (keys_of late) (id_of e.key) ≡ false
next_fresh late e rest own = own_id (keys_of late) e.key (keys_of rest) (subst HaveOwnIds (keys_append late (e ∷ rest)) own)

-- ---- early entries that are not above a key

all_above : (last : Key) (es : List Entry) → ((x : Key) → has_key (keys_of es) x ≡ true → key_below last x ≡ true)
    → (filter (λ e. key_below last e.key) es ≡ es) × (filter (λ e. not (key_below last e.key)) es ≡ [])
all_above last [] h = (refl, refl)
all_above last (e ∷ es) h =
    let rest = all_above last es (λ x there. h x (has_later e.key (keys_of es) x there)) in
    let above : key_below last e.key ≡ true = h e.key (has_first e.key (keys_of es)) in
    (rw above (ap (λ (xs : List Entry). e ∷ xs) rest.0), rw above rest.1)

pub none_below : (last : Key) (es : List Entry) → AreRising (keys_of es) → first_if (λ e. not (key_below last e.key)) es ≡ None
    → (filter (λ e. key_below last e.key) es ≡ es) × (filter (λ e. not (key_below last e.key)) es ≡ [])
none_below last [] rising is = (refl, refl)
none_below last (e ∷ es) rising is =
    elim (cases_Bool (key_below last e.key)) [
      | inr below ↦ absurd (let some : Some e ≡ None = rw below at is in cc)
      | inl above ↦
          let rest = all_above last es (λ x there. key_below-trans last e.key x above (rising.0 x there)) in
          (rw above (ap (λ (xs : List Entry). e ∷ xs) rest.0), rw above rest.1)
    ]

pub first_below : (last : Key) (es : List Entry) (e : Entry) (rest : List Entry) → es ≡ e ∷ rest
    → first_if (λ x. not (key_below last x.key)) es ≡ Some e → key_below last e.key ≡ false
first_below last es e rest is first =
    let one : first_if (λ x. not (key_below last x.key)) (e ∷ rest) ≡ Some e = ap (first_if (λ (x : Entry). not (key_below last x.key))) (sym is) ∙ first in
    elim (cases_Bool (key_below last e.key)) [
      | inr below ↦ below
      | inl above ↦ absurd (let none : None ≡ Some e = rw above at one in cc)
    ]

-- early entries above the key, and what late becomes: the loop's invariant
pub record AreMoving (last : Key) (early late first_early first_late : List Entry) : Type 0 where
  pub waiting : AreRising (keys_of early)
  pub own : HaveOwnIds (keys_of (early ++ late))
  pub left : filter (λ e. key_below last e.key) early ≡ filter (λ e. key_below last e.key) first_early
  pub moved : late ++ filter (λ e. not (key_below last e.key)) early ≡ first_late ++ filter (λ e. not (key_below last e.key)) first_early

-- its ids are the same in another order
turned : (rest : List Entry) (e : Entry) (late : List Entry) → HaveOwnIds (keys_of (e ∷ (rest ++ late))) → HaveOwnIds (keys_of (rest ++ (late ++ e ∷ [])))
turned rest e late own =
    times_own _ (λ i.
    let once = own_times i (e ∷ (rest ++ late)) own in
    let before = times_append i rest late in
    let sum = times_all i rest late (e ∷ []) in
    omega (arith, once, before, sum))

pub one_moves : (last : Key) (early late first_early first_late : List Entry) (e : Entry) (rest more : List Entry)
    → AreMoving last early late first_early first_late
    → early ≡ e ∷ rest → first_if (λ x. not (key_below last x.key)) early ≡ Some e → more ≡ late ++ e ∷ [] → AreMoving last rest more first_early first_late
one_moves last early late first_early first_late e rest more m is first more-is =
    let below = first_below last early e rest is first in
    let now : AreMoving last (e ∷ rest) late first_early first_late = subst (λ (xs : List Entry). AreMoving last xs late first_early first_late) is m in
    let kept : filter (λ x. key_below last x.key) (e ∷ rest) ≡ filter (λ x. key_below last x.key) rest = rw below refl in
    let goes : filter (λ x. not (key_below last x.key)) (e ∷ rest) ≡ e ∷ filter (λ x. not (key_below last x.key)) rest = rw below refl in
    subst (λ (xs : List Entry). AreMoving last rest xs first_early first_late) (sym more-is) (record {
      waiting = now.waiting.1;
      own = turned rest e late now.own;
      left = sym kept ∙ now.left;
      moved = append_assoc late (e ∷ []) (filter (λ x. not (key_below last x.key)) rest) ∙ ap (λ (xs : List Entry). late ++ xs) (sym goes) ∙ now.moved;
    })

-- none is left
pub none_moves : (last : Key) (early late first_early first_late : List Entry)
    → AreMoving last early late first_early first_late → first_if (λ x. not (key_below last x.key)) early ≡ None
    → (early ≡ filter (λ e. key_below last e.key) first_early) × (late ≡ first_late ++ filter (λ e. not (key_below last e.key)) first_early)
none_moves last early late first_early first_late m none =
    let all = none_below last early m.waiting none in
    (sym all.0 ∙ m.left, sym (append-nil late) ∙ ap (λ (xs : List Entry). late ++ xs) (sym all.1) ∙ m.moved)

-- ---- early entries and the log's last key

pub all_stay : (p : Key → Bool) (es : List Entry) → ((k : Key) → p k ≡ true) → (filter (λ e. p e.key) es ≡ es) × (filter (λ e. not (p e.key)) es ≡ [])
all_stay p [] h = (refl, refl)
all_stay p (e ∷ es) h =
    let rest = all_stay p es h in
    (rw (h e.key) (ap (λ (xs : List Entry). e ∷ xs) rest.0), rw (h e.key) rest.1)

pub own_waiting : (log : Log) (early late : List Entry) → AreApart log early late → HaveOwnIds (keys_of (early ++ late))
own_waiting log early late a = own_rest (keys_of log.entries) (keys_of (early ++ late)) (subst HaveOwnIds (keys_append log.entries (early ++ late)) a.own_ids)

-- ---- one key

pub key_refused : (s : ReplicaData) (key : Key) (keys : List Key) → may_sync s key ≡ false → sync_keys s (key ∷ keys) ≡ (s, [])
unfolding sync_keys
key_refused s key keys may_not = rw may_not refl

pub key_missing : (s : ReplicaData) (key : Key) (keys : List Key) → may_sync s key ≡ true
    → option_map (λ (e : Entry). e.command) (entry_of_id s (id_of key)) ≡ None → sync_keys s (key ∷ keys) ≡ (s, key ∷ keys)
unfolding sync_keys
key_missing s key keys may none = rw may (go (entry_of_id s (id_of key)) none)
  where
    go : (o : Option Entry) → option_map (λ (e : Entry). e.command) o ≡ None
        → if_found o (s, key ∷ keys) (λ e. sync_keys (synced_with s (record { key = key; command = e.command })) keys) ≡ (s, key ∷ keys)
    go None h = refl
    go (Some e) h = absurd cc

pub key_synced : (s : ReplicaData) (key : Key) (keys : List Key) (command : List ℕ) → may_sync s key ≡ true
    → option_map (λ (e : Entry). e.command) (entry_of_id s (id_of key)) ≡ Some command
    → sync_keys s (key ∷ keys) ≡ sync_keys (synced_with s (record { key = key; command = command })) keys
unfolding sync_keys
key_synced s key keys command may some = rw may (go (entry_of_id s (id_of key)) some)
  where
    go : (o : Option Entry) → option_map (λ (e : Entry). e.command) o ≡ Some command
        → if_found o (s, key ∷ keys) (λ e. sync_keys (synced_with s (record { key = key; command = e.command })) keys)
        ≡ sync_keys (synced_with s (record { key = key; command = command })) keys
    go None h = absurd cc
    go (Some e) h = let same : e.command ≡ command = cc in ap (λ (c : List ℕ). sync_keys (synced_with s (record { key = key; command = c })) keys) same

pub command_fits : (log : Log) (early late : List Entry) (key : Key) (command : List ℕ) → AreApart log early late → fields.key.fits key
    → option_map (λ (e : Entry). e.command) (found_in log early late (id_of key)) ≡ Some command → FitsEntry (record { key = key; command = command })
command_fits log early late key command a fit some = go (found_in log early late (id_of key)) refl some
  where
    go : (o : Option Entry) → found_in log early late (id_of key) ≡ o
        → option_map (λ (e : Entry). e.command) o ≡ Some command → FitsEntry (record { key = key; command = command })
    go None is h = absurd cc
    go (Some e) is h =
        let same : e.command ≡ command = cc in
        let fits = found_fits log early late (id_of key) e a is in
        subst (λ (c : List ℕ). FitsEntry (record { key = key; command = c })) same (record { key = fit; command = fits.command })

pub same_apart : (log log2 : Log) (early early2 late late2 : List Entry) → log ≡ log2 → early ≡ early2 → late ≡ late2
    → AreApart log2 early2 late2 → AreApart log early late
same_apart log log2 early early2 late late2 log-is early-is late-is a =
    subst (λ (l : Log). AreApart l early late) (sym log-is)
    (subst (λ (xs : List Entry). AreApart log2 xs late) (sym early-is) (subst (λ (xs : List Entry). AreApart log2 early2 xs) (sym late-is) a))

-- ---- all keys

key_at : (keys : List Key) (place : ℕ) (d : Key) → place < length keys → drop place keys ≡ get_or keys place d ∷ drop (place + 1) keys
key_at keys place d within = drop-cons keys place d within ∙ ap (λ (n : ℕ). get_or keys place d ∷ drop n keys) (sym (add-one place))

took : (s t : ReplicaData) (keys : List Key) (place : ℕ) (d : Key) (taken wanted : Taken) → place < length keys
    → sync_keys s (get_or keys place d ∷ drop (place + 1) keys) ≡ after_first taken t (get_or keys place d) (drop (place + 1) keys) → taken ≡ wanted
    → sync_keys s (drop place keys) ≡ after_first wanted t (get_or keys place d) (drop (place + 1) keys)
took s t keys place d taken wanted within is same =
    ap (sync_keys s) (key_at keys place d within) ∙ is ∙ ap (λ (x : Taken). after_first x t (get_or keys place d) (drop (place + 1) keys)) same

pub took_missing : (s t : ReplicaData) (keys : List Key) (place : ℕ) (d : Key) (taken : Taken) → place < length keys
    → sync_keys s (get_or keys place d ∷ drop (place + 1) keys) ≡ after_first taken t (get_or keys place d) (drop (place + 1) keys) → taken ≡ Missing
    → sync_keys s (drop place keys) ≡ (t, drop place keys)
took_missing s t keys place d taken within is same = took s t keys place d taken Missing within is same ∙ (λ i. (t, sym (key_at keys place d within) i))

pub took_synced : (s t : ReplicaData) (keys : List Key) (place : ℕ) (d : Key) (taken : Taken) → place < length keys
    → sync_keys s (get_or keys place d ∷ drop (place + 1) keys) ≡ after_first taken t (get_or keys place d) (drop (place + 1) keys) → taken ≡ Synced
    → sync_keys s (drop place keys) ≡ sync_keys t (drop (place + 1) keys)
took_synced s t keys place d taken within is same = took s t keys place d taken Synced within is same

drop_past : (keys : List Key) (n : ℕ) → length keys ≤ n → drop n keys ≡ []
drop_past [] zero past = refl
drop_past [] (suc n) past = refl
drop_past (k ∷ keys) zero past = absurd (omega arith)
drop_past (k ∷ keys) (suc n) past = drop_past keys n (omega arith)

pub took_refused : (s t : ReplicaData) (keys : List Key) (place : ℕ) (d : Key) (taken : Taken) → place < length keys
    → sync_keys s (get_or keys place d ∷ drop (place + 1) keys) ≡ after_first taken t (get_or keys place d) (drop (place + 1) keys) → taken ≡ Refused
    → sync_keys s (drop place keys) ≡ (t, drop (length keys) keys)
took_refused s t keys place d taken within is same =
    took s t keys place d taken Refused within is same ∙ (λ i. (t, sym (drop_past keys (length keys) (omega arith)) i))

sync_none : (s : ReplicaData) → sync_keys s [] ≡ (s, [])
unfolding sync_keys
sync_none s = refl

pub took_all : (t : ReplicaData) (keys : List Key) (place : ℕ) → length keys ≤ place → sync_keys t (drop place keys) ≡ (t, drop (length keys) keys)
took_all t keys place past = ap (sync_keys t) (drop_past keys place past) ∙ sync_none t ∙ (λ i. (t, sym (drop_past keys (length keys) (omega arith)) i))
