-- What a replica, a proxy and a client put into messages is in the ranges of frames.
use Rattle.std.proofs.Common.{◌≡◌, ℕ, ◌<◌, ◌≤◌, ◌^◌, ◌&&◌, not, eqb, true, false, List, [], ◌∷◌, ◌++◌, length, Option}
use Rattle.std.proofs.Common.{Some, None, refl, sym, ap, subst, ◌∙◌, arith, IsTrue, length-append, append_assoc}
use Rattle.std.specs.Prelude.{nat_le, IsSome}
use Rattle.std.specs.List.{AllByRecursion}
use Rattle.std.proofs.lemmas.Bool.{le-leb, eqb-true, and_from, or_parts}
use Rattle.std.proofs.lemmas.Bool.Decides.{nat_tests}
use Rattle.nz_base.specs.Cluster.{replica_count}
use Rattle.nz_base.specs.declared.key.Id.{Id}
use Rattle.nz_base.specs.declared.key.Key.{Key}
use Rattle.nz_base.specs.declared.key.Entry.{Entry}
use Rattle.nz_base.specs.Key.{id_eq, id_of, key_below}
use Rattle.nz_base.specs.Log.{keys_of, has_id, AreRising, HaveOwnIds}
use Rattle.nz_base.proofs.Logs.{has_first, has_back, has_id-append, keys_append}
use Rattle.nz_base.specs.declared.limits.TheConstants.{MAX_VIEW, MAX_ENTRIES}
use Rattle.nz_store.specs.declared.command.Command.{Command}
use Rattle.nz_store.specs.declared.command.Command.TheVariants.{Put, Get, Del, Cas}
use Rattle.nz_store.specs.Grammar.{IsKey, IsValue, IsOptionalValue, IsValidCommand, key_spelling, value_spelling, choice_spelling, spelling}
use Rattle.nz_store.specs.Reading.{command_of}
use Rattle.nz_store.proofs.Spellings.{spells_from_reading}
use Rattle.nz_msg.specs.Codec.{ItemsFit}
use Rattle.nz_msg.proofs.Fields.{within_most}
use Rattle.nz_msg.specs.Fields.{u32, view, id, key, command, vector, may_follow, next_key, next_entry, ids, keys, entries, is_cluster_size}
use Rattle.nz_machine.specs.rules.Facts.{FitsEntry, AreCounters}

-- ---- numbers

pub view_fits : (n : ℕ) → n ≤ MAX_VIEW → view.fits n
view_fits n le = (omega (arith, le), and_from (nat_le 0 n) (nat_le n MAX_VIEW) (le-leb 0 n (omega arith)) (le-leb n MAX_VIEW (omega (arith, le))))

-- ---- lists of single items

ids_each : (before xs : List Id) → AllByRecursion id.fits xs → ItemsFit (λ _. id) before xs
ids_each before [] all = tt
ids_each before (x ∷ xs) all = (all.0, ids_each (before ++ x ∷ []) xs all.1)

within_count : (least most n : ℕ) → least ≤ n → n ≤ most → IsTrue (nat_le least n && nat_le n most)
within_count least most n low high = and_from (nat_le least n) (nat_le n most) (le-leb least n low) (le-leb n most high)

pub ids_fit : (xs : List Id) → 1 ≤ length xs → length xs ≤ 64 → AllByRecursion id.fits xs → ids.fits xs
ids_fit xs some few all = ((omega (arith, few), within_count 1 64 (length xs) some few), (refl, ids_each [] xs all))

counters_each : (before xs : List ℕ) → AllByRecursion (λ n. n < 2 ^ 32) xs → ItemsFit (λ _. u32) before xs
counters_each before [] all = tt
counters_each before (x ∷ xs) all = (all.0, counters_each (before ++ x ∷ []) xs all.1)

size_is : (f : ℕ) → 1 ≤ f → f ≤ 4 → is_cluster_size (replica_count f) ≡ true
size_is f least most = grind (arith, nat_tests)

pub vector_fits : (f : ℕ) (v : List ℕ) → 1 ≤ f → f ≤ 4 → AreCounters f v → vector.fits v
vector_fits f v least most h =
    let size = h.size in
    ((omega (arith, size, most), subst (λ (n : ℕ). is_cluster_size n ≡ true) (sym size) (size_is f least most)), (refl, counters_each [] v h.small))

counters_are : (before xs : List ℕ) → ItemsFit (λ _. u32) before xs → AllByRecursion (λ n. n < 2 ^ 32) xs
counters_are before [] all = tt
counters_are before (x ∷ xs) all = (all.0, counters_are (before ++ x ∷ []) xs all.1)

-- a vector of a message, of the cluster's size
pub vector_counts : (f : ℕ) (v : List ℕ) → vector.fits v → eqb (length v) (replica_count f) ≡ true → AreCounters f v
vector_counts f v fits size = record { size = eqb-true (length v) (replica_count f) size; small = counters_are [] v fits.1.1 }

-- ---- keys in their order, of different ids

pub record AreInOrder (keys : List Key) : Type 0 where
  pub rising : AreRising keys
  pub own_ids : HaveOwnIds keys

apart_from : (before : List Key) (k : Key) (ys : List Key) (i : Id) → has_id (before ++ k ∷ ys) i ≡ false → id_eq i (id_of k) ≡ false
apart_from before k ys i h =
    (or_parts (id_eq i (id_of k)) (has_id ys i) (or_parts (has_id before i) (has_id (k ∷ ys) i) (sym (has_id-append before (k ∷ ys) i) ∙ h)).1).0

follows_all : (before : List Key) (k : Key) (ys : List Key) → AreRising (before ++ k ∷ ys)
    → HaveOwnIds (before ++ k ∷ ys) → may_follow (λ (x : Key). x) before k ≡ true
follows_all [] k ys rising own = refl
follows_all (a ∷ before) k ys rising own =
    let below : key_below a k ≡ true = rising.0 k (has_back before (k ∷ ys) k (has_first k ys)) in
    let other = apart_from before k ys (id_of a) own.0 in
    rw (below, other) (follows_all before k ys rising.1 own.1)

keys_each : (before xs : List Key) → AreRising (before ++ xs) → HaveOwnIds (before ++ xs) → AllByRecursion key.fits xs → ItemsFit next_key before xs
keys_each before [] rising own all = tt
keys_each before (x ∷ xs) rising own all =
    let same = append_assoc before (x ∷ []) xs in
    ((all.0, follows_all before x xs rising own), keys_each (before ++ x ∷ []) xs (subst AreRising (sym same) rising) (subst HaveOwnIds (sym same) own) all.1)

pub keys_fit : (xs : List Key) → length xs ≤ 64 → AreInOrder xs → AllByRecursion key.fits xs → keys.fits xs
keys_fit xs few order all = ((omega (arith, few), within_count 0 64 (length xs) (omega arith) few), (refl, keys_each [] xs order.rising order.own_ids all))

follow_by_keys : (before : List Entry) (k : Key) → may_follow (λ (e : Entry). e.key) before k ≡ may_follow (λ (x : Key). x) (keys_of before) k
follow_by_keys [] k = refl
follow_by_keys (e ∷ before) k = ap (λ b. (key_below e.key k && not (id_eq (id_of e.key) (id_of k))) && b) (follow_by_keys before k)

entries_each : (before xs : List Entry) → AreRising (keys_of before ++ keys_of xs)
    → HaveOwnIds (keys_of before ++ keys_of xs) → AllByRecursion FitsEntry xs → ItemsFit next_entry before xs
entries_each before [] rising own all = tt
entries_each before (x ∷ xs) rising own all =
    let same : keys_of (before ++ x ∷ []) ++ keys_of xs ≡ keys_of before ++ keys_of (x ∷ xs) =
    ap (λ (l : List Key). l ++ keys_of xs) (keys_append before (x ∷ [])) ∙ append_assoc (keys_of before) (x.key ∷ []) (keys_of xs) in
    let follows : may_follow (λ (e : Entry). e.key) before x.key ≡ true =
    follow_by_keys before x.key ∙ follows_all (keys_of before) x.key (keys_of xs) rising own in
    (((all.0.key, follows), all.0.command), entries_each (before ++ x ∷ []) xs (subst AreRising (sym same) rising) (subst HaveOwnIds (sym same) own) all.1)

pub entries_fit : (xs : List Entry) → length xs ≤ 64 → AreInOrder (keys_of xs) → AllByRecursion FitsEntry xs → (entries 0 64).fits xs
entries_fit xs few order all =
    ((omega (arith, few), within_count 0 64 (length xs) (omega arith) few), (refl, entries_each [] xs order.rising order.own_ids all))

-- a whole log, with at least this many entries
pub log_fits : (least : ℕ) (xs : List Entry) → least ≤ length xs → length xs ≤ MAX_ENTRIES → AreInOrder (keys_of xs) → AllByRecursion FitsEntry xs
    → (entries least MAX_ENTRIES).fits xs
log_fits least xs low few order all =
    ((omega (arith, few), within_count least MAX_ENTRIES (length xs) low few), (refl, entries_each [] xs order.rising order.own_ids all))

-- ---- what a list in a message holds

pub keys_are : (before xs : List Key) → ItemsFit next_key before xs → AllByRecursion key.fits xs
keys_are before [] all = tt
keys_are before (x ∷ xs) all = (all.0.0, keys_are (before ++ x ∷ []) xs all.1)

pub keys_of_fit : (xs : List Key) → keys.fits xs → AllByRecursion key.fits xs
keys_of_fit xs h = keys_are [] xs h.1.1

pub few_keys : (xs : List Key) → keys.fits xs → length xs ≤ 64
few_keys xs h = within_most 1 0 64 (length xs) h.0

pub few_ids : (xs : List Id) → ids.fits xs → length xs ≤ 64
few_ids xs h = within_most 1 1 64 (length xs) h.0

pub entries_are : (before xs : List Entry) → ItemsFit next_entry before xs → AllByRecursion FitsEntry xs
entries_are before [] all = tt
entries_are before (x ∷ xs) all = (record { key = all.0.0.0; command = all.0.1 }, entries_are (before ++ x ∷ []) xs all.1)

pub entries_of_fit : (least most : ℕ) (xs : List Entry) → (entries least most).fits xs → AllByRecursion FitsEntry xs
entries_of_fit least most xs h = entries_are [] xs h.1.1

-- ---- commands

key_long : (k : List ℕ) → IsKey k → length (key_spelling k) ≤ 33
key_long k h = let short = h.short in omega (arith, short)

value_long : (v : List ℕ) → IsValue v → length (value_spelling v) ≤ 258
value_long v h = let short = h.short in omega (arith, short)

choice_long : (o : Option (List ℕ)) → IsOptionalValue o → length (choice_spelling o) ≤ 259
choice_long None h = omega arith
choice_long (Some v) h = let long = value_long v h in omega (arith, long)

spelling_some : (c : Command) → 1 ≤ length (spelling c)
spelling_some (Put k v) = omega arith
spelling_some (Get k) = omega arith
spelling_some (Del k) = omega arith
spelling_some (Cas k old new) = omega arith

spelling_long : (c : Command) → IsValidCommand c → length (spelling c) ≤ 552
spelling_long (Put k v) h =
    let first = key_long k h.0 in
    let second = value_long v h.1 in
    let whole = length-append (key_spelling k) (value_spelling v) in
    omega (arith, first, second, whole)
spelling_long (Get k) h = let first = key_long k h in omega (arith, first)
spelling_long (Del k) h = let first = key_long k h in omega (arith, first)
spelling_long (Cas k old new) h =
    let first = key_long k h.0 in
    let second = choice_long old h.1 in
    let third = choice_long new h.2 in
    let whole = length-append (key_spelling k) (choice_spelling old ++ choice_spelling new) in
    let rest = length-append (choice_spelling old) (choice_spelling new) in
    omega (arith, first, second, third, whole, rest)

read_fits : (bytes : List ℕ) (c : Command) → command_of bytes ≡ Some c → command.fits bytes
read_fits bytes c is =
    let s = spells_from_reading bytes c is in
    let whole = ap length s.whole in
    let some = spelling_some c in
    let long = spelling_long c s.valid in
    ((omega (arith, whole, long), within_count 1 552 (length bytes) (omega (arith, whole, some)) (omega (arith, whole, long))), refl)

command_fits_by : (bytes : List ℕ) (o : Option Command) → command_of bytes ≡ o → IsSome o → command.fits bytes
command_fits_by bytes (Some c) is h = read_fits bytes c is
command_fits_by bytes None is h = absurd cc

-- bytes that are a command go into a message
pub command_fits : (bytes : List ℕ) → IsSome (command_of bytes) → command.fits bytes
command_fits bytes h = command_fits_by bytes (command_of bytes) refl h
