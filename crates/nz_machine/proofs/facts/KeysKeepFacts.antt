-- The facts of a replica's state while keys of a log modification are taken, and after that.
use Rattle.std.proofs.Common.{◌≡◌, ℕ, ◌+◌, ◌<◌, ◌≤◌, Bool, true, false, not, max, min, nat_lt, ◌&&◌, List, [], ◌∷◌}
use Rattle.std.proofs.Common.{◌++◌, length, Option, Some, None, refl, sym, ap, subst, ◌∙◌, inl, inr, arith}
use Rattle.std.specs.List.{AllByRecursion, filter}
use Rattle.std.specs.Option.{option_or}
use Rattle.std.proofs.lemmas.Bool.{ltb-true, not-true, cases_Bool, or_cases, and_parts}
use Rattle.std.proofs.lemmas.List.{take-append-drop}
use Rattle.nz_base.specs.declared.key.Id.{Id}
use Rattle.nz_base.specs.declared.key.Key.{Key}
use Rattle.nz_base.specs.declared.key.Entry.{Entry}
use Rattle.nz_base.specs.Key.{key_below, key_eq, id_eq, id_of}
use Rattle.nz_base.specs.Log.{keys_of, has_key, has_id, is_above_last, AreRising, HaveOwnIds}
use Rattle.nz_base.proofs.Names.{same_id, same_key}
use Rattle.nz_base.proofs.Logs.{keys_append, rising_prefix, rising_back, above_each, rising_filter, own_in_prefix}
use Rattle.nz_base.specs.declared.limits.TheConstants.{MAX_ENTRIES}
use Rattle.nz_log.specs.Synced.{Log, IsSound, synced_part, unsynced_part, stays_after, is_displaced, log_with_synced, displaced_entries}
use Rattle.nz_log.proofs.Modifying.{modified_sound}
use Rattle.nz_buffers.specs.Buffers.{find_id, without}
use Rattle.nz_msg.specs.Fields as fields
use Rattle.nz_machine.specs.rules.State.{ReplicaData}
use Rattle.nz_machine.specs.rules.Facts.{AreArranged, FitsEntry, AreHeld, HasFacts, AreApart}
use Rattle.nz_machine.specs.rules.Replicas.{is_normal, leads}
use Rattle.nz_machine.specs.rules.LogMods.{entry_of_id, may_sync, synced_with, if_found, sync_keys, overtaken_to_late, committed_to}
use Rattle.nz_machine.proofs.lists.EachItem.{all_append, all_of_prefix, all_back, all_filter}
use Rattle.nz_machine.proofs.facts.KeysApart.{rising_both}
use Rattle.nz_machine.proofs.facts.IdCounts.{times, times_all, times_append, times_filter, times_parts, times_never, times_none, own_times, times_own}
use Rattle.nz_machine.proofs.facts.Guards.{normal_up}

-- ---- before

pub apart_held : (l : Log) (es fs : List Entry) → AreHeld l es fs → AreApart l es fs
apart_held l es fs h =
    let rising = subst AreRising (keys_append l.entries es) h.arranged.rising in
    let own = subst HaveOwnIds (keys_append l.entries (es ++ fs)) h.arranged.own_ids in
    record {
      sound = record {
        ordered = record {
          rising = rising_prefix (keys_of l.entries) (keys_of es) rising;
          own_ids = own_in_prefix (keys_of l.entries) (keys_of (es ++ fs)) own;
        };
        within = h.within;
        few = h.few;
      };
      waiting = rising_back (keys_of l.entries) (keys_of es) rising;
      own_ids = h.arranged.own_ids;
      fit = h.arranged.fit;
    }

-- ---- an entry is synced

parted : (key : Key) (x : Entry) → stays_after key x ≡ true → is_displaced key x ≡ false
parted key x stays = let above = (and_parts (key_below key x.key) (not (id_eq (id_of key) (id_of x.key))) stays).0 in rw above refl

other_stays : (key : Key) (x : Entry) → stays_after key x ≡ true → id_eq (id_of key) (id_of x.key) ≡ false
other_stays key x stays = not-true (id_eq (id_of key) (id_of x.key)) (and_parts (key_below key x.key) (not (id_eq (id_of key) (id_of x.key))) stays).1

other_left : (i : Id) (x : Entry) → not (id_eq i (id_of x.key)) ≡ true → id_eq i (id_of x.key) ≡ false
other_left i x left = not-true (id_eq i (id_of x.key)) left

whole : (log : Log) (i : Id) → times i log.entries ≡ times i (synced_part log) + times i (unsynced_part log)
whole log i = ap (times i) (sym (take-append-drop log.synced log.entries)) ∙ times_append i (synced_part log) (unsynced_part log)

pub own_synced : (log : Log) (early late : List Entry) (e : Entry) → AreApart log early late
    → has_id (keys_of (synced_part log)) (id_of e.key) ≡ false → (i : Id)
    → times i ((log_with_synced log e).entries ++ (without early (id_of e.key) ++ without (late ++ displaced_entries log e) (id_of e.key))) ≤ 1
own_synced log early late e a fresh i =
    let prefix = synced_part log in
    let back = unsynced_part log in
    let kept = filter (stays_after e.key) back in
    let own = id_of e.key in
    let sum = times_all i (log_with_synced log e).entries (without early own) (without (late ++ displaced_entries log e) own) in
    let parts = times_append i prefix (e ∷ kept) in
    elim (cases_Bool (id_eq i own)) [
      | inl here ↦
          let same : i ≡ own = same_id i own here in
          let first : times i (e ∷ kept) ≡ 1 + times i kept = rw here refl in
          let n0 : times i prefix ≡ 0 = subst (λ (j : Id). times j prefix ≡ 0) (sym same) (times_none own prefix fresh) in
          let n1 : times i kept ≡ 0 = subst (λ (j : Id). times j kept ≡ 0) (sym same) (times_never own (stays_after e.key) (other_stays e.key) back) in
          let n2 : times i (without early own) ≡ 0 =
          subst (λ (j : Id). times j (without early own) ≡ 0) (sym same)
          (times_never own (λ x. not (id_eq own (id_of x.key))) (other_left own) early) in
          let n3 : times i (without (late ++ displaced_entries log e) own) ≡ 0 =
          subst (λ (j : Id). times j (without (late ++ displaced_entries log e) own) ≡ 0) (sym same)
          (times_never own (λ x. not (id_eq own (id_of x.key))) (other_left own) (late ++ displaced_entries log e)) in
          omega (arith, sum, parts, first, n0, n1, n2, n3)
      | inr away ↦
          let first : times i (e ∷ kept) ≡ 0 + times i kept = rw away refl in
          let split = times_parts i (stays_after e.key) (is_displaced e.key) (parted e.key) back in
          let n2 = times_filter i (λ x. not (id_eq own (id_of x.key))) early in
          let n3 = times_filter i (λ x. not (id_eq own (id_of x.key))) (late ++ displaced_entries log e) in
          let n4 = times_append i late (displaced_entries log e) in
          let old = own_times i (log.entries ++ (early ++ late)) a.own_ids in
          let old_sum = times_all i log.entries early late in
          let parts_old = whole log i in
          omega (arith, sum, parts, first, split, n2, n3, n4, old, old_sum, parts_old)
    ]

pub apart_synced : (log : Log) (early late : List Entry) (e : Entry) → AreApart log early late → FitsEntry e
    → is_above_last (keys_of (synced_part log)) e.key ≡ true → has_id (keys_of (synced_part log)) (id_of e.key) ≡ false → length log.entries < MAX_ENTRIES
    → AreApart (log_with_synced log e) (without early (id_of e.key)) (without (late ++ displaced_entries log e) (id_of e.key))
apart_synced log early late e a fits above fresh room =
    let prefix = synced_part log in
    let back = unsynced_part log in
    let split : AllByRecursion FitsEntry (prefix ++ back) =
    subst (λ (xs : List Entry). AllByRecursion FitsEntry xs) (sym (take-append-drop log.synced log.entries))
    (all_of_prefix FitsEntry log.entries (early ++ late) a.fit) in
    let fit_prefix = all_of_prefix FitsEntry prefix back split in
    let fit_back = all_back FitsEntry prefix back split in
    let fit_rest = all_back FitsEntry log.entries (early ++ late) a.fit in
    record {
      sound = modified_sound log e a.sound above fresh room;
      waiting = rising_filter _ early a.waiting;
      own_ids = times_own _ (own_synced log early late e a fresh);
      fit = all_append FitsEntry (log_with_synced log e).entries _
          (all_append FitsEntry prefix _ fit_prefix (fits, all_filter FitsEntry (stays_after e.key) back fit_back))
          (all_append FitsEntry _ _ (all_filter FitsEntry _ early (all_of_prefix FitsEntry early late fit_rest))
          (all_filter FitsEntry _ (late ++ displaced_entries log e)
          (all_append FitsEntry late (displaced_entries log e) (all_back FitsEntry early late fit_rest)
          (all_filter FitsEntry (is_displaced e.key) back fit_back))));
    }

-- ---- the entry that is found

find_fits : (es : List Entry) (i : Id) (e : Entry) → AllByRecursion FitsEntry es → find_id es i ≡ Some e → FitsEntry e
find_fits [] i e all is = absurd cc
find_fits (x ∷ xs) i e all is =
    elim (cases_Bool (id_eq i (id_of x.key))) [
      | inl here ↦ let same : Some x ≡ Some e = rw here at is in subst FitsEntry (let eq : x ≡ e = cc in eq) all.0
      | inr away ↦ find_fits xs i e all.1 (rw away at is)
    ]

first_fits : (a b : Option Entry) (e : Entry) → ((x : Entry) → a ≡ Some x → FitsEntry x)
    → ((x : Entry) → b ≡ Some x → FitsEntry x) → option_or a b ≡ Some e → FitsEntry e
first_fits None b e ha hb is = hb e is
first_fits (Some x) b e ha hb is = ha e is

pub found_fits : (log : Log) (early late : List Entry) (i : Id) (e : Entry) → AreApart log early late
    → option_or (find_id (unsynced_part log) i) (option_or (find_id early i) (find_id late i)) ≡ Some e → FitsEntry e
found_fits log early late i e a is =
    let logged = all_of_prefix FitsEntry log.entries (early ++ late) a.fit in
    let rest = all_back FitsEntry log.entries (early ++ late) a.fit in
    let back =
    all_back FitsEntry (synced_part log) (unsynced_part log)
    (subst (λ (xs : List Entry). AllByRecursion FitsEntry xs) (sym (take-append-drop log.synced log.entries)) logged) in
    first_fits (find_id (unsynced_part log) i) (option_or (find_id early i) (find_id late i)) e
    (λ x h. find_fits (unsynced_part log) i x back h)
    (λ x h. first_fits (find_id early i) (find_id late i) x
    (λ y k. find_fits early i y (all_of_prefix FitsEntry early late rest) k)
    (λ y k. find_fits late i y (all_back FitsEntry early late rest) k) h)
    is

-- ---- all keys in turn

-- what the taking of keys leaves
pub record HasTaken (s t : ReplicaData) : Type 0 where
  pub same : t ≡ record s { log = t.log; early = t.early; late = t.late }
  pub apart : AreApart t.log t.early t.late
  pub more : s.log.synced ≤ t.log.synced

pub record MaySync (log : Log) (key : Key) : Type 0 where
  pub above : is_above_last (keys_of (synced_part log)) key ≡ true
  pub fresh : has_id (keys_of (synced_part log)) (id_of key) ≡ false
  pub room : length log.entries < MAX_ENTRIES

pub may_sync_true : (log : Log) (key : Key)
    → (is_above_last (keys_of (synced_part log)) key
    && (not (has_id (keys_of (synced_part log)) (id_of key)) && nat_lt (length log.entries) MAX_ENTRIES)) ≡ true
    → MaySync log key
may_sync_true log key may =
    let above = is_above_last (keys_of (synced_part log)) key in
    let there = has_id (keys_of (synced_part log)) (id_of key) in
    let room = nat_lt (length log.entries) MAX_ENTRIES in
    let rest = (and_parts above (not there && room) may).1 in
    record {
      above = (and_parts above (not there && room) may).0;
      fresh = not-true there (and_parts (not there) room rest).0;
      room = ltb-true _ _ (and_parts (not there) room rest).1;
    }

then_taken : (s t u : ReplicaData) → t ≡ record s { log = t.log; early = t.early; late = t.late } → s.log.synced ≤ t.log.synced → HasTaken t u → HasTaken s u
then_taken s t u same more rest =
    record {
      same = rest.same ∙ ap (λ (v : ReplicaData). record v { log = u.log; early = u.early; late = u.late }) same;
      apart = rest.apart;
      more = let later : t.log.synced ≤ u.log.synced = rest.more in omega (arith, more, later);
    }

pub keys_taken : (s : ReplicaData) (keys : List Key) → AreApart s.log s.early s.late → AllByRecursion fields.key.fits keys → HasTaken s (sync_keys s keys).0
unfolding sync_keys
keys_taken s [] a fit = record { same = refl; apart = a; more = omega arith }
keys_taken s (k ∷ keys) a fit =
    elim (cases_Bool (may_sync s k)) [
      | inl may ↦ rw may (go (λ t apart. keys_taken t keys apart fit.1) (entry_of_id s (id_of k)) refl (may_sync_true s.log k may))
      | inr stop ↦ rw stop (record { same = refl; apart = a; more = omega arith })
    ]
  where
    go : ((t : ReplicaData) → AreApart t.log t.early t.late → HasTaken t (sync_keys t keys).0) → (o : Option Entry)
        → entry_of_id s (id_of k) ≡ o → MaySync s.log k
        → HasTaken s (if_found o (s, k ∷ keys) (λ e. sync_keys (synced_with s (record { key = k; command = e.command })) keys)).0
    go rest None is m = record { same = refl; apart = a; more = omega arith }
    go rest (Some e) is m =
        let entry : Entry = record { key = k; command = e.command } in
        let own : FitsEntry entry = record { key = fit.0; command = (found_fits s.log s.early s.late (id_of k) e a is).command } in
        let t = synced_with s entry in
        then_taken s t (sync_keys t keys).0 refl (omega arith) (rest t (apart_synced s.log s.early s.late entry a own m.above m.fresh m.room))

-- ---- what is early no more

early_above : (keys : List Key) (es : List Entry) (y : Key)
    → has_key (keys_of (filter (λ e. is_above_last keys e.key) es)) y ≡ true → is_above_last keys y ≡ true
early_above keys [] y h = absurd cc
early_above keys (e ∷ es) y h =
    elim (cases_Bool (is_above_last keys e.key)) [
      | inr gone ↦ early_above keys es y (rw gone at h)
      | inl kept ↦ elim (or_cases (key_eq y e.key) (has_key (keys_of (filter (λ x. is_above_last keys x.key) es)) y) (rw kept at h)) [
        | inl first ↦ subst (λ (z : Key). is_above_last keys z ≡ true) (sym (same_key y e.key first)) kept
        | inr there ↦ early_above keys es y there
      ]
    ]

pub arranged_overtaken : (log : Log) (early late : List Entry) → AreApart log early late
    → AreArranged log.entries (filter (λ e. is_above_last (keys_of log.entries) e.key) early)
    (late ++ filter (λ e. not (is_above_last (keys_of log.entries) e.key)) early)
arranged_overtaken log early late a =
    let keys = keys_of log.entries in
    let still : Entry → Bool = λ e. is_above_last keys e.key in
    let past : Entry → Bool = λ e. not (is_above_last keys e.key) in
    let lower : AreRising keys = a.sound.ordered.rising in
    let rest = all_back FitsEntry log.entries (early ++ late) a.fit in
    let waited = all_of_prefix FitsEntry early late rest in
    record {
      rising =
          subst AreRising (sym (keys_append log.entries (filter still early)))
          (rising_both keys (keys_of (filter still early)) lower (rising_filter still early a.waiting)
          (λ x y first last. above_each keys y x lower (early_above keys early y last) first));
      own_ids = times_own _ (λ i.
          let sum = times_all i log.entries (filter still early) (late ++ filter past early) in
          let more = times_append i late (filter past early) in
          let split = times_parts i still past (λ e h. let b : is_above_last keys e.key ≡ true = h in rw b refl) early in
          let old = own_times i (log.entries ++ (early ++ late)) a.own_ids in
          let old_sum = times_all i log.entries early late in
          omega (arith, sum, more, split, old, old_sum));
      fit = all_append FitsEntry log.entries _ (all_of_prefix FitsEntry log.entries (early ++ late) a.fit)
          (all_append FitsEntry _ _ (all_filter FitsEntry still early waited)
          (all_append FitsEntry late _ (all_back FitsEntry early late rest) (all_filter FitsEntry past early waited)));
    }

-- ---- the facts of a follower

-- other entries are in log, early and late, and others are committed
pub follower_keeps : (f me : ℕ) (s : ReplicaData) (log : Log) (early late : List Entry) (commit : ℕ) → HasFacts f me s
    → is_normal s.status ≡ true → leads f me s ≡ false
    → IsSound log → AreArranged log.entries early late → commit ≤ log.synced
    → HasFacts f me (record s { log = log; early = early; late = late; commit = commit })
follower_keeps f me s log early late commit h normal follows sound a low =
    let up = normal_up s.status normal in
    grind (arith, h, normal, follows, sound, a, low, up)

-- the keys are taken, what is no longer early goes to late, and more is committed
pub taken_keeps : (f me : ℕ) (s t : ReplicaData) (commit : ℕ) → HasFacts f me s → is_normal s.status ≡ true → leads f me s ≡ false → HasTaken s t
    → HasFacts f me (committed_to (overtaken_to_late t) commit)
taken_keeps f me s t commit h normal follows taken =
    let so_far : s.commit ≤ s.log.synced = h.commit in
    let more : s.log.synced ≤ t.log.synced = taken.more in
    subst (λ (u : ReplicaData). HasFacts f me (committed_to (overtaken_to_late u) commit)) (sym taken.same)
    (follower_keeps f me s t.log _ _ (max s.commit (min commit t.log.synced)) h normal follows taken.apart.sound
    (arranged_overtaken t.log t.early t.late taken.apart) (omega (arith, so_far, more)))
