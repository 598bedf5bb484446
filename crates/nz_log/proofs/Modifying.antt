-- A modification leaves a log, one entry more of which is synced.
use Rattle.nz_base.specs.declared.limits.TheConstants.{MAX_ENTRIES}
use Rattle.std.proofs.Common.{◌≡◌, ℕ, ◌+◌, ◌<◌, ◌≤◌, Bool, true, false, List, [], ◌∷◌, ◌++◌, length, take, drop}
use Rattle.std.proofs.Common.{cond, sym, ap, subst, ◌∙◌, inl, inr, ◌⊎◌, arith, length-append, append_assoc}
use Rattle.std.proofs.lemmas.Bool.{cases_Bool, or_cases, or_left, or_right}
use Rattle.std.specs.List.{filter, insert}
use Rattle.std.proofs.lemmas.List.{take-append-drop, length-take-le}
use Rattle.std.proofs.Math.Seq.{take-append_seam, drop-append_seam}
use Rattle.nz_base.specs.declared.key.Key.{Key}
use Rattle.nz_base.specs.declared.key.Entry.{Entry}
use Rattle.nz_base.specs.Key.{key_below, key_eq, id_eq, id_of}
use Rattle.nz_base.specs.Log.{keys_of, has_key, has_id, IsLog, is_above_last}
use Rattle.nz_base.proofs.Names.{same_key}
use Rattle.nz_base.proofs.Booleans.{length-filter_le}
use Rattle.nz_base.proofs.Logs.{has_append, has_in_prefix, has_back, keys_append, log_push}
use Rattle.nz_log.specs.Synced.{Log, IsSound, synced_part, unsynced_part, stays_after, is_displaced, log_with_synced, displaced_entries}
use Rattle.nz_log.proofs.Lists.{log_put}

-- an entry is put in at a place, and of what then follows it some goes
pub put_parts : (es : List Entry) (place : ℕ) (e : Entry) (p : Entry → Bool) → place ≤ length es
    → take (place + 1) (insert es place e) ++ filter p (drop (place + 1) (insert es place e)) ≡ take place es ++ e ∷ filter p (drop place es)
put_parts es place e p within =
    let prefix = take place es ++ e ∷ [] in
    let back = drop place es in
    let long : length prefix ≡ place + 1 = length-append (take place es) (e ∷ []) ∙ ap (λ (n : ℕ). n + 1) (length-take-le place es within) in
    let whole : insert es place e ≡ prefix ++ back = sym (append_assoc (take place es) (e ∷ []) back) in
    let first : take (place + 1) (insert es place e) ≡ prefix =
    ap (λ (xs : List Entry). take (place + 1) xs) whole ∙ ap (λ (n : ℕ). take n (prefix ++ back)) (sym long) ∙ take-append_seam prefix back in
    let rest : drop (place + 1) (insert es place e) ≡ back =
    ap (λ (xs : List Entry). drop (place + 1) xs) whole ∙ ap (λ (n : ℕ). drop n (prefix ++ back)) (sym long) ∙ drop-append_seam prefix back in
    ap (λ (xs : List Entry). xs ++ filter p (drop (place + 1) (insert es place e))) first
    ∙ ap (λ (xs : List Entry). prefix ++ filter p xs) rest
    ∙ append_assoc (take place es) (e ∷ []) (filter p back)

parts_of : (log : Log) → synced_part log ++ unsynced_part log ≡ log.entries
parts_of log = take-append-drop log.synced log.entries

length-synced_part : (log : Log) → IsSound log → length (synced_part log) ≡ log.synced
length-synced_part log sound = length-take-le log.synced log.entries sound.within

pub pushed_sound : (log : Log) (e : Entry) → IsSound log → is_above_last (keys_of log.entries) e.key ≡ true → has_id (keys_of log.entries) (id_of e.key) ≡ false
    → length log.entries < MAX_ENTRIES → IsSound (record log { entries = log.entries ++ e ∷ [] })
pushed_sound log e sound above fresh room =
    let long : length (log.entries ++ e ∷ []) ≡ length log.entries + 1 = length-append log.entries (e ∷ []) in
    let within : log.synced ≤ length log.entries = sound.within in
    record { ordered = log_push log.entries e sound.ordered above fresh; within = omega (arith, long); few = omega (arith, long) }

pub modified_sound : (log : Log) (e : Entry) → IsSound log → is_above_last (keys_of (synced_part log)) e.key ≡ true
    → has_id (keys_of (synced_part log)) (id_of e.key) ≡ false
    → length log.entries < MAX_ENTRIES → IsSound (log_with_synced log e)
modified_sound log e sound above fresh room =
    let prefix = synced_part log in
    let back = unsynced_part log in
    let kept = filter (stays_after e.key) back in
    let long : length (prefix ++ e ∷ kept) ≡ length prefix + length (e ∷ kept) = length-append prefix (e ∷ kept) in
    let whole : length prefix + length back ≡ length log.entries = sym (length-append prefix back) ∙ ap length (parts_of log) in
    let few : length kept ≤ length back = length-filter_le (stays_after e.key) back in
    let lead : length prefix ≡ log.synced = length-synced_part log sound in
    record {
      ordered = log_put prefix e back (subst IsLog (sym (parts_of log)) sound.ordered) above fresh;
      within = omega (arith, long, lead);
      few = omega (arith, long, whole, few, room);
    }

pub synced_more : (log : Log) (e : Entry) → IsSound log → synced_part (log_with_synced log e) ≡ synced_part log ++ e ∷ []
synced_more log e sound =
    let prefix = synced_part log ++ e ∷ [] in
    let kept = filter (stays_after e.key) (unsynced_part log) in
    let long : length prefix ≡ log.synced + 1 = length-append (synced_part log) (e ∷ []) ∙ ap (λ (n : ℕ). n + 1) (length-synced_part log sound) in
    ap (λ (xs : List Entry). take (log.synced + 1) xs) (sym (append_assoc (synced_part log) (e ∷ []) kept))
    ∙ ap (λ (n : ℕ). take n (prefix ++ kept)) (sym long)
    ∙ take-append_seam prefix kept

-- ---- what becomes of the old entries

split_kept : (key : Key) (es : List Entry) (x : Key) → id_eq (id_of key) (id_of x) ≡ false → has_key (keys_of es) x ≡ true
    → (has_key (keys_of (filter (stays_after key) es)) x ≡ true) ⊎ (has_key (keys_of (filter (is_displaced key) es)) x ≡ true)
split_kept key [] x apart h = absurd cc
split_kept key (e ∷ es) x apart h =
    elim (or_cases (key_eq x e.key) (has_key (keys_of es) x) h) [
      | inr there ↦ further (stays_after key e) (is_displaced key e) (split_kept key es x apart there)
      | inl here ↦
          let other : id_eq (id_of key) (id_of e.key) ≡ false = subst (λ (k : Key). id_eq (id_of key) (id_of k) ≡ false) (same_key x e.key here) apart in
          elim (cases_Bool (key_below key e.key)) [
            | inl above ↦ inl (rw (above, other) (or_left (key_eq x e.key) (has_key (keys_of (filter (stays_after key) es)) x) here))
            | inr not_above ↦ inr (rw (not_above, other) (or_left (key_eq x e.key) (has_key (keys_of (filter (is_displaced key) es)) x) here))
          ]
    ]
  where
    later : (b : Bool) (few : List Entry) → has_key (keys_of few) x ≡ true → has_key (keys_of (cond b (e ∷ few) few)) x ≡ true
    later true few there = or_right (key_eq x e.key) (has_key (keys_of few) x) there
    later false few there = there

    further : (b d : Bool) → (has_key (keys_of (filter (stays_after key) es)) x ≡ true) ⊎ (has_key (keys_of (filter (is_displaced key) es)) x ≡ true)
        → (has_key (keys_of (cond b (e ∷ filter (stays_after key) es) (filter (stays_after key) es))) x ≡ true)
        ⊎ (has_key (keys_of (cond d (e ∷ filter (is_displaced key) es) (filter (is_displaced key) es))) x ≡ true)
    further b d (inl stays) = inl (later b (filter (stays_after key) es) stays)
    further b d (inr goes) = inr (later d (filter (is_displaced key) es) goes)

pub none_lost : (log : Log) (e : Entry) (x : Key) → has_key (keys_of log.entries) x ≡ true → id_eq (id_of e.key) (id_of x) ≡ false
    → (has_key (keys_of (log_with_synced log e).entries) x ≡ true) ⊎ (has_key (keys_of (displaced_entries log e)) x ≡ true)
none_lost log e x h apart =
    let prefix = synced_part log in
    let back = unsynced_part log in
    let kept = filter (stays_after e.key) back in
    let parts : keys_of log.entries ≡ keys_of prefix ++ keys_of back = sym (ap keys_of (parts_of log)) ∙ keys_append prefix back in
    let whole = sym (keys_append prefix (e ∷ kept)) in
    elim (has_append (keys_of prefix) (keys_of back) x (subst (λ (ks : List Key). has_key ks x ≡ true) parts h)) [
      | inl early ↦ inl (subst (λ (ks : List Key). has_key ks x ≡ true) whole (has_in_prefix (keys_of prefix) (e.key ∷ keys_of kept) x early))
      | inr late ↦ elim (split_kept e.key back x apart late) [
        | inl stays ↦
            inl (subst (λ (ks : List Key). has_key ks x ≡ true) whole
            (has_back (keys_of prefix) (e.key ∷ keys_of kept) x (or_right (key_eq x e.key) (has_key (keys_of kept) x) stays)))
        | inr goes ↦ inr goes
      ]
    ]

-- ---- an entry put in, and what may not follow it taken out

-- What is before and after the entry that was put in.
pub put_prefix : (es : List Entry) (place : ℕ) (e : Entry) → place ≤ length es → take (place + 1) (take place es ++ e ∷ drop place es) ≡ take place es ++ e ∷ []
put_prefix es place e within =
    let prefix = take place es ++ e ∷ [] in
    let back = drop place es in
    let long : length prefix ≡ place + 1 = length-append (take place es) (e ∷ []) ∙ ap (λ (n : ℕ). n + 1) (length-take-le place es within) in
    ap (λ (xs : List Entry). take (place + 1) xs) (sym (append_assoc (take place es) (e ∷ []) back))
    ∙ ap (λ (n : ℕ). take n (prefix ++ back)) (sym long) ∙ take-append_seam prefix back

pub put_back : (es : List Entry) (place : ℕ) (e : Entry) → place ≤ length es → drop (place + 1) (take place es ++ e ∷ drop place es) ≡ drop place es
put_back es place e within =
    let prefix = take place es ++ e ∷ [] in
    let back = drop place es in
    let long : length prefix ≡ place + 1 = length-append (take place es) (e ∷ []) ∙ ap (λ (n : ℕ). n + 1) (length-take-le place es within) in
    ap (λ (xs : List Entry). drop (place + 1) xs) (sym (append_assoc (take place es) (e ∷ []) back))
    ∙ ap (λ (n : ℕ). drop n (prefix ++ back)) (sym long) ∙ drop-append_seam prefix back

pub kept_after : (es : List Entry) (place : ℕ) (e : Entry) (put left : List Entry) → place ≤ length es → put ≡ take place es ++ e ∷ drop place es
    → left ≡ take (place + 1) put ++ filter (stays_after e.key) (drop (place + 1) put)
    → left ≡ take place es ++ e ∷ filter (stays_after e.key) (drop place es)
kept_after es place e put left within is kept =
    kept
    ∙ ap (λ (xs : List Entry). take (place + 1) xs ++ filter (stays_after e.key) (drop (place + 1) xs)) is
    ∙ ap (λ (xs : List Entry). xs ++ filter (stays_after e.key) (drop (place + 1) (take place es ++ e ∷ drop place es))) (put_prefix es place e within)
    ∙ ap (λ (xs : List Entry). (take place es ++ e ∷ []) ++ filter (stays_after e.key) xs) (put_back es place e within)
    ∙ append_assoc (take place es) (e ∷ []) (filter (stays_after e.key) (drop place es))
