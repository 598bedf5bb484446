-- The digests where an entry is put in: those of the entries that stay after it are folded anew, one after another.
use Rattle.std.proofs.Common.{◌≡◌, ◌≢◌, ℕ, suc, ◌+◌, ◌-◌, ◌<◌, ◌≤◌, Bool, true, false, List, [], ◌∷◌, ◌++◌, length, take, drop, get_or}
use Rattle.std.proofs.Common.{set, cond, sym, ap, subst, ◌∙◌, arith, append_assoc, append-nil, length-append, length-drop}
use Rattle.std.specs.List.{filter}
use Rattle.std.proofs.Math.Seq.{take-append_seam, get_or-append_seam}
use Rattle.std.proofs.lemmas.List.{take-append-drop, length-take-le, take_all, drop_all, take_more, take_more_set}
use Rattle.std.proofs.lemmas.List.{drop-append-le, get_or-append_right, get_or-drop, get_or-set_other}
use Rattle.std.proofs.lemmas.List.Elements.{filter-append}
use Rattle.nz_base.specs.declared.key.Key.{Key}
use Rattle.nz_base.specs.declared.key.Entry.{Entry}
use Rattle.nz_digest.specs.Digests.{digest_of_key, key_bytes, xor_bytes}
use Rattle.nz_digest.proofs.Keys.{length-digest, length-sha1}
use Rattle.nz_log.specs.Places.{digest_of_log, digest_at}
use Rattle.nz_log.specs.Synced.{stays_after}
use Rattle.nz_log.specs.Keeping.{IsSummed, digest_with, without_place}
use Rattle.nz_log.proofs.Digests.{digest_push, digest_more, fold_over}
use Rattle.nz_log.proofs.Modifying.{put_back}
use Rattle.nz_log.proofs.Summing.{sums_push, sums_take}

-- The entry that was put in and those before it, and of those after it, up to and with a place, the ones that stay.
abbrev pub settled : List Entry → ℕ → Key → ℕ → List Entry
settled es place key last = take (place + 1) es ++ filter (stays_after key) (drop (place + 1) (take (last + 1) es))

-- The digests while they are folded anew: the first are those of the settled entries but the last, whose digest is the sum, and
-- those from here on are still the old ones.
pub record IsFolding (es : List Entry) (place : ℕ) (key : Key) (from kept : ℕ) (ds : List (List ℕ)) (before sum : List ℕ) : Type 0 where
  pub first : IsSummed (settled es place key from) (take kept ds ++ sum ∷ [])
  pub folded : sum ≡ digest_of_log (settled es place key from)
  pub rest : (k : ℕ) → from ≤ k → k + 1 < length es → (d : List ℕ) → get_or ds k d ≡ digest_at (without_place es place) k
  pub old : before ≡ digest_of_log (take from (without_place es place))

module _ (es : List Entry) (place : ℕ) (key : Key) (within : place < length es) where
  prefix_long : length (take place es) ≡ place
  prefix_long = length-take-le place es (omega (arith, within))

  pub others_long : length (without_place es place) + 1 ≡ length es
  others_long =
      let long : length (without_place es place) ≡ length (take place es) + length (drop (place + 1) es) =
      length-append (take place es) (drop (place + 1) es) in
      let first : length (take place es) ≡ place = prefix_long in
      let last : length (drop (place + 1) es) ≡ length es - (place + 1) = length-drop (place + 1) es in
      omega (arith, long, first, last, within)

  prefix_same_entries : take place (without_place es place) ≡ take place es
  prefix_same_entries = ap (λ (n : ℕ). take n (without_place es place)) (sym prefix_long) ∙ take-append_seam (take place es) (drop (place + 1) es)

  other_at : (from : ℕ) (d : Entry) → place ≤ from → get_or (without_place es place) from d ≡ get_or es (from + 1) d
  other_at from d after =
      let far : place + 1 + (from - place) ≡ from + 1 = omega (arith, after) in
      get_or-append_right (take place es) (drop (place + 1) es) place from d prefix_long after
      ∙ get_or-drop (place + 1) es (from - place) d
      ∙ ap (λ (n : ℕ). get_or es n d) far

  next_settled : (from : ℕ) (x : Entry) → place ≤ from → from + 1 < length es → x ≡ get_or es (from + 1) x
      → settled es place key (from + 1) ≡ settled es place key from ++ cond (stays_after key x) (x ∷ []) []
  next_settled from x after more is =
      let p = stays_after key in
      let prefix = take (from + 1) es in
      let head = take (place + 1) es in
      let long : length prefix ≡ from + 1 = length-take-le (from + 1) es (omega (arith, more)) in
      ap (λ (xs : List Entry). head ++ filter p (drop (place + 1) xs)) (take_more es (from + 1) x more ∙ ap (λ (y : Entry). prefix ++ y ∷ []) (sym is))
      ∙ ap (λ (xs : List Entry). head ++ filter p xs) (drop-append-le (place + 1) prefix (x ∷ []) (omega (arith, long, after)))
      ∙ ap (λ (xs : List Entry). head ++ xs) (filter-append p (drop (place + 1) prefix) (x ∷ []))
      ∙ sym (append_assoc head (filter p (drop (place + 1) prefix)) (cond (p x) (x ∷ []) []))

  pub fold_start : (ds : List (List ℕ)) (x : Entry) (before sum : List ℕ) → x ≡ get_or es place x → x.key ≡ key → IsSummed (without_place es place) ds
      → before ≡ digest_of_log (take place (without_place es place)) → sum ≡ xor_bytes before (digest_of_key key.deadline key.client key.num)
      → IsFolding es place key place place ds before sum
  fold_start ds x before sum is named others old folded =
      let none : drop (place + 1) (take (place + 1) es) ≡ [] =
      drop_all (place + 1) (take (place + 1) es)
      (let long : length (take (place + 1) es) ≡ place + 1 = length-take-le (place + 1) es (omega (arith, within)) in omega (arith, long)) in
      let whole : settled es place key place ≡ take place es ++ x ∷ [] =
      ap (λ (xs : List Entry). take (place + 1) es ++ filter (stays_after key) xs) none
      ∙ append-nil (take (place + 1) es)
      ∙ take_more es place x within
      ∙ ap (λ (y : Entry). take place es ++ y ∷ []) (sym is) in
      let fits : place ≤ length (without_place es place) = let long = others_long in omega (arith, long, within) in
      let prefix : IsSummed (take place es) (take place ds) =
      subst (λ (xs : List Entry). IsSummed xs (take place ds)) prefix_same_entries (sums_take (without_place es place) ds place others fits) in
      let with : sum ≡ digest_with (take place es) x.key =
      folded
      ∙ ap (λ (d : List ℕ). xor_bytes d (digest_of_key key.deadline key.client key.num)) (old ∙ ap digest_of_log prefix_same_entries)
      ∙ ap (digest_with (take place es)) (sym named) in
      record {
        first = subst (λ (xs : List Entry). IsSummed xs (take place ds ++ sum ∷ [])) (sym whole) (sums_push (take place es) (take place ds) x sum prefix with);
        folded = with ∙ sym (digest_push (take place es) x) ∙ ap digest_of_log (sym whole);
        rest = λ k after more d. others.sums k (let long = others_long in omega (arith, long, more)) d;
        old = old;
      }

  -- one entry more
  module _ (from kept : ℕ) (ds : List (List ℕ)) (before sum next : List ℕ) (x : Entry) (after : place ≤ from)
      (more : from + 1 < length es) (is : x ≡ get_or es (from + 1) x) (read : next ≡ get_or ds from next)
      (folding : IsFolding es place key from kept ds before sum) where
    next_old : next ≡ digest_of_log (take (from + 1) (without_place es place))
    next_old =
        let one : suc from ≡ from + 1 = omega arith in
        read ∙ folding.rest from (omega arith) more next ∙ ap (λ (n : ℕ). digest_of_log (take n (without_place es place))) one

    pub fold_gone : stays_after key x ≡ false → IsFolding es place key (from + 1) kept ds next sum
    fold_gone gone =
        let same : settled es place key (from + 1) ≡ settled es place key from =
        next_settled from x after more is ∙ ap (λ (b : Bool). settled es place key from ++ cond b (x ∷ []) []) gone ∙ append-nil (settled es place key from) in
        record {
          first = subst (λ (xs : List Entry). IsSummed xs (take kept ds ++ sum ∷ [])) (sym same) folding.first;
          folded = folding.folded ∙ ap digest_of_log (sym same);
          rest = λ k late most d. folding.rest k (omega (arith, late)) most d;
          old = next_old;
        }

    pub fold_stays : stays_after key x ≡ true → kept ≤ from → from < length ds
        → IsFolding es place key (from + 1) (kept + 1) (set ds kept sum) next (xor_bytes (xor_bytes sum before) next)
    fold_stays stays down there =
        let all = settled es place key from in
        let own = digest_of_key x.key.deadline x.key.client x.key.num in
        let others = without_place es place in
        let whole : settled es place key (from + 1) ≡ all ++ x ∷ [] =
        next_settled from x after more is ∙ ap (λ (b : Bool). all ++ cond b (x ∷ []) []) stays in
        let fits : from < length others = let long = others_long in omega (arith, long, more) in
        let added : next ≡ xor_bytes before own =
        next_old ∙ digest_more others from x fits (is ∙ sym (other_at from x after)) ∙ ap (λ (d : List ℕ). xor_bytes d own) (sym folding.old) in
        let twenty : length before ≡ length own =
        ap length folding.old ∙ length-digest _ ∙ sym (length-sha1 (key_bytes x.key.deadline x.key.client x.key.num)) in
        let with : xor_bytes (xor_bytes sum before) next ≡ digest_with all x.key =
        ap (xor_bytes (xor_bytes sum before)) added
        ∙ fold_over sum before own twenty
        ∙ ap (λ (d : List ℕ). xor_bytes d own) folding.folded in
        let put : take (kept + 1) (set ds kept sum) ≡ take kept ds ++ sum ∷ [] = take_more_set ds kept sum (omega (arith, down, there)) in
        let new = xor_bytes (xor_bytes sum before) next in
        record {
          first = subst (λ (xs : List Entry). IsSummed xs (take (kept + 1) (set ds kept sum) ++ new ∷ [])) (sym whole)
              (subst (λ (s : List (List ℕ)). IsSummed (all ++ x ∷ []) (s ++ new ∷ [])) (sym put)
              (sums_push all (take kept ds ++ sum ∷ []) x new folding.first with));
          folded = with ∙ sym (digest_push all x) ∙ ap digest_of_log (sym whole);
          rest = λ k late most d.
              let apart : k ≢ kept = omega (arith, late, down) in
              get_or-set_other ds kept k sum d apart ∙ folding.rest k (omega (arith, late)) most d;
          old = next_old;
        }

  pub fold_end : (from kept : ℕ) (ds : List (List ℕ)) (before sum : List ℕ) → length es ≤ from + 1 → IsFolding es place key from kept ds before sum
      → IsSummed (take (place + 1) es ++ filter (stays_after key) (drop (place + 1) es)) (take kept ds ++ sum ∷ [])
  fold_end from kept ds before sum end folding =
      subst (λ (xs : List Entry). IsSummed (take (place + 1) es ++ filter (stays_after key) (drop (place + 1) xs))
      (take kept ds ++ sum ∷ [])) (take_all (from + 1) es end) folding.first

-- ---- an entry put in

module _ (es put : List Entry) (place : ℕ) (e : Entry) (within : place ≤ length es) (is : put ≡ take place es ++ e ∷ drop place es) where
  prefix_is : length (take place es) ≡ place
  prefix_is = length-take-le place es within

  pub put_long : length put ≡ length es + 1
  put_long =
      let long : length (take place es ++ e ∷ drop place es) ≡ length (take place es) + length (e ∷ drop place es) =
      length-append (take place es) (e ∷ drop place es) in
      let first : length (take place es) ≡ place = prefix_is in
      let last : length (drop place es) ≡ length es - place = length-drop place es in
      ap length is ∙ omega (arith, long, first, last, within)

  pub put_here : (d : Entry) → (get_or put place d).key ≡ e.key
  put_here d =
      let there : get_or (take place es ++ e ∷ drop place es) place d ≡ e =
      subst (λ (n : ℕ). get_or (take place es ++ e ∷ drop place es) n d ≡ e) prefix_is (get_or-append_seam (take place es) e (drop place es) d) in
      ap (λ (xs : List Entry). (get_or xs place d).key) is ∙ ap (λ (x : Entry). x.key) there

  pub put_others : without_place put place ≡ es
  put_others =
      let first : take place (take place es ++ e ∷ drop place es) ≡ take place es =
      ap (λ (n : ℕ). take n (take place es ++ e ∷ drop place es)) (sym prefix_is) ∙ take-append_seam (take place es) (e ∷ drop place es) in
      ap (λ (xs : List Entry). without_place xs place) is
      ∙ ap (λ (xs : List Entry). xs ++ drop (place + 1) (take place es ++ e ∷ drop place es)) first
      ∙ ap (λ (xs : List Entry). take place es ++ xs) (put_back es place e within)
      ∙ take-append-drop place es
