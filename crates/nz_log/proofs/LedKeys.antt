-- Keys of the leader's log are put at the end of the synced part, one after another: the synced part is a prefix of the
-- leader's log, and so is each prefix of the log that is comparable with the leader's.
use Rattle.std.proofs.Common.{◌≡◌, ℕ, zero, suc, ◌+◌, ◌-◌, ◌≤◌, Bool, true, false, List, [], ◌∷◌, ◌++◌, length, take, drop, cond, Option, Some}
use Rattle.std.proofs.Common.{None, slice_get, refl, sym, ap, subst, ◌∙◌, arith, inl, inr, append_assoc, append-nil, take-append-drop}
use Rattle.std.specs.List.{filter}
use Rattle.std.proofs.Math.Seq.{drop-append_seam}
use Rattle.std.proofs.lemmas.Bool.{cases_lt, cases_Bool}
use Rattle.std.proofs.lemmas.Option.{same_Some}
use Rattle.std.proofs.lemmas.List.{length-map, length-take-le, drop-drop, drop_all}
use Rattle.nz_base.specs.declared.key.Key.{Key}
use Rattle.nz_base.specs.declared.key.Entry.{Entry}
use Rattle.nz_base.specs.declared.key.Id.{Id}
use Rattle.nz_base.specs.Key.{key_below, id_eq, id_of}
use Rattle.nz_base.specs.Log.{keys_of, has_key, has_id, AreRising, HaveOwnIds}
use Rattle.nz_base.specs.Prefixes.{IsPrefix, Comparable}
use Rattle.nz_base.proofs.Booleans.{true_and_false}
use Rattle.nz_base.proofs.Keys.{key_below-self}
use Rattle.nz_base.proofs.Logs.{keys_append, has_first, has_later, rising_back}
use Rattle.nz_base.proofs.Prefixes.{prefix_self, prefix_more, prefix_then, shorter_prefix}
use Rattle.nz_log.specs.Synced.{Log, IsSound, synced_part, unsynced_part, stays_after, log_with_synced}
use Rattle.nz_log.proofs.Modifying.{synced_more}

-- ---- lists that go on after a prefix

-- the item after a prefix
next_is : {X : Type 0} (prefix rest : List X) (k : X) → slice_get (prefix ++ rest) (length prefix) ≡ Some k → (more : List X) × (rest ≡ k ∷ more)
next_is [] [] k e = absurd cc
next_is {X} [] (x ∷ rest) k e = (rest, ap (λ (z : X). z ∷ rest) (same_Some x k e))
next_is (x ∷ prefix) rest k e = next_is prefix rest k e

-- two lists that go on after one prefix have the same next item, if one begins with the other
same_item : {X : Type 0} (prefix xs ys : List X) (x y : X) (rest : List X) → prefix ++ y ∷ ys ≡ (prefix ++ x ∷ xs) ++ rest → x ≡ y
same_item [] xs ys x y rest e = cc
same_item (z ∷ prefix) xs ys x y rest e = let tail : prefix ++ y ∷ ys ≡ (prefix ++ x ∷ xs) ++ rest = cc in same_item prefix xs ys x y rest tail

same_next : {X : Type 0} (prefix xs ys : List X) (x y : X) → Comparable (prefix ++ x ∷ xs) (prefix ++ y ∷ ys) → x ≡ y
same_next prefix xs ys x y (inl p) = same_item prefix xs ys x y p.rest p.whole
same_next prefix xs ys x y (inr p) = sym (same_item prefix ys xs y x p.rest p.whole)

same_tails : {X : Type 0} (prefix xs ys : List X) → prefix ++ xs ≡ prefix ++ ys → xs ≡ ys
same_tails [] xs ys same = same
same_tails (x ∷ prefix) xs ys same = let tail : prefix ++ xs ≡ prefix ++ ys = cc in same_tails prefix xs ys tail

-- ---- a key that is put where it is already

-- entries of keys above, with other ids, stay
pub all_stay : (key : Key) (es : List Entry) → ((x : Key) → has_key (keys_of es) x ≡ true → key_below key x ≡ true) → has_id (keys_of es) (id_of key) ≡ false
    → filter (stays_after key) es ≡ es
all_stay key [] above apart = refl
all_stay key (e ∷ es) above apart =
    let other : id_eq (id_of key) (id_of e.key) ≡ false = elim (cases_Bool (id_eq (id_of key) (id_of e.key))) [
      | inl same ↦ true_and_false (has_id (keys_of (e ∷ es)) (id_of key)) (rw same refl) apart
      | inr away ↦ away
    ] in
    let rest = all_stay key es (λ x there. above x (has_later e.key (keys_of es) x there)) (rw other at apart) in
    rw (above e.key (has_first e.key (keys_of es)), other) (ap (λ (l : List Entry). e ∷ l) rest)

-- the entry with the key goes, and those after it stay
none_goes : (es : List Entry) (key : Key) (more : List Key) → keys_of es ≡ key ∷ more → AreRising (keys_of es) → HaveOwnIds (keys_of es)
    → key ∷ keys_of (filter (stays_after key) es) ≡ keys_of es
none_goes [] key more e rising own = absurd cc
none_goes (x ∷ es) key more e rising own =
    let head : x.key ≡ key = cc in
    let low : key_below key x.key ≡ false = ap (λ (k : Key). key_below key k) head ∙ key_below-self key in
    let apart : has_id (keys_of es) (id_of key) ≡ false = subst (λ (k : Key). has_id (keys_of es) (id_of k) ≡ false) head own.0 in
    let rest = all_stay key es (λ y there. subst (λ (k : Key). key_below k y ≡ true) head (rising.0 y there)) apart in
    rw (low, rest) (ap (λ (k : Key). k ∷ keys_of es) (sym head))

own_rest : (xs ys : List Key) → HaveOwnIds (xs ++ ys) → HaveOwnIds ys
own_rest [] ys own = own
own_rest (x ∷ xs) ys own = own_rest xs ys own.1

-- ---- one key

-- the leader's log is the synced part, the key at its end, and more
pub ahead_of : (log : Log) (k : Key) (lead : List Key) → IsSound log → IsPrefix (keys_of (synced_part log)) lead → slice_get lead log.synced ≡ Some k
    → (more : List Key) × (lead ≡ keys_of (synced_part log) ++ k ∷ more)
ahead_of log k lead sound prefix next =
    let A = keys_of (synced_part log) in
    let long : length A ≡ log.synced = length-map (synced_part log) (λ (x : Entry). x.key) ∙ length-take-le log.synced log.entries sound.within in
    let here : slice_get (A ++ prefix.rest) (length A) ≡ Some k =
    ap (λ (n : ℕ). slice_get (A ++ prefix.rest) n) long ∙ ap (λ (l : List Key). slice_get l log.synced) (sym prefix.whole) ∙ next in
    let rest = next_is A prefix.rest k here in
    (rest.0, prefix.whole ∙ ap (λ (l : List Key). A ++ l) rest.1)

module _ (log : Log) (e : Entry) (lead : List Key) (sound : IsSound log) (more : List Key) (ahead : lead ≡ keys_of (synced_part log) ++ e.key ∷ more) where
  parts : keys_of log.entries ≡ keys_of (synced_part log) ++ keys_of (unsynced_part log)
  parts = sym (ap keys_of (take-append-drop log.synced log.entries)) ∙ keys_append (synced_part log) (unsynced_part log)

  after : keys_of (log_with_synced log e).entries ≡ keys_of (synced_part log) ++ e.key ∷ keys_of (filter (stays_after e.key) (unsynced_part log))
  after = keys_append (synced_part log) (e ∷ filter (stays_after e.key) (unsynced_part log))

  pub synced_stays : IsPrefix (keys_of (synced_part (log_with_synced log e))) lead
  synced_stays =
      let part : keys_of (synced_part (log_with_synced log e)) ≡ keys_of (synced_part log) ++ e.key ∷ [] =
      ap keys_of (synced_more log e sound) ∙ keys_append (synced_part log) (e ∷ []) in
      record { rest = more; whole = ahead ∙ sym (append_assoc (keys_of (synced_part log)) (e.key ∷ []) more) ∙ ap (λ (l : List Key). l ++ more) (sym part) }

  -- a prefix that goes beyond the synced part has the key there already
  beyond : (P : List Key) → IsPrefix P (keys_of log.entries) → Comparable P lead → (rest : List Key) → P ≡ keys_of (synced_part log) ++ rest
      → IsPrefix P (keys_of (log_with_synced log e).entries)
  beyond P p either [] whole =
      let same : P ≡ keys_of (synced_part log) = whole ∙ append-nil (keys_of (synced_part log)) in
      let tail = e.key ∷ keys_of (filter (stays_after e.key) (unsynced_part log)) in
      record { rest = tail; whole = after ∙ ap (λ (l : List Key). l ++ tail) (sym same) }
  beyond P p either (x ∷ rest) whole =
      let A = keys_of (synced_part log) in
      let B = keys_of (unsynced_part log) in
      let against : Comparable (A ++ x ∷ rest) (A ++ e.key ∷ more) =
      subst (λ (l : List Key). Comparable (A ++ x ∷ rest) l) ahead (subst (λ (l : List Key). Comparable l lead) whole either) in
      let same : x ≡ e.key = same_next A rest more x e.key against in
      let follows : B ≡ x ∷ rest ++ p.rest =
      same_tails A B (x ∷ rest ++ p.rest) (sym parts ∙ p.whole ∙ ap (λ (l : List Key). l ++ p.rest) whole ∙ append_assoc A (x ∷ rest) p.rest) in
      let there : B ≡ e.key ∷ (rest ++ p.rest) = follows ∙ ap (λ (k : Key). k ∷ (rest ++ p.rest)) same in
      let rising = rising_back A B (subst AreRising parts sound.ordered.rising) in
      let own = own_rest A B (subst HaveOwnIds parts sound.ordered.own_ids) in
      let kept = none_goes (unsynced_part log) e.key (rest ++ p.rest) there rising own in
      let unchanged : keys_of (log_with_synced log e).entries ≡ keys_of log.entries = after ∙ ap (λ (l : List Key). A ++ l) kept ∙ sym parts in
      subst (IsPrefix P) (sym unchanged) p

  pub prefixes_stay : (P : List Key) → IsPrefix P (keys_of log.entries) → Comparable P lead → IsPrefix P (keys_of (log_with_synced log e).entries)
  prefixes_stay P p either =
      let A = keys_of (synced_part log) in
      let part : IsPrefix A (keys_of log.entries) = record { rest = keys_of (unsynced_part log); whole = parts } in
      elim (cases_lt (length A) (length P)) [
        | inr short ↦
            let tail = e.key ∷ keys_of (filter (stays_after e.key) (unsynced_part log)) in
            subst (IsPrefix P) (sym after) (prefix_then P A (A ++ tail) (shorter_prefix P A (keys_of log.entries) p part short) (prefix_more A tail))
        | inl deep ↦ let q = shorter_prefix A P (keys_of log.entries) part p (omega (arith, deep)) in beyond P p either q.rest q.whole
      ]

-- ---- one key after another

unfoldable pub if_found : {S : Type 0} → Option Entry → S → (Entry → S) → S
if_found None s f = s
if_found (Some e) s f = f e

-- of states with a log: which key may be put next, the entry that is found for an id, and the state with an entry more
module _ {S : Type 0} (log_of : S → Log) (may : S → Key → Bool) (found : S → Id → Option Entry) (next : S → Entry → S) where
  -- the keys in turn, each with the command that is found for its id
  unfoldable pub syncs : S → List Key → S
  unfolding if_found
  syncs s [] = s
  syncs s (k ∷ ks) = cond (may s k) (if_found (found s (id_of k)) s (λ e. syncs (next s (record { key = k; command = e.command })) ks)) s

  -- an entry more modifies the log, and leaves it sound where it may be put
  pub record ModifiesLog : Type 0 where
    pub is : (s : S) (e : Entry) → log_of (next s e) ≡ log_with_synced (log_of s) e
    pub sound : (s : S) (e : Entry) → may s e.key ≡ true → IsSound (log_of s) → IsSound (log_with_synced (log_of s) e)

  -- what is kept from s to t, beside the leader's log
  pub record KeepsPrefixes (lead : List Key) (s t : S) : Type 0 where
    pub sound : IsSound (log_of t)
    pub synced : IsPrefix (keys_of (synced_part (log_of t))) lead
    pub grown : IsPrefix (keys_of (synced_part (log_of s))) (keys_of (synced_part (log_of t)))
    pub prefixes : (P : List Key) → IsPrefix P (keys_of (log_of s).entries) → Comparable P lead → IsPrefix P (keys_of (log_of t).entries)

  keeps_same : (lead : List Key) (s : S) (ks : List Key) → IsSound (log_of s) → IsPrefix (keys_of (synced_part (log_of s)) ++ ks) lead → KeepsPrefixes lead s s
  keeps_same lead s ks sound p =
      let A = keys_of (synced_part (log_of s)) in
      record { sound = sound; synced = prefix_then A (A ++ ks) lead (prefix_more A ks) p; grown = prefix_self A; prefixes = λ P prefix either. prefix }

  -- the leader's log goes on with the keys after the synced part
  pub keeps : ModifiesLog → (lead : List Key) (s : S) (ks : List Key) → IsSound (log_of s) → IsPrefix (keys_of (synced_part (log_of s)) ++ ks) lead
      → KeepsPrefixes lead s (syncs s ks)
  unfolding syncs if_found
  keeps fits lead s [] sound p = keeps_same lead s [] sound p
  keeps fits lead s (k ∷ ks) sound p = by_test (may s k) refl (found s (id_of k)) (λ t. keeps fits lead t ks)
    where
      -- one key, and then the rest of them
      step : (e : Entry) → e.key ≡ k → may s e.key ≡ true
          → (IsSound (log_of (next s e)) → IsPrefix (keys_of (synced_part (log_of (next s e))) ++ ks) lead
          → KeepsPrefixes lead (next s e) (syncs (next s e) ks))
          → KeepsPrefixes lead s (syncs (next s e) ks)
      step e same yes_may rest =
          let log = log_of s in
          let A = keys_of (synced_part log) in
          let after = log_of (next s e) in
          let is = fits.is s e in
          let ahead : lead ≡ A ++ e.key ∷ (ks ++ p.rest) = p.whole ∙ append_assoc A (k ∷ ks) p.rest ∙ ap (λ (x : Key). A ++ x ∷ (ks ++ p.rest)) (sym same) in
          let part : keys_of (synced_part after) ≡ A ++ e.key ∷ [] =
          ap (λ (l : Log). keys_of (synced_part l)) is ∙ ap keys_of (synced_more log e sound) ∙ keys_append (synced_part log) (e ∷ []) in
          let whole : lead ≡ (keys_of (synced_part after) ++ ks) ++ p.rest =
          ahead ∙ sym (append_assoc A (e.key ∷ []) (ks ++ p.rest)) ∙ ap (λ (l : List Key). l ++ (ks ++ p.rest)) (sym part)
          ∙ sym (append_assoc (keys_of (synced_part after)) ks p.rest) in
          let now : IsSound after = subst IsSound (sym is) (fits.sound s e yes_may sound) in
          let done = rest now (record { rest = p.rest; whole = whole }) in
          record {
            sound = done.sound;
            synced = done.synced;
            grown = record {
              rest = e.key ∷ done.grown.rest;
              whole = done.grown.whole ∙ ap (λ (l : List Key). l ++ done.grown.rest) part ∙ append_assoc A (e.key ∷ []) done.grown.rest;
            };
            prefixes = λ P prefix either.
                let one = prefixes_stay log e lead sound (ks ++ p.rest) ahead P prefix either in
                done.prefixes P (subst (λ (l : Log). IsPrefix P (keys_of l.entries)) (sym is) one) either;
          }

      by_test : (b : Bool) → may s k ≡ b → (o : Option Entry)
          → ((t : S) → IsSound (log_of t) → IsPrefix (keys_of (synced_part (log_of t)) ++ ks) lead → KeepsPrefixes lead t (syncs t ks))
          → KeepsPrefixes lead s (cond b (if_found o s (λ e. syncs (next s (record { key = k; command = e.command })) ks)) s)
      by_test false e o rest = keeps_same lead s (k ∷ ks) sound p
      by_test true e None rest = keeps_same lead s (k ∷ ks) sound p
      by_test true e (Some x) rest = step (record { key = k; command = x.command }) refl e (rest (next s (record { key = k; command = x.command })))

-- ---- the keys that a log modification brings

prefix_drop : {X : Type 0} (k : ℕ) (xs ys : List X) → IsPrefix (drop k xs) (drop k (xs ++ ys))
prefix_drop zero xs ys = prefix_more xs ys
prefix_drop {X} (suc k) [] ys = record { rest = drop (suc k) ys; whole = refl }
prefix_drop (suc k) (x ∷ xs) ys = prefix_drop k xs ys

no_more : {X : Type 0} (xs : List X) → IsPrefix xs [] → xs ≡ []
no_more [] p = refl
no_more {X} (x ∷ xs) p = absurd (let e : ◌≡◌ {A = List X} [] (x ∷ (xs ++ p.rest)) = p.whole in cc)

-- keys of an earlier leader's log, from start on, come next after a prefix of the leader's log that is no shorter
-- than start
pub named_ahead : {X : Type 0} (A early lead : List X) (start count : ℕ) → IsPrefix A lead → IsPrefix early lead → start ≤ length A
    → IsPrefix (A ++ drop (length A - start) (take count (drop start early))) lead
named_ahead {X} A early lead start count a b le =
    let named = drop start early in
    let known = length A - start in
    let some = drop known (take count named) in
    let more : IsPrefix some (drop known (take count named ++ drop count named)) = prefix_drop known (take count named) (drop count named) in
    let place : start + known ≡ length A = omega (arith, le) in
    let rest : drop known (take count named ++ drop count named) ≡ drop (length A) early =
    ap (drop known) (take-append-drop count named) ∙ drop-drop known start early ∙ ap (λ (n : ℕ). drop n early) place in
    let prefix : IsPrefix some (drop (length A) early) = subst (IsPrefix some) rest more in
    elim (cases_lt (length early) (length A)) [
      | inl short ↦
          let none : drop (length A) early ≡ [] = drop_all (length A) early (omega (arith, short)) in
          let empty = no_more some (subst (IsPrefix some) none prefix) in
          subst (λ (l : List X). IsPrefix (A ++ l) lead) (sym empty) (subst (λ (l : List X). IsPrefix l lead) (sym (append-nil A)) a)
      | inr long_enough ↦
          let within = shorter_prefix A early lead a b long_enough in
          let follows : drop (length A) early ≡ within.rest = ap (λ (l : List X). drop (length A) l) within.whole ∙ drop-append_seam A within.rest in
          let next = subst (IsPrefix some) follows prefix in
          let both : IsPrefix (A ++ some) early = record {
            rest = next.rest;
            whole = within.whole ∙ ap (λ (l : List X). A ++ l) next.whole ∙ sym (append_assoc A some next.rest);
          } in
          prefix_then (A ++ some) early lead both b
    ]
