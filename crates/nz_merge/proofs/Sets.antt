-- A set of keys in their order, and keys that are put into it.
use Rattle.std.proofs.Common.{◌≡◌, Bool, true, false, List, [], ◌∷◌, ◌++◌, refl, sym, ap, subst, ◌∙◌}
use Rattle.std.proofs.Common.{drop, length, get_or, ℕ, ◌+◌, ◌<◌, eqb}
use Rattle.std.specs.List.{filter, flat_map}
use Rattle.std.proofs.lemmas.List.Elements.{filter-append}
use Rattle.std.specs.BTreeSet.{insert_key}
use Rattle.std.specs.declared.cmp.Ordering.{Ordering}
use Rattle.std.specs.declared.cmp.Ordering.TheVariants.{Less, Equal, Greater}
use Rattle.nz_base.specs.declared.key.Key.{Key}
use Rattle.nz_base.specs.declared.key.Entry.{Entry}
use Rattle.nz_base.specs.Key.{key_cmp, key_eq}
use Rattle.nz_base.specs.Log.{keys_of}
use Rattle.nz_base.proofs.Names.{key_eq_self, same_key}
use Rattle.nz_merge.specs.Merged.{put_in_order, put_all_in_order, of_view}
use Rattle.nz_merge.specs.declared.report.Report.{Report}
use Rattle.nz_merge.proofs.Ordering.{put_all-append}
use Rattle.nz_merge.proofs.Loops.{next_item}
use Rattle.nz_merge.proofs.Search.{cmp_equal, cmp_self}

greater_apart : (key k : Key) → key_cmp key k ≡ Greater → key_eq key k ≡ false
greater_apart key k e = by_test (key_eq key k) refl
  where
    by_test : (b : Bool) → key_eq key k ≡ b → b ≡ false
    by_test false h = refl
    by_test true h = absurd (let clash_now : Greater ≡ Equal = sym e ∙ ap (λ (x : Key). key_cmp key x) (sym (same_key key k h)) ∙ cmp_self key in cc)

pub insert_is : (cmp : Key → Key → Ordering) → ((a b : Key) → cmp a b ≡ key_cmp a b) → (keys : List Key) (key : Key)
    → insert_key cmp keys key ≡ put_in_order key keys
insert_is cmp same [] key = refl
insert_is cmp same (k ∷ keys) key = by_answer (key_cmp key k) refl (insert_is cmp same keys key)
  where
    by_answer : (o : Ordering) → key_cmp key k ≡ o → insert_key cmp keys key ≡ put_in_order key keys
        → insert_key cmp (k ∷ keys) key ≡ put_in_order key (k ∷ keys)
    by_answer Less e rest = rw (same key k, e) refl
    by_answer Equal e rest =
        let equal : key_eq key k ≡ true = subst (λ (x : Key). key_eq key x ≡ true) (cmp_equal key k e) (key_eq_self key) in
        rw (same key k, e, equal) refl
    by_answer Greater e rest =
        let other = greater_apart key k e in
        rw (same key k, e, other) (ap (λ (xs : List Key). k ∷ xs) rest)

-- the next key passes the test, and is put
pub put_step : (p : Key → Bool) (cmp : Key → Key → Ordering) → ((a b : Key) → cmp a b ≡ key_cmp a b)
    → (before after total : List Key) (log : List Entry) (i : ℕ) (e : Entry)
    → i < length log → e ≡ get_or log i e → p e.key ≡ true → after ≡ insert_key cmp before e.key
    → put_all_in_order before (filter p (keys_of (drop i log))) ≡ total
    → put_all_in_order after (filter p (keys_of (drop (i + 1) log))) ≡ total
put_step p cmp same before after total log i e lt is passes put h =
    let ordered : after ≡ put_in_order e.key before = put ∙ insert_is cmp same before e.key in
    let whole : put_all_in_order before (filter p (keys_of (e ∷ drop (i + 1) log))) ≡ total =
    ap (λ (xs : List Entry). put_all_in_order before (filter p (keys_of xs))) (sym (next_item log i e lt is)) ∙ h in
    ap (λ (xs : List Key). put_all_in_order xs (filter p (keys_of (drop (i + 1) log)))) ordered ∙ rw passes at whole

-- the next key fails the test, and is left out
pub leave_step : (p : Key → Bool) (before total : List Key) (log : List Entry) (i : ℕ) (e : Entry)
    → i < length log → e ≡ get_or log i e → p e.key ≡ false
    → put_all_in_order before (filter p (keys_of (drop i log))) ≡ total
    → put_all_in_order before (filter p (keys_of (drop (i + 1) log))) ≡ total
leave_step p before total log i e lt is fails h =
    let whole : put_all_in_order before (filter p (keys_of (e ∷ drop (i + 1) log))) ≡ total =
    ap (λ (xs : List Entry). put_all_in_order before (filter p (keys_of xs))) (sym (next_item log i e lt is)) ∙ h in
    rw fails at whole

-- those keys of the reports' logs that pass a test
abbrev pub keys_passing : (Key → Bool) → List Report → List Key
keys_passing p reports = filter p (flat_map (λ c. keys_of c.log) reports)

-- the keys of one log more are put
pub log_step : (p : Key → Bool) (view : ℕ) (before after total : List Key) (reports : List Report) (i : ℕ) (c : Report)
    → i < length reports → c ≡ get_or reports i c → eqb c.last view ≡ true
    → after ≡ put_all_in_order before (filter p (keys_of c.log)) → put_all_in_order before (keys_passing p (of_view view (drop i reports))) ≡ total
    → put_all_in_order after (keys_passing p (of_view view (drop (i + 1) reports))) ≡ total
log_step p view before after total reports i c lt is of put h =
    let rest = flat_map (λ d. keys_of d.log) (of_view view (drop (i + 1) reports)) in
    let whole : put_all_in_order before (keys_passing p (of_view view (c ∷ drop (i + 1) reports))) ≡ total =
    ap (λ (xs : List Report). put_all_in_order before (keys_passing p (of_view view xs))) (sym (next_item reports i c lt is)) ∙ h in
    let mine : put_all_in_order before (filter p (keys_of c.log ++ rest)) ≡ total = rw of at whole in
    ap (λ (xs : List Key). put_all_in_order xs (filter p rest)) put
    ∙ sym (put_all-append before (filter p (keys_of c.log)) (filter p rest))
    ∙ ap (λ (xs : List Key). put_all_in_order before xs) (sym (filter-append p (keys_of c.log) rest)) ∙ mine

pub skip_step : (p : Key → Bool) (view : ℕ) (before total : List Key) (reports : List Report) (i : ℕ) (c : Report) → i < length reports
    → c ≡ get_or reports i c → eqb c.last view ≡ false
    → put_all_in_order before (keys_passing p (of_view view (drop i reports))) ≡ total
    → put_all_in_order before (keys_passing p (of_view view (drop (i + 1) reports))) ≡ total
skip_step p view before total reports i c lt is other h =
    let whole : put_all_in_order before (keys_passing p (of_view view (c ∷ drop (i + 1) reports))) ≡ total =
    ap (λ (xs : List Report). put_all_in_order before (keys_passing p (of_view view xs))) (sym (next_item reports i c lt is)) ∙ h in
    rw other at whole
