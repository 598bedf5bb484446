-- Each sort of field is read as it is spelled.
use Rattle.nz_base.specs.declared.limits.TheConstants.{MAX_ENTRIES, MAX_VIEW}
use Rattle.std.proofs.Common.{◌*◌, ◌≡◌, ℕ, suc, zero, ◌+◌, ◌^◌, ◌-◌, ◌<◌, ◌≤◌, Bool, true, false, eqb, List, refl, sym, ap, arith}
use Rattle.std.specs.Prelude.{◌==◌, if◌then◌else◌}
use Rattle.std.specs.Int.{is_in_range}
use Rattle.std.proofs.lemmas.Bool.Decides.{nat_tests}
use Rattle.nz_base.specs.declared.key.Key.{Key}
use Rattle.nz_base.specs.declared.key.Entry.{Entry}
use Rattle.nz_store.specs.declared.command.Answer.{Answer}
use Rattle.nz_store.specs.declared.command.Answer.TheVariants.{Done, Value, Absent, Differs}
use Rattle.nz_msg.specs.declared.message.Path.{Path}
use Rattle.nz_msg.specs.declared.message.Path.TheVariants.{Fast, Slow}
use Rattle.nz_msg.specs.Codec.{number, run, with_limit, number_within, ◌leading◌, ◌then◌, items, with_count}
use Rattle.nz_msg.specs.Fields.{u32, u64, view, deadline, id, key, command, digest, is_cluster_size, vector, value, answer_parts, answer_of, value_if}
use Rattle.nz_msg.specs.Fields.{answer_value, answer, path_number, path, may_follow, next_key_by, next_key, next_entry, ids, keys, entries}
use Rattle.nz_msg.proofs.Codecs.{IsExact, IsWide, wide1, wide2, wide4, wide8, number_exact, run_exact, nothing_exact}
use Rattle.nz_msg.proofs.Codecs.{limited_exact, leading_exact, then_exact, made_exact, items_exact, counted_exact}

pub within_exact : (size least most : ℕ) → IsWide size → IsExact (number_within size least most) size
within_exact size least most wide = limited_exact (is_in_range least most) (number size) size (number_exact size wide)

pub within_most : (size least most n : ℕ) → (number_within size least most).fits n → n ≤ most
within_most size least most n h = let range = h.1 in grind (arith, nat_tests, range)

pub u32_exact : IsExact u32 4
u32_exact = number_exact 4 wide4

pub u64_exact : IsExact u64 8
u64_exact = number_exact 8 wide8

pub view_exact : IsExact view 8
view_exact = within_exact 8 0 MAX_VIEW wide8

pub deadline_exact : IsExact deadline 8
deadline_exact = within_exact 8 0 (2 ^ 63 - 1) wide8

pub id_exact : IsExact id 8
id_exact = made_exact _ _ (u32 then u32) 8 (λ i. refl) (λ p h. refl) (then_exact u32 u32 4 4 u32_exact u32_exact)

pub key_exact : IsExact key 16
key_exact =
    made_exact _ _ (deadline then u32 then u32) 16 (λ k. refl) (λ p h. refl)
    (then_exact deadline (u32 then u32) 8 8 deadline_exact (then_exact u32 u32 4 4 u32_exact u32_exact))

-- a run of bytes after its length
pub blob_exact : (most : ℕ) → IsExact (with_count (number_within 2 1 most) run) (2 + most)
blob_exact most =
    counted_exact (number_within 2 1 most) run 2 most (within_exact 2 1 most wide2)
    (λ k h. run_exact k most (within_most 2 1 most k h)) (λ k xs h. h) (λ k bytes. (run_exact k k (omega arith)).within bytes)

pub command_exact : IsExact command 554
command_exact = blob_exact 552

pub digest_exact : IsExact digest 20
digest_exact = run_exact 20 20 (omega arith)

vector_small : (n : ℕ) → (with_limit is_cluster_size (number 1)).fits n → n ≤ 9
vector_small n h = let range = h.1 in grind (arith, nat_tests, range)

pub vector_exact : IsExact vector 37
vector_exact =
    counted_exact (with_limit is_cluster_size (number 1)) (items (λ _. u32)) 1 36
    (limited_exact is_cluster_size (number 1) 1 (number_exact 1 wide1))
    (λ k h. items_exact (λ _. u32) 4 k 9 (vector_small k h) (λ before. u32_exact)) (λ k xs h. h.0)
    (λ k bytes. (items_exact (λ _. u32) 4 k k (omega arith) (λ before. u32_exact)).within bytes)

pub value_exact : IsExact value 258
value_exact = blob_exact 256

answer_back : (a : Answer) → answer_of (answer_parts a) ≡ a
answer_back Done = refl
answer_back (Value v) = refl
answer_back Absent = refl
answer_back Differs = refl

answer_forth : (tag : ℕ) (text : List ℕ) → tag < 5 → 0 < tag → (answer_value tag).fits text → answer_parts (answer_of (tag, text)) ≡ (tag, text)
answer_forth zero text small some h = absurd (omega arith)
answer_forth (suc zero) text small some h = ap (λ (v : List ℕ). (1, v)) (sym h)
answer_forth (suc (suc zero)) text small some h = refl
answer_forth (suc (suc (suc zero))) text small some h = ap (λ (v : List ℕ). (3, v)) (sym h)
answer_forth (suc (suc (suc (suc zero)))) text small some h = ap (λ (v : List ℕ). (4, v)) (sym h)
answer_forth (suc (suc (suc (suc (suc n))))) text small some h = absurd (omega arith)

value_or_nothing : (b : Bool) → IsExact (value_if b) 258
value_or_nothing true = value_exact
value_or_nothing false = nothing_exact 258

answer_value_exact : (tag : ℕ) → IsExact (answer_value tag) 258
answer_value_exact tag = value_or_nothing (eqb tag 2)

tag_small : (n : ℕ) → (number_within 1 1 4).fits n → n < 5
tag_small n h = let range = h.1 in grind (arith, nat_tests, range)

tag_some : (n : ℕ) → (number_within 1 1 4).fits n → 0 < n
tag_some n h = let range = h.1 in grind (arith, nat_tests, range)

pub answer_exact : IsExact answer 259
answer_exact =
    made_exact answer_of answer_parts (number_within 1 1 4 leading answer_value) 259 answer_back
    (λ p h. answer_forth p.0 p.1 (tag_small p.0 h.0) (tag_some p.0 h.0) h.1)
    (leading_exact (number_within 1 1 4) answer_value 1 258 (within_exact 1 1 4 wide1)
    (λ tag h. answer_value_exact tag) (λ tag bytes. (answer_value_exact tag).within bytes))

path_back : (p : Path) → (if path_number p == 1 then Fast else Slow) ≡ p
path_back Fast = refl
path_back Slow = refl

path_forth : (n : ℕ) → n < 3 → 0 < n → path_number (if n == 1 then Fast else Slow) ≡ n
path_forth zero small some = absurd (omega arith)
path_forth (suc zero) small some = refl
path_forth (suc (suc zero)) small some = refl
path_forth (suc (suc (suc n))) small some = absurd (omega arith)

path_small : (n : ℕ) → (number_within 1 1 2).fits n → n < 3
path_small n h = let range = h.1 in grind (arith, nat_tests, range)

path_some : (n : ℕ) → (number_within 1 1 2).fits n → 0 < n
path_some n h = let range = h.1 in grind (arith, nat_tests, range)

pub path_exact : IsExact path 1
path_exact =
    made_exact (λ n. if n == 1 then Fast else Slow) path_number (number_within 1 1 2) 1 path_back
    (λ n h. path_forth n (path_small n h) (path_some n h)) (within_exact 1 1 2 wide1)

-- ---- lists

pub next_key_by_exact : {A : Type 0} (key_of : A → Key) (before : List A) → IsExact (next_key_by key_of before) 16
next_key_by_exact key_of before = limited_exact (may_follow key_of before) key 16 key_exact

pub next_key_exact : (before : List Key) → IsExact (next_key before) 16
next_key_exact before = next_key_by_exact (λ k. k) before

pub next_entry_exact : (before : List Entry) → IsExact (next_entry before) 570
next_entry_exact before =
    made_exact _ _ (next_key_by (λ e. e.key) before then command) 570 (λ e. refl) (λ p h. refl)
    (then_exact (next_key_by (λ e. e.key) before) command 16 554 (next_key_by_exact (λ e. e.key) before) command_exact)

pub ids_exact : IsExact ids 513
ids_exact =
    counted_exact (number_within 1 1 64) (items (λ _. id)) 1 512 (within_exact 1 1 64 wide1)
    (λ k h. items_exact (λ _. id) 8 k 64 (within_most 1 1 64 k h) (λ before. id_exact)) (λ k xs h. h.0)
    (λ k bytes. (items_exact (λ _. id) 8 k k (omega arith) (λ before. id_exact)).within bytes)

pub keys_exact : IsExact keys 1025
keys_exact =
    counted_exact (number_within 1 0 64) (items next_key) 1 1024 (within_exact 1 0 64 wide1)
    (λ k h. items_exact next_key 16 k 64 (within_most 1 0 64 k h) next_key_exact) (λ k xs h. h.0)
    (λ k bytes. (items_exact next_key 16 k k (omega arith) next_key_exact).within bytes)

few_items : (least most k : ℕ) → most ≤ MAX_ENTRIES → (number_within 4 least most).fits k → k ≤ MAX_ENTRIES
few_items least most k few h = let small = within_most 4 least most k h in omega arith

-- The bytes of the longest list of entries: its count, and 570 bytes for each entry.
abbrev pub longest_entries : ℕ
longest_entries = 4 + MAX_ENTRIES * 570

pub entries_exact : (least most : ℕ) → most ≤ MAX_ENTRIES → IsExact (entries least most) longest_entries
entries_exact least most few =
    counted_exact (number_within 4 least most) (items next_entry) 4 (MAX_ENTRIES * 570) (within_exact 4 least most wide4)
    (λ k h. items_exact next_entry 570 k MAX_ENTRIES (few_items least most k few h) next_entry_exact) (λ k xs h. h.0)
    (λ k bytes. (items_exact next_entry 570 k k (omega arith) next_entry_exact).within bytes)
