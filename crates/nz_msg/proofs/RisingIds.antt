-- Keys that rise, and the numbers of each client with them: no id comes twice.
use Rattle.std.proofs.Common.{◌≡◌, ℕ, suc, ◌-◌, ◌<◌, ◌≤◌, nat_lt, true, false, ◌&&◌, List, [], ◌∷◌, ◌++◌, length, refl, sym, subst, ◌∙◌, inl, inr}
use Rattle.std.proofs.Common.{arith, ltb-true, get_or-set_same, get_or-set_other}
use Rattle.std.specs.Prelude.{slice_index, slice_set, slice_get, Option, Ok}
use Rattle.std.specs.Option.{option_map}
use Rattle.std.proofs.lemmas.Bool.{cases_Bool, cases_eq, and_parts}
use Rattle.nz_base.specs.declared.key.Id.{Id}
use Rattle.nz_base.specs.declared.key.Key.{Key}
use Rattle.nz_base.specs.declared.key.Entry.{Entry}
use Rattle.nz_base.specs.Key.{key_below, id_eq, id_of}
use Rattle.nz_base.specs.Log.{keys_of, has_id, is_above_last}
use Rattle.nz_base.proofs.Booleans.{true_and_false}
use Rattle.nz_base.proofs.Names.{same_id}
use Rattle.nz_base.proofs.Logs.{has_id-append, keys_append, rising_more}
use Rattle.nz_msg.specs.declared.fault.Fault.{Fault}
use Rattle.nz_msg.specs.declared.fault.Fault.TheVariants as faults
use Rattle.nz_msg.specs.declared.rising_ids.RisingIds.{RisingIds}
use Rattle.nz_msg.specs.Codec.{limited_at}
use Rattle.nz_msg.specs.Fields.{may_follow, key, command, next_key_by, next_entry}
use Rattle.nz_msg.specs.Reading.{Fails}
use Rattle.nz_msg.specs.RisingIds.{is_above, comes_in_turn, after_key, AreInTurn}
use Rattle.nz_msg.proofs.Follows.{follows_last, by_keys}

-- the parts of the test
record ComesNext (before : List Key) (ids : RisingIds) (k : Key) : Type 0 where
  pub placed : k.client < length ids.numbers
  pub greater : slice_index ids.numbers k.client < k.num
  pub above : is_above_last before k ≡ true

turn_of : (before : List Key) (ids : RisingIds) (k : Key) → AreInTurn before ids → comes_in_turn ids k ≡ true → ComesNext before ids k
turn_of before ids k held h =
    let all = and_parts (nat_lt k.client (length ids.numbers)) (nat_lt (slice_index ids.numbers k.client) k.num && is_above ids.last k) h in
    let rest = and_parts (nat_lt (slice_index ids.numbers k.client) k.num) (is_above ids.last k) all.1 in
    record {
      placed = ltb-true k.client (length ids.numbers) all.0;
      greater = ltb-true (slice_index ids.numbers k.client) k.num rest.0;
      above = sym (held.up_to_last k) ∙ rest.1;
    }

fresh_id : (before : List Key) (ids : RisingIds) (k : Key) → AreInTurn before ids → slice_index ids.numbers k.client < k.num
    → has_id before (id_of k) ≡ false
fresh_id before ids k held greater =
    elim (cases_Bool (has_id before (id_of k))) [
      | inl there ↦ let most : k.num ≤ slice_index ids.numbers k.client = held.numbered (id_of k) there in absurd (omega arith)
      | inr fresh ↦ fresh
    ]

-- what comes in turn may follow
pub turn_follows : (before : List Key) (ids : RisingIds) (k : Key) → AreInTurn before ids
    → comes_in_turn ids k ≡ true → may_follow (λ (x : Key). x) before k ≡ true
turn_follows before ids k held h =
    let turn = turn_of before ids k held h in
    follows_last before k held.rising ∙ (rw (turn.above, fresh_id before ids k held turn.greater) refl)

-- ---- one more key

-- a number that is raised bounds no less
raised : (numbers : List ℕ) (client num j n : ℕ) → client < length numbers → slice_index numbers client < num
    → n ≤ slice_index numbers j → n ≤ slice_index (slice_set numbers client num) j
raised numbers client num j n placed greater le =
    elim (cases_eq j client) [
      | inl same ↦ rw (same, get_or-set_same) (let at : n ≤ slice_index numbers client = rw same at le in omega arith)
      | inr other ↦ rw get_or-set_other le
    ]

earlier_id : (before : List Key) (k : Key) (i : Id) → id_eq i (id_of k) ≡ false
    → has_id (before ++ k ∷ []) i ≡ true → has_id before i ≡ true
earlier_id before k i other h =
    elim (cases_Bool (has_id before i)) [
      | inl there ↦ there
      | inr away ↦ true_and_false (has_id (before ++ k ∷ []) i) h (has_id-append before (k ∷ []) i ∙ (rw (away, other) refl))
    ]

numbered_more : (before : List Key) (ids : RisingIds) (k : Key) → AreInTurn before ids → ComesNext before ids k → (i : Id)
    → has_id (before ++ k ∷ []) i ≡ true → i.num ≤ slice_index (slice_set ids.numbers k.client k.num) i.client
numbered_more before ids k held turn i h =
    elim (cases_Bool (id_eq i (id_of k))) [
      | inl same ↦
          subst (λ (j : Id). j.num ≤ slice_index (slice_set ids.numbers k.client k.num) j.client) (sym (same_id i (id_of k) same))
          (let placed : k.client < length ids.numbers = turn.placed in rw get_or-set_same (omega arith))
      | inr other ↦
          raised ids.numbers k.client k.num i.client i.num turn.placed turn.greater
          (held.numbered i (earlier_id before k i other h))
    ]

above_appended : (before : List Key) (last k : Key) → key_below last k ≡ is_above_last (before ++ last ∷ []) k
above_appended [] last k = refl
above_appended (a ∷ []) last k = refl
above_appended (a ∷ b ∷ before) last k = above_appended (b ∷ before) last k

pub in_turn_more : (before : List Key) (ids : RisingIds) (k : Key) → AreInTurn before ids
    → comes_in_turn ids k ≡ true → AreInTurn (before ++ k ∷ []) (after_key ids k)
in_turn_more before ids k held h =
    let turn = turn_of before ids k held h in
    record {
      rising = rising_more before k held.rising turn.above;
      up_to_last = above_appended before k;
      numbered = numbered_more before ids k held turn;
    }

-- ---- one key

pub next_key_read : {A : Type 0} (key_of : A → Key) (before : List A) (bytes : List ℕ) (k : Key) (rest : List ℕ)
    → key.get bytes ≡ Ok (k, rest) → may_follow key_of before k ≡ true → (next_key_by key_of before).get bytes ≡ Ok (k, rest)
unfolding limited_at
next_key_read key_of before bytes k rest first next = rw (first, next) refl

pub next_key_fails : {A : Type 0} (key_of : A → Key) (before : List A) (bytes : List ℕ) (fault : Fault)
    → Fails fault (key.get bytes) → Fails fault ((next_key_by key_of before).get bytes)
unfolding limited_at
next_key_fails key_of before bytes faults.NoMemory h = tt
next_key_fails key_of before bytes (faults.Bad left) h = rw h refl

-- ---- entries, by their keys

-- the key of the last entry is enough for all of them
pub above_entries : (before : List Entry) (last : Option Key) (k : Key)
    → last ≡ option_map (λ (e : Entry). e.key) (slice_get before (length before - 1)) → is_above last k ≡ is_above_last (keys_of before) k
above_entries [] last k h = rw h refl
above_entries (e ∷ []) last k h = rw h refl
above_entries (e ∷ f ∷ before) last k h =
    let place : length (e ∷ f ∷ before) - 1 ≡ suc (length (f ∷ before) - 1) = omega arith in
    above_entries (f ∷ before) last k (rw place at h)

pub entry_follows : (before : List Entry) (ids : RisingIds) (k : Key) → AreInTurn (keys_of before) ids
    → comes_in_turn ids k ≡ true → may_follow (λ (e : Entry). e.key) before k ≡ true
entry_follows before ids k held h = by_keys before k ∙ turn_follows (keys_of before) ids k held h

pub entries_more : (before : List Entry) (ids : RisingIds) (e : Entry) → AreInTurn (keys_of before) ids
    → comes_in_turn ids e.key ≡ true → AreInTurn (keys_of (before ++ e ∷ [])) (after_key ids e.key)
entries_more before ids e held h =
    subst (λ (keys : List Key). AreInTurn keys (after_key ids e.key)) (sym (keys_append before (e ∷ [])))
    (in_turn_more (keys_of before) ids e.key held h)

pub next_read : (before : List Entry) (bytes : List ℕ) (k : Key) (middle c rest : List ℕ) → key.get bytes ≡ Ok (k, middle)
    → may_follow (λ (e : Entry). e.key) before k ≡ true → command.get middle ≡ Ok (c, rest)
    → (next_entry before).get bytes ≡ Ok (record { key = k; command = c }, rest)
next_read before bytes k middle c rest first next second =
    rw (next_key_read (λ (e : Entry). e.key) before bytes k middle first next, second) refl

pub next_without_key : (before : List Entry) (bytes : List ℕ) (fault : Fault) → Fails fault (key.get bytes)
    → Fails fault ((next_entry before).get bytes)
next_without_key before bytes faults.NoMemory h = tt
next_without_key before bytes (faults.Bad left) h = rw (next_key_fails (λ (e : Entry). e.key) before bytes (faults.Bad left) h) refl

pub next_without_command : (before : List Entry) (bytes : List ℕ) (k : Key) (middle : List ℕ) (fault : Fault) → key.get bytes ≡ Ok (k, middle)
    → may_follow (λ (e : Entry). e.key) before k ≡ true → Fails fault (command.get middle)
    → Fails fault ((next_entry before).get bytes)
next_without_command before bytes k middle faults.NoMemory first next h = tt
next_without_command before bytes k middle (faults.Bad left) first next h =
    rw (next_key_read (λ (e : Entry). e.key) before bytes k middle first next, h) refl
