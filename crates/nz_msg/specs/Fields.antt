-- The sorts of field that messages have.
use Rattle.std.specs.Prelude.{ℕ, ◌%◌, Bool, true, false, not, ◌&&◌, ◌==◌, if◌then◌else◌, List, []}
use Rattle.std.specs.Int.{is_in_range}
use Rattle.std.specs.List.{list_all}
use Rattle.nz_base.specs.declared.key.Id.{Id}
use Rattle.nz_base.specs.declared.key.Key.{Key}
use Rattle.nz_base.specs.declared.key.Entry.{Entry}
use Rattle.nz_base.specs.declared.limits.TheConstants.{MAX_VIEW, MAX_DEADLINE, MAX_COMMAND, MAX_VALUE, MAX_KEYS, MAX_REPLICAS}
use Rattle.nz_base.specs.Key.{key_below, id_of, id_eq}
use Rattle.nz_store.specs.declared.command.Answer.{Answer}
use Rattle.nz_store.specs.declared.command.Answer.TheVariants.{Done, Value, Absent, Differs}
use Rattle.nz_msg.specs.declared.message.Path.{Path}
use Rattle.nz_msg.specs.declared.message.Path.TheVariants.{Fast, Slow}
use Rattle.nz_msg.specs.Codec.{Codec, number, run, nothing, with_limit, number_within, ◌leading◌, ◌then◌, as_made, items, with_count}

-- Numbers of 32 and of 64 bits.
abbrev pub u32 : Codec ℕ
u32 = number 4

-- A number of 8 bytes.
abbrev pub u64 : Codec ℕ
u64 = number 8

-- A view, up to the last one.
abbrev pub view : Codec ℕ
view = number_within 8 0 MAX_VIEW

-- A deadline, up to the last one.
abbrev pub deadline : Codec ℕ
deadline = number_within 8 0 MAX_DEADLINE

-- The client, and the number of its request.
abbrev pub id : Codec Id
id = as_made (λ p. record { client = p.0; num = p.1 }) (λ i. (i.client, i.num)) (u32 then u32)

-- The deadline, and the id.
abbrev pub key : Codec Key
key = as_made (λ p. record { deadline = p.0; client = p.1.0; num = p.1.1 }) (λ k. (k.deadline, (k.client, k.num))) (deadline then u32 then u32)

-- At least one byte, and no more than the longest command has, after a length of two bytes.
abbrev pub command : Codec (List ℕ)
command = with_count (number_within 2 1 MAX_COMMAND) run

-- A digest of 20 bytes.
abbrev pub digest : Codec (List ℕ)
digest = run 20

-- A cluster has 3, 5, 7 or 9 replicas.
abbrev pub is_cluster_size : ℕ → Bool
is_cluster_size n = is_in_range 3 MAX_REPLICAS n && n % 2 == 1

-- The size of the cluster in one byte, and a counter for each replica.
abbrev pub vector : Codec (List ℕ)
vector = with_count (with_limit is_cluster_size (number 1)) (items (λ _. u32))

-- ---- answers

-- At least one byte, and no more than the longest value has, after a length of two bytes.
abbrev pub value : Codec (List ℕ)
value = with_count (number_within 2 1 MAX_VALUE) run

-- The byte that says which answer it is, and the value of the one that has a value.
abbrev pub answer_parts : Answer → ℕ × List ℕ
answer_parts Done = (1, [])
answer_parts (Value v) = (2, v)
answer_parts Absent = (3, [])
answer_parts Differs = (4, [])

-- The answer of a tag and a value: 1 done, 2 value, 3 absent, 4 differs.
abbrev pub answer_of : ℕ × List ℕ → Answer
answer_of p = if p.0 == 1 then Done else (if p.0 == 2 then Value p.1 else (if p.0 == 3 then Absent else Differs))

-- A value, or nothing.
abbrev pub value_if : Bool → Codec (List ℕ)
value_if true = value
value_if false = nothing

-- What follows the tag of an answer: a value after the tag 2 alone.
abbrev pub answer_value : ℕ → Codec (List ℕ)
answer_value tag = value_if (tag == 2)

-- An answer: a tag of one byte, 1 to 4, and what follows it.
abbrev pub answer : Codec Answer
answer = as_made answer_of answer_parts (number_within 1 1 4 leading answer_value)

-- A byte 1 for the fast path, 2 for the slow one.
abbrev pub path_number : Path → ℕ
path_number Fast = 1
path_number Slow = 2

-- A path: one byte, 1 fast and 2 slow.
abbrev pub path : Codec Path
path = as_made (λ n. if n == 1 then Fast else Slow) path_number (number_within 1 1 2)

-- ---- lists

-- A key comes after those of all these items, and its id is none of theirs.
abbrev pub may_follow : {A : Type 0} → (A → Key) → List A → Key → Bool
may_follow key_of before key = list_all (λ a. key_below (key_of a) key && not (id_eq (id_of (key_of a)) (id_of key))) before

-- The key of the item after these.
abbrev pub next_key_by : {A : Type 0} → (A → Key) → List A → Codec Key
next_key_by key_of before = with_limit (may_follow key_of before) key

-- The key after these.
abbrev pub next_key : List Key → Codec Key
next_key before = next_key_by (λ k. k) before

-- The entry after these.
abbrev pub next_entry : List Entry → Codec Entry
next_entry before = as_made (λ p. record { key = p.0; command = p.1 }) (λ e. (e.key, e.command)) (next_key_by (λ e. e.key) before then command)

-- 1 to 64 ids after their count of one byte.
abbrev pub ids : Codec (List Id)
ids = with_count (number_within 1 1 MAX_KEYS) (items (λ _. id))

-- At most 64 keys after their count of one byte.
abbrev pub keys : Codec (List Key)
keys = with_count (number_within 1 0 MAX_KEYS) (items next_key)

-- From least to most entries after their count of four bytes.
abbrev pub entries : ℕ → ℕ → Codec (List Entry)
entries least most = with_count (number_within 4 least most) (items next_entry)
