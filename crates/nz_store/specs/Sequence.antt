-- The one store, which applies commands in turn: what each of them leaves and is answered.
use Rattle.std.specs.Prelude.{ℕ, List, [], ◌∷◌, take, slice_get, Option, Some, None, if◌then◌else◌}
use Rattle.std.specs.Option.{option_map, option_eq}
use Rattle.std.specs.Str.{bytes_eq}
use Rattle.nz_store.specs.declared.command.Command.{Command}
use Rattle.nz_store.specs.declared.command.Command.TheVariants.{Put, Get, Del, Cas}
use Rattle.nz_store.specs.declared.command.Answer.{Answer}
use Rattle.nz_store.specs.declared.command.Answer.TheVariants.{Done, Value, Absent, Differs}
use Rattle.nz_store.specs.Reading.{command_of}
use Rattle.nz_store.specs.Entries.{Entries, empty, value_of, with_value, without_key, with_choice}

-- What get answers.
abbrev pub value_answer : Option (List ℕ) → Answer
value_answer (Some value) = Value value
value_answer None = Absent

-- What del answers.
abbrev pub removal_answer : Option (List ℕ) → Answer
removal_answer (Some value) = Done
removal_answer None = Absent

-- What cas answers where the key has not the old value.
abbrev pub refusal_answer : Option (List ℕ) → Answer
refusal_answer (Some value) = Differs
refusal_answer None = Absent

-- Where the key has the old value it gets the new one.
abbrev pub swap : Entries → List ℕ → Option (List ℕ) → Option (List ℕ) → Entries × Answer
swap store key old new =
    if option_eq bytes_eq (value_of store key) old then (with_choice store key new, Done)
    else (store, refusal_answer (value_of store key))

-- What a command leaves, and its answer.
unfoldable pub apply : Entries → Command → Entries × Answer
apply store (Put key value) = (with_value store key value, Done)
apply store (Get key) = (store, value_answer (value_of store key))
apply store (Del key) = (without_key store key, removal_answer (value_of store key))
apply store (Cas key old new) = swap store key old new

-- The same of a command that may not be there: nothing changes, and the answer is Absent.
abbrev pub apply_found : Entries → Option Command → Entries × Answer
apply_found store (Some command) = apply store command
apply_found store None = (store, Absent)

-- The same of some bytes: bytes that are no command change nothing, and are answered Absent.
unfoldable pub apply_bytes : Entries → List ℕ → Entries × Answer
apply_bytes store bytes = apply_found store (command_of bytes)

-- What is left of a store when a list of bytes was applied in turn.
unfoldable pub store_from : Entries → List (List ℕ) → Entries
store_from store [] = store
store_from store (bytes ∷ list) = store_from (apply_bytes store bytes).0 list

-- The store when the list was applied in turn to the empty map.
abbrev pub store_after : List (List ℕ) → Entries
store_after list = store_from empty list

-- The answer to some bytes when the list was applied before them.
abbrev pub answer_after : List (List ℕ) → List ℕ → Answer
answer_after list bytes = (apply_bytes (store_after list) bytes).1

-- The answer to the bytes at place i of the list, from 0, when those before them were applied in turn to the empty
-- map.
abbrev pub reply : List (List ℕ) → ℕ → Option Answer
reply list i = option_map (answer_after (take i list)) (slice_get list i)

-- The answers to all of them, in order.
unfoldable pub replies_from : Entries → List (List ℕ) → List Answer
replies_from store [] = []
replies_from store (bytes ∷ list) = let next = apply_bytes store bytes in next.1 ∷ replies_from next.0 list

-- The answers to the commands, from the empty store on.
abbrev pub replies : List (List ℕ) → List Answer
replies list = replies_from empty list
