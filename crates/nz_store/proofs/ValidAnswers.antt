-- Each value that a store has or answers was put there by a command, so it is one of the grammar.
use Rattle.std.proofs.Common.{◌≡◌, ℕ, Bool, List, [], ◌∷◌, filter, Option, Some, None, refl, inl, inr}
use Rattle.std.proofs.lemmas.Bool.{cases_Bool}
use Rattle.std.specs.Option.{option_eq}
use Rattle.std.specs.List.{AllByRecursion}
use Rattle.std.specs.Str.{bytes_eq}
use Rattle.std.specs.Ordering.{nat_cmp, match_ordering}
use Rattle.std.specs.declared.cmp.Ordering.{Ordering}
use Rattle.std.specs.declared.cmp.Ordering.TheVariants.{Less, Equal, Greater}
use Rattle.std.specs.Cmp.Lexicographic.{slice_cmp}
use Rattle.nz_store.specs.declared.command.Command.{Command}
use Rattle.nz_store.specs.declared.command.Command.TheVariants.{Put, Get, Del, Cas}
use Rattle.nz_store.specs.declared.command.Answer.{Answer}
use Rattle.nz_store.specs.declared.command.Answer.TheVariants.{Done, Value, Absent, Differs}
use Rattle.nz_store.specs.Grammar.{IsValue, IsOptionalValue, IsValidCommand}
use Rattle.nz_store.specs.Reading.{command_of}
use Rattle.nz_store.specs.Entries.{Entries, empty, value_of, with_value, with_choice}
use Rattle.nz_store.specs.Sequence.{value_answer, removal_answer, refusal_answer, swap, apply, apply_found}
use Rattle.nz_store.specs.Sequence.{apply_bytes, store_from, store_after, answer_after}
use Rattle.nz_store.proofs.Spellings.{spells_from_reading}

-- The value that is answered, if one is, is a value of the grammar.
abbrev pub IsValidAnswer : Answer → Type 0
IsValidAnswer (Value value) = IsValue value
IsValidAnswer Done = Unit {0}
IsValidAnswer Absent = Unit {0}
IsValidAnswer Differs = Unit {0}

abbrev HasValue : List ℕ × List ℕ → Type 0
HasValue e = IsValue e.1

abbrev HaveValues : Entries → Type 0
HaveValues store = AllByRecursion HasValue store

abbrev Holds : Entries × Answer → Type 0
Holds t = HaveValues t.0 × IsValidAnswer t.1

-- ---- one command

put_holds : (o : Ordering) (e : List ℕ × List ℕ) (key value : List ℕ) (rest new : Entries) → HaveValues (e ∷ rest) → HaveValues new → IsValue value
    → HaveValues (match_ordering o ((key, value) ∷ e ∷ rest) ((e.0, value) ∷ rest) (e ∷ new))
put_holds Less e key value rest new all more own = (own, all)
put_holds Equal e key value rest new all more own = (own, all.1)
put_holds Greater e key value rest new all more own = (all.0, more)

with_holds : (store : Entries) (key value : List ℕ) → HaveValues store → IsValue value → HaveValues (with_value store key value)
with_holds [] key value all own = (own, tt)
with_holds (e ∷ store) key value all own =
    put_holds (slice_cmp nat_cmp key e.0) e key value store (with_value store key value) all (with_holds store key value all.1 own) own

filter_holds : (keeps : List ℕ × List ℕ → Bool) (store : Entries) → HaveValues store → HaveValues (filter keeps store)
filter_holds keeps [] all = tt
filter_holds keeps (e ∷ store) all =
    elim (cases_Bool (keeps e)) [
      | inl kept ↦ rw kept (all.0, filter_holds keeps store all.1)
      | inr gone ↦ rw gone (filter_holds keeps store all.1)
    ]

choice_holds : (store : Entries) (key : List ℕ) (value : Option (List ℕ)) → HaveValues store → IsOptionalValue value → HaveValues (with_choice store key value)
choice_holds store key None all own = filter_holds _ store all
choice_holds store key (Some value) all own = with_holds store key value all own

read_holds : (store : Entries) (key : List ℕ) → HaveValues store → IsValidAnswer (value_answer (value_of store key))
read_holds [] key all = tt
read_holds (e ∷ store) key all =
    elim (cases_Bool (bytes_eq key e.0)) [
      | inl here ↦ rw here all.0
      | inr away ↦ rw away (read_holds store key all.1)
    ]

removal_holds : (value : Option (List ℕ)) → IsValidAnswer (removal_answer value)
removal_holds None = tt
removal_holds (Some value) = tt

refusal_holds : (value : Option (List ℕ)) → IsValidAnswer (refusal_answer value)
refusal_holds None = tt
refusal_holds (Some value) = tt

swap_holds : (store : Entries) (key : List ℕ) (old new : Option (List ℕ)) → HaveValues store → IsOptionalValue new → Holds (swap store key old new)
swap_holds store key old new all own =
    elim (cases_Bool (option_eq bytes_eq (value_of store key) old)) [
      | inl same ↦ rw same (choice_holds store key new all own, tt)
      | inr other ↦ rw other (all, refusal_holds (value_of store key))
    ]

apply_holds : (store : Entries) (c : Command) → HaveValues store → IsValidCommand c → Holds (apply store c)
unfolding apply
apply_holds store (Put key value) all valid = (with_holds store key value all valid.1, tt)
apply_holds store (Get key) all valid = (all, read_holds store key all)
apply_holds store (Del key) all valid = (filter_holds _ store all, removal_holds (value_of store key))
apply_holds store (Cas key old new) all valid = swap_holds store key old new all valid.2

found_holds : (store : Entries) (bytes : List ℕ) (c : Option Command) → command_of bytes ≡ c → HaveValues store → Holds (apply_found store c)
found_holds store bytes None is all = (all, tt)
found_holds store bytes (Some c) is all = apply_holds store c all (spells_from_reading bytes c is).valid

bytes_hold : (store : Entries) (bytes : List ℕ) → HaveValues store → Holds (apply_bytes store bytes)
unfolding apply_bytes
bytes_hold store bytes all = found_holds store bytes (command_of bytes) refl all

-- ---- commands in turn

list_holds : (store : Entries) (list : List (List ℕ)) → HaveValues store → HaveValues (store_from store list)
unfolding store_from
list_holds store [] all = all
list_holds store (bytes ∷ list) all = list_holds (apply_bytes store bytes).0 list (bytes_hold store bytes all).0

pub answer_is_valid : (list : List (List ℕ)) (bytes : List ℕ) → IsValidAnswer (answer_after list bytes)
answer_is_valid list bytes = (bytes_hold (store_after list) bytes (list_holds empty list tt)).1
