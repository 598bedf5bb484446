-- Which command some bytes spell, field by field from the left.
use Rattle.std.specs.Prelude.{ℕ, zero, suc, ◌+◌, ◌*◌, Bool, true, ◌&&◌, not, nat_lt, nat_le, ◌==◌, if◌then◌else◌}
use Rattle.std.specs.Prelude.{List, [], ◌∷◌, length, take, drop, Option, Some, None}
use Rattle.std.specs.List.{list_all}
use Rattle.std.specs.Option.{option_map}
use Rattle.std.specs.Str.{bytes_eq}
use Rattle.nz_store.specs.declared.command.Command.{Command}
use Rattle.nz_store.specs.declared.command.CommandRef.{CommandRef}
use Rattle.nz_store.specs.declared.command.CommandRef.TheVariants as lent
use Rattle.nz_store.specs.declared.command.Command.TheVariants.{Put, Get, Del, Cas}
use Rattle.nz_store.specs.Grammar.{is_graphic, dash}

-- The first answer, handed on to the next question.
infixl 10 ◌>>=◌
abbrev pub ◌>>=◌ : {A B : Type 0} → Option A → (A → Option B) → Option B
(Some x) >>= f = f x
None >>= f = None

-- The test of 1 to `most` bytes, each of which may be printed.
abbrev pub is_text : ℕ → List ℕ → Bool
is_text most bytes = (nat_le 1 (length bytes) && nat_le (length bytes) most) && list_all is_graphic bytes

-- The test of a key.
abbrev pub is_key_text : List ℕ → Bool
is_key_text bytes = is_text 32 bytes

-- The test of a value.
abbrev pub is_value_text : List ℕ → Bool
is_value_text bytes = is_text 256 bytes && not (bytes_eq bytes dash)

-- The test of no value or a value.
abbrev pub is_choice_text : Option (List ℕ) → Bool
is_choice_text None = true
is_choice_text (Some value) = is_value_text value

-- The test of a command.
abbrev pub has_spelling : Command → Bool
has_spelling (Put key value) = is_key_text key && is_value_text value
has_spelling (Get key) = is_key_text key
has_spelling (Del key) = is_key_text key
has_spelling (Cas key old new) = (is_key_text key && is_choice_text old) && is_choice_text new

-- The first n bytes, where there are that many and they pass the test, and the bytes after them.
abbrev pub text_at : (List ℕ → Bool) → ℕ → List ℕ → Option (List ℕ × List ℕ)
text_at test n bytes = if nat_lt (length bytes) n then None else (if test (take n bytes) then Some (take n bytes, drop n bytes) else None)

-- A key, and the bytes after it.
unfoldable pub key_at : List ℕ → Option (List ℕ × List ℕ)
key_at [] = None
key_at (n ∷ bytes) = text_at is_key_text n bytes

-- A value, and the bytes after it.
unfoldable pub value_at : List ℕ → Option (List ℕ × List ℕ)
value_at [] = None
value_at (high ∷ []) = None
value_at (high ∷ low ∷ bytes) = if nat_lt low 256 then text_at is_value_text (256 * high + low) bytes else None

-- A value or none, and the bytes after it.
unfoldable pub choice_at : List ℕ → Option (Option (List ℕ) × List ℕ)
choice_at [] = None
choice_at (zero ∷ bytes) = Some (None, bytes)
choice_at (suc zero ∷ bytes) = value_at bytes >>= λ v. Some (Some v.0, v.1)
choice_at (suc (suc n) ∷ bytes) = None

-- The values of a command of this kind with this key, and the bytes after it.
unfoldable pub command_body_at : ℕ → List ℕ → List ℕ → Option (Command × List ℕ)
command_body_at kind key bytes =
    if kind == 1 then (value_at bytes >>= λ v. Some (Put key v.0, v.1))
    else (if kind == 2 then Some (Get key, bytes)
    else (if kind == 3 then Some (Del key, bytes)
    else (if kind == 4 then (choice_at bytes >>= λ old. choice_at old.1 >>= λ new. Some (Cas key old.0 new.0, new.1)) else None)))

-- A command, and the bytes after it.
unfoldable pub command_at : List ℕ → Option (Command × List ℕ)
command_at [] = None
command_at (kind ∷ bytes) = key_at bytes >>= λ key. command_body_at kind key.0 key.1

-- What was found, where nothing follows it.
abbrev pub all_of : {A : Type 0} → Option (A × List ℕ) → Option A
all_of None = None
all_of (Some found) = if length found.1 == 0 then Some found.0 else None

-- The command that the bytes spell.
unfoldable pub command_of : List ℕ → Option Command
command_of bytes = all_of (command_at bytes)

-- A command whose key and values are lent, with its own.
abbrev pub command_owned : CommandRef → Command
command_owned (lent.Put key value) = Put key.now value.now
command_owned (lent.Get key) = Get key.now
command_owned (lent.Del key) = Del key.now
command_owned (lent.Cas key old new) = Cas key.now (option_map (λ v. v.now) old) (option_map (λ v. v.now) new)
