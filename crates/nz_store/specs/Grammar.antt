-- The grammar of commands: which bytes spell which command.
use Rattle.std.specs.Prelude.{◌≡◌, ◌≢◌, ℕ, ◌≤◌, ◌/◌, ◌%◌, Bool, ◌&&◌, nat_le, List, [], ◌∷◌, ◌++◌, length, Option, Some, None}
use Rattle.std.specs.List.{AllPass}
use Rattle.nz_store.specs.declared.command.Command.{Command}
use Rattle.nz_store.specs.declared.command.Command.TheVariants.{Put, Get, Del, Cas}

-- A printed byte other than the space.
abbrev pub is_graphic : ℕ → Bool
is_graphic byte = nat_le 0x21 byte && nat_le byte 0x7e

-- A key has 1 to 32 such bytes.
pub record IsKey (key : List ℕ) : Type 0 where
  pub some : 1 ≤ length key
  pub short : length key ≤ 32
  pub graphic : AllPass is_graphic key

-- The value `-`, which stands for no value in a scenario.
abbrev pub dash : List ℕ
dash = 0x2d ∷ []

-- A value has 1 to 256 such bytes, and is not the single byte `-`.
pub record IsValue (value : List ℕ) : Type 0 where
  pub some : 1 ≤ length value
  pub short : length value ≤ 256
  pub graphic : AllPass is_graphic value
  pub other : value ≢ dash

-- No value, or a value.
abbrev pub IsOptionalValue : Option (List ℕ) → Type 0
IsOptionalValue None = Unit {0}
IsOptionalValue (Some value) = IsValue value

-- The commands that have a spelling.
abbrev pub IsValidCommand : Command → Type 0
IsValidCommand (Put key value) = IsKey key × IsValue value
IsValidCommand (Get key) = IsKey key
IsValidCommand (Del key) = IsKey key
IsValidCommand (Cas key old new) = IsKey key × IsOptionalValue old × IsOptionalValue new

-- A key is spelled by its length in one byte, and its bytes.
abbrev pub key_spelling : List ℕ → List ℕ
key_spelling key = length key ∷ key

-- A value is spelled by its length in two bytes, the high one first, and its bytes.
abbrev pub value_spelling : List ℕ → List ℕ
value_spelling value = length value / 256 ∷ length value % 256 ∷ value

-- No value is spelled by 0, and a value by 1 and its spelling.
abbrev pub choice_spelling : Option (List ℕ) → List ℕ
choice_spelling None = 0 ∷ []
choice_spelling (Some value) = 1 ∷ value_spelling value

-- A command is spelled by its kind, its key, and its values.
abbrev pub spelling : Command → List ℕ
spelling (Put key value) = 1 ∷ (key_spelling key ++ value_spelling value)
spelling (Get key) = 2 ∷ key_spelling key
spelling (Del key) = 3 ∷ key_spelling key
spelling (Cas key old new) = 4 ∷ (key_spelling key ++ (choice_spelling old ++ choice_spelling new))

-- The bytes are those of the command, and nothing follows.
pub record Spells (command : Command) (bytes : List ℕ) : Type 0 where
  pub valid : IsValidCommand command
  pub whole : bytes ≡ spelling command
