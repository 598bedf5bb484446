-- Bytes that are moved out of a source or into a sink.
use Rattle.std.specs.Prelude.{ℕ, ◌≡◌, ◌+◌, List, ◌++◌, length, take, Option}
use Rattle.nz_base.specs.declared.limits.TheConstants.{MAX_TEXT}
use Rattle.nz_check.specs.declared.limit.TheConstants.{MAX_PRINTED}
use Rattle.nz_edge.specs.Exposed.{Loses, Gains}

-- What is looked at of the bytes that a source has, where they are to be a scenario: one more than it may have.
abbrev pub input : List ℕ → List ℕ
input bytes = take (MAX_TEXT + 1) bytes

-- The same where they are to be a text.
abbrev pub text_input : List ℕ → List ℕ
text_input bytes = take (MAX_PRINTED + 1) bytes

-- What the source gave was put after the bytes that were there.
pub record Moved (before after : Option (List ℕ)) (old new : List ℕ) (count : ℕ) : Type 0 where
  pub bytes : List ℕ
  pub many : length bytes ≡ count
  pub lost : Loses before after bytes
  pub kept : new ≡ old ++ bytes

-- The sink took a prefix of the bytes.
pub record TakesPrefix (before after : Option (List ℕ)) (bytes : List ℕ) : Type 0 where
  pub count : ℕ
  pub taken : Gains before after (take count bytes)
