-- A frame in two parts: its header, and what follows it.
use Rattle.std.specs.Prelude.{◌≡◌, ℕ, ◌+◌, min, Bool, IsTrue, List, ◌++◌, length, None}
use Rattle.nz_frame.specs.Grammar.{AreBytes}
use Rattle.nz_frame.specs.Refusal.{refusal}

-- Of so many bytes and so many after them, the former are the first ten of all, or all where there are fewer.
abbrev pub IsHeaderSize : ℕ → ℕ → Type 0
IsHeaderSize header body = header ≡ min 10 (header + body)

-- The header of bytes, and the body that follows it. Bytes that were checked are a frame.
pub record AreParts (checked : Bool) (header body : List ℕ) : Type 0 where
  pub first : IsHeaderSize (length header) (length body)
  pub bytes : AreBytes (header ++ body)
  pub passed : IsTrue checked → refusal (header ++ body) ≡ None
