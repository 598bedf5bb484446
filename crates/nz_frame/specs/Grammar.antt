-- What a frame is.
use Rattle.std.specs.Prelude.{◌≡◌, ℕ, ◌+◌, ◌<◌, ◌≤◌, List, ◌∷◌, ◌++◌, length, slice_index}
use Rattle.byteorder.specs.Endian.{big_bytes}
use Rattle.nz_frame.specs.Address.{IsKind, IsAddress}

-- The length of what follows, the version 1, the kind, the sender, the receiver, and the body. Numbers
-- are big-endian.
unfoldable pub frame : ℕ → ℕ → ℕ → List ℕ → List ℕ
frame kind from to body = big_bytes 4 (6 + length body) ++ 1 ∷ kind ∷ (big_bytes 2 from ++ big_bytes 2 to ++ body)

-- The bytes are the frame of these parts, and each part is in its range.
pub record IsFrame (bytes : List ℕ) (kind from to : ℕ) (body : List ℕ) : Type 0 where
  pub known : IsKind kind
  pub sender : IsAddress from
  pub receiver : IsAddress to
  pub fits : length body ≤ 16777210
  pub spelled : bytes ≡ frame kind from to body

-- Two readings have the same parts.
pub record SameParts (kind from to : ℕ) (body : List ℕ) (kind' from' to' : ℕ) (body' : List ℕ) : Type 0 where
  pub same_kind : kind ≡ kind'
  pub same_sender : from ≡ from'
  pub same_receiver : to ≡ to'
  pub same_body : body ≡ body'

-- Each number of the list is a byte.
abbrev pub AreBytes : List ℕ → Type 0
AreBytes bytes = (i : ℕ) → slice_index bytes i < 256
