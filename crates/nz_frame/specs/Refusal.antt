-- Which refusal bytes get: the tests in their order, and the first that fails.
use Rattle.std.specs.Prelude.{ℕ, ◌+◌, ◌^◌, ◌-◌, min, Bool, ◌==◌, nat_le, if◌then◌else◌, List, [], ◌∷◌, length, drop, slice_index, Option, Some, None}
use Rattle.byteorder.specs.Endian.{big_number}
use Rattle.nz_frame.specs.Address.{is_kind, is_address}
use Rattle.nz_frame.specs.declared.refusal.FrameRefusal.{FrameRefusal}
use Rattle.nz_frame.specs.declared.refusal.FrameRefusal.TheVariants.{Short, TooLong, Trailing, BadVersion, BadKind, BadActor}

-- The length that the first four bytes state, of what follows them.
abbrev pub stated_size : List ℕ → ℕ
stated_size bytes = big_number 4 bytes

-- Where the frame ends, by the length that it states.
abbrev pub end_of : List ℕ → ℕ
end_of bytes = 4 + stated_size bytes

-- The addresses of the sender and the receiver.
abbrev pub sender : List ℕ → ℕ
sender bytes = big_number 2 (drop 6 bytes)

-- The receiver's address in a frame.
abbrev pub receiver : List ℕ → ℕ
receiver bytes = big_number 2 (drop 8 bytes)

-- A test and the refusal of the bytes that fail it.
pub record Test : Type 0 where
  pub holds : Bool
  pub refusal : FrameRefusal

-- A test with its outcome, and the refusal where it fails.
abbrev pub test : Bool → FrameRefusal → Test
test holds refusal = record { holds = holds; refusal = refusal }

-- The refusal of the first test that fails, if one does.
abbrev pub first_failed : List Test → Option FrameRefusal
first_failed [] = None
first_failed (t ∷ ts) = if t.holds then first_failed ts else Some t.refusal

-- The tests in their order. A place is a number of 32 bits: the bytes after a length below 6 may be more than it
-- counts.
abbrev pub tests : List ℕ → List Test
tests bytes =
    test (nat_le 4 (length bytes)) (Short (length bytes))
    ∷ test (nat_le (stated_size bytes) 16777216) (TooLong 0)
    ∷ test (nat_le 6 (stated_size bytes)) (Short (min (length bytes) (2 ^ 32 - 1)))
    ∷ test (nat_le (end_of bytes) (length bytes)) (Short (length bytes))
    ∷ test (nat_le (length bytes) (end_of bytes)) (Trailing (end_of bytes))
    ∷ test (slice_index bytes 4 == 1) (BadVersion 4)
    ∷ test (is_kind (slice_index bytes 5)) (BadKind 5)
    ∷ test (is_address (sender bytes)) (BadActor 6)
    ∷ test (is_address (receiver bytes)) (BadActor 8)
    ∷ []

-- The refusal of the bytes, if any.
unfoldable pub refusal : List ℕ → Option FrameRefusal
refusal bytes = first_failed (tests bytes)
