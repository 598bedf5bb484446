-- Which kinds there are, and which addresses belong to somebody.
use Rattle.std.specs.Prelude.{ℕ, Bool, ◌||◌, IsTrue}
use Rattle.std.specs.Int.{is_in_range}
use Rattle.nz_frame.specs.declared.address.TheConstants.{KIND_COUNT}

-- The kinds of messages, 1 to the last.
abbrev pub is_kind : ℕ → Bool
is_kind kind = is_in_range 1 KIND_COUNT kind

-- The number is a kind of message.
abbrev pub IsKind : ℕ → Type 0
IsKind kind = IsTrue (is_kind kind)

-- Replicas have 0 to 8, proxies 16 to 23, clients 64 to 127. No other address belongs to anybody.
abbrev pub is_address : ℕ → Bool
is_address a = is_in_range 0 8 a || (is_in_range 16 23 a || is_in_range 64 127 a)

-- The number is somebody's address.
abbrev pub IsAddress : ℕ → Type 0
IsAddress a = IsTrue (is_address a)
