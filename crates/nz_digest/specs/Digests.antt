-- The digest of a list of entries: the exclusive or of one SHA-1 for each entry's key.
use Rattle.std.specs.Prelude.{◌≡◌, ℕ, List, [], ◌∷◌, ◌++◌, length, map, replicate, bit_xor, IsPermutation}
use Rattle.std.specs.List.{zip}
use Rattle.std.specs.Int.{w32, w64, to_be_bytes}
use Rattle.sha1.specs.Sha1.{sha1}

-- The key of an entry: its deadline, its client and the number of the client's request.
pub record EntryKey : Type 0 where
  pub deadline : ℕ
  pub client : ℕ
  pub num : ℕ

-- A key's 16 bytes: the deadline as 8, the client as 4 and the number as 4, high bytes first.
unfoldable pub key_bytes : ℕ → ℕ → ℕ → List ℕ
key_bytes deadline client num = to_be_bytes w64 deadline ++ to_be_bytes w32 client ++ to_be_bytes w32 num

-- The digest of one key.
abbrev pub digest_of_key : ℕ → ℕ → ℕ → List ℕ
digest_of_key deadline client num = sha1 (key_bytes deadline client num)

-- The exclusive or of two lists of bytes, place by place.
abbrev pub xor_bytes : List ℕ → List ℕ → List ℕ
xor_bytes xs ys = map (λ pair. bit_xor pair.0 pair.1) (zip xs ys)

-- The digest of no entries.
abbrev pub digest_of_none : List ℕ
digest_of_none = replicate 20 0

-- The digest of a whole list of keys.
abbrev pub digest : List EntryKey → List ℕ
digest [] = digest_of_none
digest (key ∷ keys) = xor_bytes (digest_of_key key.deadline key.client key.num) (digest keys)

-- Each digest has 20 bytes.
abbrev pub HasTwentyBytes : Type 0
HasTwentyBytes = (keys : List EntryKey) → length (digest keys) ≡ 20

-- Folding a digest in twice gives the old value back.
abbrev pub TwiceIsNothing : Type 0
TwiceIsNothing = (old folded : List ℕ) → length old ≡ length folded → xor_bytes (xor_bytes old folded) folded ≡ old

-- One more key is folded in.
abbrev pub FoldsOneMore : Type 0
FoldsOneMore = (keys : List EntryKey) (key : EntryKey) → digest (keys ++ key ∷ []) ≡ xor_bytes (digest keys) (digest_of_key key.deadline key.client key.num)

-- The order of the keys does not matter.
abbrev pub AnyOrder : Type 0
AnyOrder = (keys rearranged : List EntryKey) → IsPermutation keys rearranged → digest rearranged ≡ digest keys
