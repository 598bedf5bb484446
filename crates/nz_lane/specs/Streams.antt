-- Streams of items.
use Rattle.std.specs.Prelude.{◌≡◌, ℕ, ◌+◌, ◌-◌, ◌^◌, List, [], ◌++◌, flat_map, min, Option, Some, None, Ok}
use Rattle.std.specs.List.{AllByRecursion}
use Rattle.std.specs.Option.{option_map}
use Rattle.nz_lane.specs.declared.item.Item.{Item}
use Rattle.nz_lane.specs.Items.{spelling, IsValidItem}
use Rattle.nz_lane.specs.Reading.{item_at}

-- No item is at the beginning of these bytes.
abbrev pub BeginsNoItem : List ℕ → Type 0
BeginsNoItem bytes = (item : Item) → ¬ (item_at bytes ≡ Ok item)

-- The stream is these items, and then bytes that begin none: the stream is good exactly if these are no bytes, and else
-- it is bad first where they begin.
pub record IsStream (stream : List ℕ) (items : List Item) (rest : List ℕ) : Type 0 where
  pub spelled : stream ≡ flat_map spelling items ++ rest
  pub valid : AllByRecursion IsValidItem items
  pub ended : BeginsNoItem rest

-- ---- reading a stream in pieces

-- What a reader has not given yet: the bytes that it holds, and how many bytes it has given, as items.
pub record Held : Type 0 where
  pub bytes : List ℕ
  pub place : ℕ

-- The bytes that are still to be given, where the source exposes its own: those held, and those left in the source.
abbrev pub ahead : Held → Option (List ℕ) → Option (List ℕ)
ahead held left = option_map (λ rest. held.bytes ++ rest) left

-- The bytes of an item that was given, none where none was.
abbrev pub given : Option Item → List ℕ
given None = []
given (Some item) = spelling item

-- A place after this many bytes more. It stops at 2^64 - 1.
abbrev pub place_after : ℕ → ℕ → ℕ
place_after place count = min (place + count) (2 ^ 64 - 1)
