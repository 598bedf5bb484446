-- What happens to a node, as bytes.
use Rattle.std.specs.Prelude.{◌≡◌, ℕ, ◌^◌, ◌<◌, ◌≤◌, List, [], ◌∷◌, ◌++◌, length, None, IsSome}
use Rattle.byteorder.specs.Endian.{big_bytes}
use Rattle.nz_base.specs.declared.limits.TheConstants.{MAX_CLOCK, MAX_COMMAND}
use Rattle.nz_frame.specs.Grammar.{AreBytes}
use Rattle.nz_frame.specs.Refusal.{refusal}
use Rattle.nz_store.specs.Reading.{command_of}
use Rattle.nz_lane.specs.declared.item.Item.{Item}
use Rattle.nz_lane.specs.declared.item.Item.TheVariants.{Frame, Clock, Alarm, Crash, Restart, Request}
use Rattle.nz_lane.specs.declared.item.TheConstants.{CLOCK_BYTE, ALARM_BYTE, CRASH_BYTE, RESTART_BYTE, REQUEST_BYTE}

-- The bytes of an item: a frame as it is, and any other after a first byte that no frame has. Numbers are big-endian.
abbrev pub spelling : Item → List ℕ
spelling (Frame bytes) = bytes
spelling (Clock reading) = CLOCK_BYTE ∷ big_bytes 8 reading
spelling Alarm = ALARM_BYTE ∷ []
spelling Crash = CRASH_BYTE ∷ []
spelling (Restart nonce) = RESTART_BYTE ∷ big_bytes 8 nonce
spelling (Request command) = REQUEST_BYTE ∷ (big_bytes 2 (length command) ++ command)

-- Frames are of the grammar, numbers are in their ranges, and a request is a command.
abbrev pub IsValidItem : Item → Type 0
IsValidItem (Frame bytes) = AreBytes bytes × (refusal bytes ≡ None)
IsValidItem (Clock reading) = reading ≤ MAX_CLOCK
IsValidItem Alarm = Unit {0}
IsValidItem Crash = Unit {0}
IsValidItem (Restart nonce) = nonce < 2 ^ 64
IsValidItem (Request command) = (length command ≤ MAX_COMMAND) × IsSome (command_of command)
