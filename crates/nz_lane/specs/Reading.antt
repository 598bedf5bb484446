-- Which item bytes begin with, or why they begin none.
use Rattle.std.specs.Prelude.{ℕ, ◌+◌, ◌==◌, nat_lt, nat_le, if◌then◌else◌, List, [], ◌∷◌, length, take, drop, Option, Some, None, Result, Ok, Err}
use Rattle.std.specs.Int.{is_in_range}
use Rattle.byteorder.specs.Endian.{big_number}
use Rattle.nz_base.specs.declared.limits.TheConstants.{MAX_CLOCK, MAX_COMMAND}
use Rattle.nz_frame.specs.declared.refusal.FrameRefusal.{FrameRefusal}
use Rattle.nz_frame.specs.Refusal.{refusal, stated_size, end_of}
use Rattle.nz_store.specs.declared.command.Command.{Command}
use Rattle.nz_store.specs.Reading.{command_of}
use Rattle.nz_lane.specs.declared.item.Item.{Item}
use Rattle.nz_lane.specs.declared.item.Item.TheVariants as items
use Rattle.nz_lane.specs.declared.item.ItemRefusal.{ItemRefusal}
use Rattle.nz_lane.specs.declared.item.ItemRefusal.TheVariants as refusals
use Rattle.nz_lane.specs.declared.item.Sort.{Sort}
use Rattle.nz_lane.specs.declared.item.Sort.TheVariants.{Frame, Clock, Alarm, Crash, Restart, Request}
use Rattle.nz_lane.specs.declared.item.TheConstants.{FRAME_BYTE, CLOCK_BYTE, ALARM_BYTE, CRASH_BYTE, RESTART_BYTE, REQUEST_BYTE}

-- The sort of an item, by its first byte.
abbrev pub sort_of : ℕ → Option Sort
sort_of first =
    if nat_le first FRAME_BYTE then Some Frame
    else (if first == CLOCK_BYTE then Some Clock
    else (if first == ALARM_BYTE then Some Alarm
    else (if first == CRASH_BYTE then Some Crash
    else (if first == RESTART_BYTE then Some Restart
    else (if first == REQUEST_BYTE then Some Request else None)))))

-- ---- how many bytes an item has

-- A frame's length says it, if the length is in its range. Else the length is looked at alone.
abbrev pub frame_wanted : List ℕ → ℕ
frame_wanted bytes = if nat_lt (length bytes) 4 then 4 else (if is_in_range 6 16777216 (stated_size bytes) then end_of bytes else 4)

-- The length of a request, after its first byte.
abbrev pub command_size : List ℕ → ℕ
command_size bytes = big_number 2 (drop 1 bytes)

-- A request's length says it, if it is in its range. Else the first byte and the length are looked at alone.
abbrev pub request_wanted : List ℕ → ℕ
request_wanted bytes = if nat_lt (length bytes) 3 then 3 else (if nat_le (command_size bytes) MAX_COMMAND then 3 + command_size bytes else 3)

-- How many bytes an item of the sort has.
abbrev pub wanted_by : Option Sort → List ℕ → ℕ
wanted_by None bytes = 1
wanted_by (Some Frame) bytes = frame_wanted bytes
wanted_by (Some Clock) bytes = 9
wanted_by (Some Alarm) bytes = 1
wanted_by (Some Crash) bytes = 1
wanted_by (Some Restart) bytes = 9
wanted_by (Some Request) bytes = request_wanted bytes

-- How many bytes there have to be before the item at the beginning is settled, as far as the bytes say it.
unfoldable pub wanted : List ℕ → ℕ
wanted [] = 1
wanted (first ∷ bytes) = wanted_by (sort_of first) (first ∷ bytes)

-- ---- the item of its bytes

-- The frame, if it is not refused.
abbrev pub frame_or : Option FrameRefusal → List ℕ → Result Item ItemRefusal
frame_or None own = Ok (items.Frame own)
frame_or (Some r) own = Err (refusals.Frame r)

-- The clock reading, if it is in its range.
abbrev pub clock_or : ℕ → Result Item ItemRefusal
clock_or reading = if nat_le reading MAX_CLOCK then Ok (items.Clock reading) else Err refusals.Clock

-- The request, if its bytes are a command.
abbrev pub request_or : Option Command → List ℕ → Result Item ItemRefusal
request_or None command = Err refusals.Command
request_or (Some c) command = Ok (items.Request command)

-- The item of the sort that the bytes are.
abbrev pub item_by : Option Sort → List ℕ → Result Item ItemRefusal
item_by None own = Err refusals.Kind
item_by (Some Frame) own = frame_or (refusal own) own
item_by (Some Clock) own = clock_or (big_number 8 (drop 1 own))
item_by (Some Alarm) own = Ok items.Alarm
item_by (Some Crash) own = Ok items.Crash
item_by (Some Restart) own = Ok (items.Restart (big_number 8 (drop 1 own)))
item_by (Some Request) own = request_or (command_of (drop 3 own)) (drop 3 own)

-- The item that the bytes are, all of them.
unfoldable pub item_of : List ℕ → Result Item ItemRefusal
item_of [] = Err refusals.Cut
item_of (first ∷ bytes) = item_by (sort_of first) (first ∷ bytes)

-- The item at the beginning of the bytes, or why there is none.
unfoldable pub item_at : List ℕ → Result Item ItemRefusal
item_at bytes = if nat_lt (length bytes) (wanted bytes) then Err refusals.Cut else item_of (take (wanted bytes) bytes)
