-- An item is read back from its bytes.
use Rattle.std.proofs.Common.{◌≡◌, ℕ, ◌≤◌, List, [], ◌∷◌, ◌++◌, length, take, Option, Some, None, refl, ap, ◌∙◌, arith, length-append}
use Rattle.std.specs.Prelude.{Result, Ok, IsSome}
use Rattle.std.proofs.lemmas.Bool.{false≢true, le-leb}
use Rattle.std.proofs.Math.Seq.{take-append_seam}
use Rattle.byteorder.specs.Endian.{big_bytes}
use Rattle.byteorder.specs.Numbers.{big_number-reads_back, big_from-append}
use Rattle.nz_base.specs.declared.limits.TheConstants.{MAX_CLOCK, MAX_COMMAND}
use Rattle.nz_frame.specs.Grammar.{AreBytes}
use Rattle.nz_frame.specs.Refusal.{refusal, stated_size, end_of}
use Rattle.nz_frame.proofs.Readings.{read_of, only_frames}
use Rattle.nz_store.specs.declared.command.Command.{Command}
use Rattle.nz_store.specs.Reading.{command_of}
use Rattle.nz_lane.specs.declared.item.Item.{Item}
use Rattle.nz_lane.specs.declared.item.Item.TheVariants as items
use Rattle.nz_lane.specs.declared.item.ItemRefusal.{ItemRefusal}
use Rattle.nz_lane.specs.declared.item.Sort.{Sort}
use Rattle.nz_lane.specs.declared.item.Sort.TheVariants.{Frame, Clock, Alarm, Crash, Restart, Request}
use Rattle.nz_lane.specs.Items.{spelling, IsValidItem}
use Rattle.nz_lane.specs.Reading.{sort_of, wanted_by, wanted, item_by, item_of, item_at, clock_or, request_or, command_size}
use Rattle.nz_lane.proofs.Sizes.{frame_whole, request_whole, item_whole}

-- bytes that begin with all those of an item are read as it
read_first : (first : ℕ) (bytes rest : List ℕ) (s : Option Sort) (r : Result Item ItemRefusal) → sort_of first ≡ s
    → wanted_by s (first ∷ (bytes ++ rest)) ≡ length (first ∷ bytes) → item_by s (first ∷ bytes) ≡ r → item_at (first ∷ (bytes ++ rest)) ≡ r
unfolding wanted item_of
read_first first bytes rest s r sort size item =
    let all = first ∷ (bytes ++ rest) in
    let own = first ∷ bytes in
    let n : wanted all ≡ length own = ap (λ (t : Option Sort). wanted_by t all) sort ∙ size in
    let parted : take (wanted all) all ≡ own = ap (λ (k : ℕ). take k all) n ∙ take-append_seam own rest in
    item_whole all (omega (arith, n, length-append bytes rest)) ∙ ap item_of parted ∙ ap (λ (t : Option Sort). item_by t own) sort ∙ item

-- ---- frames

frame_first : (first : ℕ) (bytes : List ℕ) → stated_size (first ∷ bytes) ≤ 16777216 → first ≤ 1
frame_first first bytes high = omega (arith, high)

frame_sort : (first : ℕ) → first ≤ 1 → sort_of first ≡ Some Frame
frame_sort first low = rw (le-leb first 1 low) refl

-- what a frame says of its size
record FrameSized (bytes : List ℕ) : Type 0 where
  long : 10 ≤ length bytes
  low : 6 ≤ stated_size bytes
  high : stated_size bytes ≤ 16777216
  all : end_of bytes ≡ length bytes

frame_sized : (bytes : List ℕ) → AreBytes bytes → refusal bytes ≡ None → FrameSized bytes
frame_sized bytes fits none =
    let f = only_frames bytes fits none in
    let r = read_of bytes _ _ _ _ f in
    record {
      long = omega (arith, r.long);
      low = omega (arith, r.len_is);
      high = omega (arith, r.len_is, f.fits);
      all = omega (arith, r.len_is, r.long);
    }

read_frame : (bytes rest : List ℕ) → AreBytes bytes → refusal bytes ≡ None → item_at (bytes ++ rest) ≡ Ok (items.Frame bytes)
read_frame [] rest fits none = absurd (omega (arith, (frame_sized [] fits none).long))
read_frame (first ∷ bytes) rest fits none =
    let own = first ∷ bytes in
    let k = frame_sized own fits none in
    let same : stated_size (own ++ rest) ≡ stated_size own = big_from-append 4 own rest (omega (arith, k.long)) in
    let size = frame_whole (own ++ rest) (omega (arith, k.long, length-append own rest)) (omega (arith, same, k.low)) (omega (arith, same, k.high)) in
    read_first first bytes rest (Some Frame) (Ok (items.Frame own)) (frame_sort first (frame_first first bytes k.high))
    (omega (arith, size, same, k.all)) (rw none refl)

-- ---- requests

read_command : (command : Option Command) (bytes : List ℕ) → IsSome command → request_or command bytes ≡ Ok (items.Request bytes)
read_command None bytes some = absurd (false≢true some)
read_command (Some c) bytes some = refl

read_request : (command rest : List ℕ) → length command ≤ MAX_COMMAND → IsSome (command_of command)
    → item_at (spelling (items.Request command) ++ rest) ≡ Ok (items.Request command)
read_request command rest short is =
    let n = length command in
    let all = spelling (items.Request command) ++ rest in
    let size : command_size all ≡ n = big_number-reads_back 2 n (command ++ rest) (omega (arith, short)) in
    let own = request_whole all (omega arith) (omega (arith, size, short)) in
    read_first 6 (big_bytes 2 n ++ command) rest (Some Request) (Ok (items.Request command)) refl (omega (arith, own, size)) (read_command (command_of command) command is)

-- ---- any item

-- The spelling of an item is read as that item, whatever follows.
pub written : (item : Item) (rest : List ℕ) → IsValidItem item → item_at (spelling item ++ rest) ≡ Ok item
written (items.Frame bytes) rest valid = read_frame bytes rest valid.0 valid.1
written (items.Clock reading) rest valid =
    read_first 2 (big_bytes 8 reading) rest (Some Clock) (Ok (items.Clock reading)) refl refl
    (ap clock_or (big_number-reads_back 8 reading [] (omega (arith, valid))) ∙ rw (le-leb reading MAX_CLOCK valid) refl)
written items.Alarm rest valid = read_first 3 [] rest (Some Alarm) (Ok items.Alarm) refl refl refl
written items.Crash rest valid = read_first 4 [] rest (Some Crash) (Ok items.Crash) refl refl refl
written (items.Restart nonce) rest valid =
    read_first 5 (big_bytes 8 nonce) rest (Some Restart) (Ok (items.Restart nonce)) refl refl
    (ap (λ (n : ℕ). Ok (items.Restart n)) (big_number-reads_back 8 nonce [] (omega (arith, valid))))
written (items.Request command) rest valid = read_request command rest valid.0 valid.1
