-- How many bytes an item has, and that later bytes do not change it.
use Rattle.std.proofs.Common.{◌≡◌, ℕ, ◌+◌, ◌≤◌, ◌<◌, ◌⊎◌, List, [], ◌∷◌, ◌++◌, length, take, drop, Option, Some, None, refl, sym, ap, ◌∙◌, arith, inl, inr, length-append, length-drop}
use Rattle.std.proofs.lemmas.Bool.{cases_lt, le-leb, lt-leb, lt-ltb, le-ltb}
use Rattle.std.proofs.lemmas.List.{take-append-drop, take-append-le, drop-append-le, length-take-le}
use Rattle.byteorder.specs.Endian.{big_number}
use Rattle.byteorder.specs.Numbers.{big_from-append}
use Rattle.nz_base.specs.declared.limits.TheConstants.{MAX_COMMAND}
use Rattle.nz_frame.specs.Refusal.{stated_size, end_of}
use Rattle.nz_lane.specs.declared.item.Sort.{Sort}
use Rattle.nz_lane.specs.declared.item.Sort.TheVariants.{Frame, Clock, Alarm, Crash, Restart, Request}
use Rattle.nz_lane.specs.Reading.{sort_of, frame_wanted, command_size, request_wanted, wanted_by, wanted, item_of, item_at}

-- ---- frames

pub frame_short : (bytes : List ℕ) → length bytes < 4 → frame_wanted bytes ≡ 4
frame_short bytes few = rw (lt-ltb (length bytes) 4 few) refl

-- the three ways to the size of a frame
pub frame_whole : (bytes : List ℕ) → 4 ≤ length bytes → 6 ≤ stated_size bytes → stated_size bytes ≤ 16777216 → frame_wanted bytes ≡ end_of bytes
frame_whole bytes many low high = rw (le-ltb (length bytes) 4 many, le-leb 6 (stated_size bytes) low, le-leb (stated_size bytes) 16777216 high) refl

frame_low : (bytes : List ℕ) → 4 ≤ length bytes → stated_size bytes < 6 → frame_wanted bytes ≡ 4
frame_low bytes many low = rw (le-ltb (length bytes) 4 many, lt-leb 6 (stated_size bytes) low) refl

frame_high : (bytes : List ℕ) → 4 ≤ length bytes → 6 ≤ stated_size bytes → 16777216 < stated_size bytes → frame_wanted bytes ≡ 4
frame_high bytes many low high = rw (le-ltb (length bytes) 4 many, le-leb 6 (stated_size bytes) low, lt-leb (stated_size bytes) 16777216 high) refl

-- what is known of the size of a frame
pub record FrameSize (bytes : List ℕ) : Type 0 where
  pub least : 4 ≤ frame_wanted bytes
  pub most : frame_wanted bytes ≤ 16777220

pub frame_size : (bytes : List ℕ) → FrameSize bytes
frame_size bytes =
    elim (cases_lt (length bytes) 4) [
      | inl few ↦ record { least = omega (arith, frame_short bytes few); most = omega (arith, frame_short bytes few) }
      | inr many ↦
          elim (cases_lt (stated_size bytes) 6) [
            | inl low ↦ record { least = omega (arith, frame_low bytes many low); most = omega (arith, frame_low bytes many low) }
            | inr high ↦
                elim (cases_lt 16777216 (stated_size bytes)) [
                  | inl over ↦ record { least = omega (arith, frame_high bytes many high over); most = omega (arith, frame_high bytes many high over) }
                  | inr in_range ↦ record {
                    least = omega (arith, frame_whole bytes many high in_range);
                    most = omega (arith, frame_whole bytes many high in_range);
                  }
                ]
          ]
    ]

-- with the length there, later bytes change nothing
frame_shown : (own rest : List ℕ) → 4 ≤ length own → frame_wanted (own ++ rest) ≡ frame_wanted own
frame_shown own rest many =
    let long : 4 ≤ length (own ++ rest) = omega (arith, many, length-append own rest) in
    let same : stated_size (own ++ rest) ≡ stated_size own = big_from-append 4 own rest many in
    rw (le-ltb (length (own ++ rest)) 4 long, le-ltb (length own) 4 many, same) refl

frame_same : (own rest : List ℕ) → (frame_wanted own ≤ length own) ⊎ (frame_wanted (own ++ rest) ≤ length own)
    → frame_wanted (own ++ rest) ≡ frame_wanted own
frame_same own rest (inl h) = frame_shown own rest (omega (arith, h, (frame_size own).least))
frame_same own rest (inr h) = frame_shown own rest (omega (arith, h, (frame_size (own ++ rest)).least))

-- ---- requests

pub request_short : (bytes : List ℕ) → length bytes < 3 → request_wanted bytes ≡ 3
request_short bytes few = rw (lt-ltb (length bytes) 3 few) refl

pub request_whole : (bytes : List ℕ) → 3 ≤ length bytes → command_size bytes ≤ MAX_COMMAND → request_wanted bytes ≡ 3 + command_size bytes
request_whole bytes many high = rw (le-ltb (length bytes) 3 many, le-leb (command_size bytes) MAX_COMMAND high) refl

pub request_high : (bytes : List ℕ) → 3 ≤ length bytes → MAX_COMMAND < command_size bytes → request_wanted bytes ≡ 3
request_high bytes many high = rw (le-ltb (length bytes) 3 many, lt-leb (command_size bytes) MAX_COMMAND high) refl

pub record RequestSize (bytes : List ℕ) : Type 0 where
  pub least : 3 ≤ request_wanted bytes
  pub most : request_wanted bytes ≤ 16777220

pub request_size : (bytes : List ℕ) → RequestSize bytes
request_size bytes =
    elim (cases_lt (length bytes) 3) [
      | inl few ↦ record { least = omega (arith, request_short bytes few); most = omega (arith, request_short bytes few) }
      | inr many ↦
          elim (cases_lt MAX_COMMAND (command_size bytes)) [
            | inl over ↦ record { least = omega (arith, request_high bytes many over); most = omega (arith, request_high bytes many over) }
            | inr in_range ↦ record {
              least = omega (arith, request_whole bytes many in_range);
              most = omega (arith, request_whole bytes many in_range);
            }
          ]
    ]

command_shown : (own rest : List ℕ) → 3 ≤ length own → command_size (own ++ rest) ≡ command_size own
command_shown own rest many =
    ap (big_number 2) (drop-append-le 1 own rest (omega (arith, many)))
    ∙ big_from-append 2 (drop 1 own) rest (omega (arith, many, length-drop 1 own))

request_shown : (own rest : List ℕ) → 3 ≤ length own → request_wanted (own ++ rest) ≡ request_wanted own
request_shown own rest many =
    let long : 3 ≤ length (own ++ rest) = omega (arith, many, length-append own rest) in
    rw (le-ltb (length (own ++ rest)) 3 long, le-ltb (length own) 3 many, command_shown own rest many) refl

request_same : (own rest : List ℕ) → (request_wanted own ≤ length own) ⊎ (request_wanted (own ++ rest) ≤ length own)
    → request_wanted (own ++ rest) ≡ request_wanted own
request_same own rest (inl h) = request_shown own rest (omega (arith, h, (request_size own).least))
request_same own rest (inr h) = request_shown own rest (omega (arith, h, (request_size (own ++ rest)).least))

-- ---- any item

sort_same : (s : Option Sort) (own rest : List ℕ) → (wanted_by s own ≤ length own) ⊎ (wanted_by s (own ++ rest) ≤ length own)
    → wanted_by s (own ++ rest) ≡ wanted_by s own
sort_same None own rest h = refl
sort_same (Some Frame) own rest h = frame_same own rest h
sort_same (Some Clock) own rest h = refl
sort_same (Some Alarm) own rest h = refl
sort_same (Some Crash) own rest h = refl
sort_same (Some Restart) own rest h = refl
sort_same (Some Request) own rest h = request_same own rest h

pub record SortSize (s : Option Sort) (bytes : List ℕ) : Type 0 where
  pub least : 1 ≤ wanted_by s bytes
  pub most : wanted_by s bytes ≤ 16777220

sort_size : (s : Option Sort) (bytes : List ℕ) → SortSize s bytes
sort_size None bytes = record { least = omega arith; most = omega arith }
sort_size (Some Frame) bytes = record { least = omega (arith, (frame_size bytes).least); most = (frame_size bytes).most }
sort_size (Some Clock) bytes = record { least = omega arith; most = omega arith }
sort_size (Some Alarm) bytes = record { least = omega arith; most = omega arith }
sort_size (Some Crash) bytes = record { least = omega arith; most = omega arith }
sort_size (Some Restart) bytes = record { least = omega arith; most = omega arith }
sort_size (Some Request) bytes = record { least = omega (arith, (request_size bytes).least); most = (request_size bytes).most }

pub record Size (bytes : List ℕ) : Type 0 where
  pub least : 1 ≤ wanted bytes
  pub most : wanted bytes ≤ 16777220

pub size_known : (bytes : List ℕ) → Size bytes
unfolding wanted
size_known [] = record { least = omega arith; most = omega arith }
size_known (first ∷ bytes) = let s = sort_size (sort_of first) (first ∷ bytes) in record { least = s.least; most = s.most }

-- enough bytes have the same size as all
pub wanted_same : (own rest : List ℕ) → (wanted own ≤ length own) ⊎ (wanted (own ++ rest) ≤ length own) → wanted (own ++ rest) ≡ wanted own
unfolding wanted
wanted_same [] rest (inl h) = absurd (omega (arith, h))
wanted_same [] rest (inr h) = absurd (omega (arith, h, (size_known rest).least))
wanted_same (first ∷ bytes) rest h = sort_same (sort_of first) (first ∷ bytes) rest h

-- ---- the item at the beginning

-- the bytes of an item have its size
pub wanted_own : (bytes : List ℕ) → wanted bytes ≤ length bytes → wanted (take (wanted bytes) bytes) ≡ length (take (wanted bytes) bytes)
wanted_own bytes whole =
    let n = wanted bytes in
    let own = take n bytes in
    let long : length own ≡ n = length-take-le n bytes whole in
    let parts : own ++ drop n bytes ≡ bytes = take-append-drop n bytes in
    let all : wanted (own ++ drop n bytes) ≡ n = ap wanted parts in
    sym (wanted_same own (drop n bytes) (inr (omega (arith, long, all)))) ∙ all ∙ sym long

-- an item that is whole is that of its own bytes
pub item_whole : (bytes : List ℕ) → wanted bytes ≤ length bytes → item_at bytes ≡ item_of (take (wanted bytes) bytes)
unfolding item_at
item_whole bytes whole = rw (le-ltb (length bytes) (wanted bytes) whole) refl

-- later bytes do not change the item at the beginning
pub item_stays : (bytes more : List ℕ) → wanted bytes ≤ length bytes → item_at (bytes ++ more) ≡ item_at bytes
item_stays bytes more whole =
    let n = wanted bytes in
    let same : wanted (bytes ++ more) ≡ n = wanted_same bytes more (inl whole) in
    let first : take n (bytes ++ more) ≡ take n bytes = take-append-le n bytes more whole in
    item_whole (bytes ++ more) (omega (arith, same, whole, length-append bytes more))
    ∙ ap (λ (k : ℕ). item_of (take k (bytes ++ more))) same ∙ ap item_of first ∙ sym (item_whole bytes whole)
