-- What is read is an item, and the bytes are its own.
use Rattle.std.proofs.Common.{◌≡◌, ℕ, suc, ◌+◌, ◌^◌, ◌≤◌, ◌<◌, Bool, true, false, List, [], ◌∷◌, ◌++◌, length, take, drop, Option, Some, None, refl, sym, ap, subst, ◌∙◌, arith, inl, inr, length-drop}
use Rattle.std.specs.Prelude.{Ok, Err, IsSome, if◌then◌else◌, nat_le, ◌==◌}
use Rattle.std.specs.Int.{w64, from_be_bytes}
use Rattle.std.proofs.lemmas.Bool.{cases_lt, leb-true, eqb-true, lt-ltb}
use Rattle.std.proofs.lemmas.List.{take-append-drop, length-take-le, nil_from_length}
use Rattle.std.proofs.lemmas.Nat.{be_bytes_8}
use Rattle.byteorder.specs.Endian.{big_bytes, big_number}
use Rattle.nz_base.specs.declared.limits.TheConstants.{MAX_CLOCK, MAX_COMMAND}
use Rattle.nz_frame.specs.Grammar.{AreBytes}
use Rattle.nz_frame.specs.Refusal.{refusal}
use Rattle.nz_frame.specs.declared.refusal.FrameRefusal.{FrameRefusal}
use Rattle.nz_frame.proofs.Bytes.{AreBytes-take, two_bytes}
use Rattle.nz_store.specs.declared.command.Command.{Command}
use Rattle.nz_store.specs.Reading.{command_of, command_at}
use Rattle.nz_lane.specs.declared.item.Item.{Item}
use Rattle.nz_lane.specs.declared.item.Item.TheVariants as items
use Rattle.nz_lane.specs.declared.item.ItemRefusal.{ItemRefusal}
use Rattle.nz_lane.specs.declared.item.ItemRefusal.TheVariants.{Cut}
use Rattle.nz_lane.specs.declared.item.Sort.{Sort}
use Rattle.nz_lane.specs.declared.item.Sort.TheVariants.{Frame, Clock, Alarm, Crash, Restart, Request}
use Rattle.nz_lane.specs.Items.{spelling, IsValidItem}
use Rattle.nz_lane.specs.Reading.{sort_of, wanted_by, wanted, item_by, item_of, item_at, clock_or, request_or, frame_or, command_size}
use Rattle.nz_lane.proofs.Sizes.{request_short, request_high, request_whole, wanted_own, item_whole}

-- ---- the first byte of each sort

abbrev IsFirstOf : Sort → ℕ → Type 0
IsFirstOf Frame first = first ≤ 1
IsFirstOf Clock first = first ≡ 2
IsFirstOf Alarm first = first ≡ 3
IsFirstOf Crash first = first ≡ 4
IsFirstOf Restart first = first ≡ 5
IsFirstOf Request first = first ≡ 6

-- one of the tests of a first byte
tested : (b : Bool) (own s : Sort) (others : Option Sort) (first : ℕ) → (b ≡ true → IsFirstOf own first)
    → (others ≡ Some s → IsFirstOf s first) → (if b then Some own else others) ≡ Some s → IsFirstOf s first
tested true own s others first here later e = let same : own ≡ s = cc in subst (λ (t : Sort). IsFirstOf t first) same (here refl)
tested false own s others first here later e = later e

first_of : (first : ℕ) (s : Sort) → sort_of first ≡ Some s → IsFirstOf s first
first_of first s =
    tested (nat_le first 1) Frame s _ first (leb-true first 1)
    (tested (first == 2) Clock s _ first (eqb-true first 2)
    (tested (first == 3) Alarm s _ first (eqb-true first 3)
    (tested (first == 4) Crash s _ first (eqb-true first 4)
    (tested (first == 5) Restart s _ first (eqb-true first 5)
    (tested (first == 6) Request s None first (eqb-true first 6) (λ e. absurd cc))))))

-- ---- bytes of an item

-- the bytes are those of the item
pub record IsSpelled (item : Item) (own : List ℕ) : Type 0 where
  pub valid : IsValidItem item
  pub is : own ≡ spelling item

frame_read : (r : Option FrameRefusal) (own : List ℕ) (item : Item) → frame_or r own ≡ Ok item → (r ≡ None) × (items.Frame own ≡ item)
frame_read None own item e = (refl, cc)
frame_read (Some r) own item e = absurd cc

clock_test : (b : Bool) (n : ℕ) (item : Item) (r : ItemRefusal) → (if b then Ok (items.Clock n) else Err r) ≡ Ok item
    → (b ≡ true) × (items.Clock n ≡ item)
clock_test true n item r e = (refl, cc)
clock_test false n item r e = absurd cc

request_read : (c : Option Command) (command : List ℕ) (item : Item) → request_or c command ≡ Ok item → IsSome c × (items.Request command ≡ item)
request_read None command item e = absurd cc
request_read (Some c) command item e = (refl, cc)

no_command : (command : List ℕ) → length command ≡ 0 → command_of command ≡ None
unfolding command_of command_at
no_command [] none = refl
no_command (b ∷ command) none = absurd (omega (arith, none))

eight_bytes : (bytes : List ℕ) → length bytes ≡ 8 → AreBytes bytes → big_bytes 8 (big_number 8 bytes) ≡ bytes
eight_bytes bytes long fits =
    let value : big_number 8 bytes ≡ from_be_bytes w64 bytes = omega arith in
    be_bytes_8 bytes (big_number 8 bytes) long fits value

number_small : (bytes : List ℕ) → AreBytes bytes → big_number 8 bytes < 2 ^ 64
number_small bytes fits = omega (arith, fits 0, fits 1, fits 2, fits 3, fits 4, fits 5, fits 6, fits 7)

clock_own : (first : ℕ) (bytes : List ℕ) (item : Item) → first ≡ 2 → AreBytes bytes → length bytes ≡ 8
    → clock_or (big_number 8 bytes) ≡ Ok item → IsSpelled item (first ∷ bytes)
clock_own first bytes item is fits long e =
    let read = clock_test (nat_le (big_number 8 bytes) MAX_CLOCK) (big_number 8 bytes) item _ e in
    subst (λ (i : Item). IsSpelled i (first ∷ bytes)) read.1 (record {
      valid = leb-true (big_number 8 bytes) MAX_CLOCK read.0;
      is = ap (λ (b : ℕ). b ∷ bytes) is ∙ ap (λ (bs : List ℕ). 2 ∷ bs) (sym (eight_bytes bytes long fits));
    })

restart_own : (first : ℕ) (bytes : List ℕ) (item : Item) → first ≡ 5 → AreBytes bytes → length bytes ≡ 8
    → items.Restart (big_number 8 bytes) ≡ item → IsSpelled item (first ∷ bytes)
restart_own first bytes item is fits long e =
    subst (λ (i : Item). IsSpelled i (first ∷ bytes)) e (record {
      valid = number_small bytes fits;
      is = ap (λ (b : ℕ). b ∷ bytes) is ∙ ap (λ (bs : List ℕ). 5 ∷ bs) (sym (eight_bytes bytes long fits));
    })

-- an item of one byte
byte_own : (first last : ℕ) (bytes : List ℕ) → first ≡ last → length bytes ≡ 0 → first ∷ bytes ≡ last ∷ []
byte_own first last bytes is none = ap (λ (b : ℕ). b ∷ bytes) is ∙ ap (λ (bs : List ℕ). last ∷ bs) (nil_from_length bytes none)

-- a request whose size is in its range
request_in : (first : ℕ) (bytes : List ℕ) (item : Item) → first ≡ 6 → AreBytes bytes → length bytes ≡ 2 + big_number 2 bytes
    → big_number 2 bytes ≤ MAX_COMMAND → request_or (command_of (drop 2 bytes)) (drop 2 bytes) ≡ Ok item → IsSpelled item (first ∷ bytes)
request_in first bytes item is fits long short e =
    let command = drop 2 bytes in
    let read = request_read (command_of command) command item e in
    let size : big_number 2 bytes ≡ length command = omega (arith, long, length-drop 2 bytes) in
    let spelled : bytes ≡ big_bytes 2 (length command) ++ command =
    sym (two_bytes bytes (omega (arith, long)) fits) ∙ ap (λ (n : ℕ). big_bytes 2 n ++ command) size in
    subst (λ (i : Item). IsSpelled i (first ∷ bytes)) read.1 (record {
      valid = (omega (arith, size, short), read.0);
      is = ap (λ (b : ℕ). b ∷ bytes) is ∙ ap (λ (bs : List ℕ). 6 ∷ bs) spelled;
    })

-- a request whose size is out of its range has no command
request_out : (bytes : List ℕ) (item : Item) → length bytes ≡ 2 → request_or (command_of (drop 2 bytes)) (drop 2 bytes) ≡ Ok item → ⊥
request_out bytes item long e =
    let none = no_command (drop 2 bytes) (omega (arith, long, length-drop 2 bytes)) in
    let refused : request_or None (drop 2 bytes) ≡ Ok item = ap (λ (c : Option Command). request_or c (drop 2 bytes)) (sym none) ∙ e in
    absurd cc

request_own : (first : ℕ) (bytes : List ℕ) (item : Item) → first ≡ 6 → AreBytes bytes → wanted_by (Some Request) (first ∷ bytes) ≡ length (first ∷ bytes)
    → request_or (command_of (drop 2 bytes)) (drop 2 bytes) ≡ Ok item → IsSpelled item (first ∷ bytes)
request_own first bytes item is fits size e =
    let own = first ∷ bytes in
    elim (cases_lt (length own) 3) [
      | inl few ↦ absurd (omega (arith, few, size, request_short own few))
      | inr many ↦
          elim (cases_lt MAX_COMMAND (command_size own)) [
            | inl over ↦ absurd (request_out bytes item (omega (arith, size, request_high own many over)) e)
            | inr short ↦ request_in first bytes item is fits (omega (arith, size, request_whole own many short)) short e
          ]
    ]

own_by : (s : Option Sort) (first : ℕ) (bytes : List ℕ) (item : Item) → sort_of first ≡ s → AreBytes (first ∷ bytes)
    → wanted_by s (first ∷ bytes) ≡ length (first ∷ bytes) → item_by s (first ∷ bytes) ≡ Ok item → IsSpelled item (first ∷ bytes)
own_by None first bytes item sort fits size e = absurd cc
own_by (Some Frame) first bytes item sort fits size e =
    let read = frame_read (refusal (first ∷ bytes)) (first ∷ bytes) item e in
    subst (λ (i : Item). IsSpelled i (first ∷ bytes)) read.1 (record { valid = (fits, read.0); is = refl })
own_by (Some Clock) first bytes item sort fits size e = clock_own first bytes item (first_of first Clock sort) (λ i. fits (suc i)) (omega (arith, size)) e
own_by (Some Alarm) first bytes item sort fits size e =
    let same : items.Alarm ≡ item = cc in
    subst (λ (i : Item). IsSpelled i (first ∷ bytes)) same (record { valid = tt; is = byte_own first 3 bytes (first_of first Alarm sort) (omega (arith, size)) })
own_by (Some Crash) first bytes item sort fits size e =
    let same : items.Crash ≡ item = cc in
    subst (λ (i : Item). IsSpelled i (first ∷ bytes)) same (record { valid = tt; is = byte_own first 4 bytes (first_of first Crash sort) (omega (arith, size)) })
own_by (Some Restart) first bytes item sort fits size e =
    let same : items.Restart (big_number 8 bytes) ≡ item = cc in
    restart_own first bytes item (first_of first Restart sort) (λ i. fits (suc i)) (omega (arith, size)) same
own_by (Some Request) first bytes item sort fits size e =
    request_own first bytes item (first_of first Request sort) (λ i. fits (suc i)) size e

-- the item that bytes are has these bytes
pub own_item : (own : List ℕ) (item : Item) → AreBytes own → wanted own ≡ length own → item_of own ≡ Ok item → IsSpelled item own
unfolding wanted item_of
own_item [] item fits size e = absurd cc
own_item (first ∷ bytes) item fits size e = own_by (sort_of first) first bytes item refl fits size e

-- ---- the item at the beginning

pub cut_at : (bytes : List ℕ) → length bytes < wanted bytes → item_at bytes ≡ Err Cut
unfolding item_at
cut_at bytes few = rw (lt-ltb (length bytes) (wanted bytes) few) refl

-- what is settled has the bytes of a whole item
pub settled_whole : (bytes : List ℕ) → ¬ (item_at bytes ≡ Err Cut) → wanted bytes ≤ length bytes
settled_whole bytes settled =
    elim (cases_lt (length bytes) (wanted bytes)) [
      | inl few ↦ absurd (settled (cut_at bytes few))
      | inr whole ↦ whole
    ]

pub read_whole : (bytes : List ℕ) (item : Item) → item_at bytes ≡ Ok item → wanted bytes ≤ length bytes
read_whole bytes item e = settled_whole bytes (λ cut. let clash : Ok item ≡ Err Cut = sym e ∙ cut in absurd cc)

-- the item that is read has the bytes of its size
pub read_own : (bytes : List ℕ) (item : Item) → AreBytes bytes → item_at bytes ≡ Ok item → IsSpelled item (take (wanted bytes) bytes)
read_own bytes item fits e =
    let whole = read_whole bytes item e in
    own_item (take (wanted bytes) bytes) item (AreBytes-take (wanted bytes) bytes fits) (wanted_own bytes whole) (sym (item_whole bytes whole) ∙ e)

pub only_spelled : (bytes : List ℕ) (item : Item) → AreBytes bytes → item_at bytes ≡ Ok item → bytes ≡ spelling item ++ drop (length (spelling item)) bytes
only_spelled bytes item fits e =
    let whole = read_whole bytes item e in
    let is = (read_own bytes item fits e).is in
    let size : wanted bytes ≡ length (spelling item) = sym (length-take-le (wanted bytes) bytes whole) ∙ ap length is in
    sym (take-append-drop (wanted bytes) bytes) ∙ ap (λ (own : List ℕ). own ++ drop (wanted bytes) bytes) is
    ∙ ap (λ (n : ℕ). spelling item ++ drop n bytes) size
