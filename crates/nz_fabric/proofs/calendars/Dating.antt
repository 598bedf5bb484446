-- The days of a calendar, and what a calendar says after one parcel more.
use Rattle.std.proofs.Common.{◌≡◌, ℕ, zero, suc, ◌+◌, ◌-◌, ◌<◌, ◌≤◌, ◌^◌, eqb, Bool, true, false, cond, min, List, [], ◌∷◌, ◌++◌}
use Rattle.std.proofs.Common.{length, map, refl, sym, ap, ◌∙◌, subst, arith, append-nil, append_assoc, inl, inr, length-append}
use Rattle.std.specs.Prelude.{filter, take, get_or, nat_le, reverse, Vec, vec_capacity, slice_set}
use Rattle.std.specs.Global.{Global}
use Rattle.std.specs.List.{AllByRecursion}
use Rattle.std.proofs.lemmas.List.{map-append, map-set, get_or-set_same, get_or-set_other, length-set, get_or-map}
use Rattle.std.proofs.lemmas.List.{get_or_append_left, get_or_default, length-map, take_more}
use Rattle.std.proofs.Math.Seq.{map-set_same}
use Rattle.std.proofs.lemmas.Grind.{reverse_onto}
use Rattle.std.proofs.lemmas.List.Elements.{filter-append}
use Rattle.std.proofs.lemmas.Bool.{cases_eq}
use Rattle.std.proofs.lemmas.Bool.Decides.{nat_tests}
use Rattle.nz_base.specs.declared.scenario.Scenario.{Scenario}
use Rattle.nz_machine.proofs.lists.EachItem.{all_append, all_back, all_imply}
use Rattle.nz_machine.specs.declared.event.Parcel.{Parcel}
use Rattle.nz_machine.specs.declared.event.Record.{Record}
use Rattle.nz_machine.specs.declared.journal.Item.{Item}
use Rattle.nz_machine.specs.runs.Schedule.{Delivery, Posted, posted_in, posted_by_run, arrivals, deliveries, delivery_item, due_of, kind_in_frame}
use Rattle.nz_fabric.specs.declared.schedule.calendar.Arrival.{Arrival}
use Rattle.nz_fabric.specs.declared.schedule.course.Course.{Course}
use Rattle.nz_fabric.specs.declared.schedule.course.Traffic.{Traffic}
use Rattle.nz_fabric.specs.schedule.Calendars.{Represents, Dates, items_in, parcels_of, posted_by, course, traffic_of, count_of, next_number}
use Rattle.nz_fabric.specs.schedule.Calendars.{counted_kind, IsCounted, KeepsLines}
use Rattle.nz_fabric.specs.schedule.Posting.{last_delivery_tick, delivery_as_stored, arrival_of, items_arriving}
use Rattle.nz_fabric.specs.schedule.Posting.{arrivals_up_to, days_of, HasRoomFor, HasRooms, AreKept, AreShort, HasNumberIfWatched}
use Rattle.nz_fabric.proofs.calendars.Numbering.{counted}
use Rattle.nz_fabric.proofs.calendars.Striking.{kept_after}

-- ---- what is due of a parcel's deliveries

pub arriving_append : (t : ℕ) (xs ys : List Arrival) → items_arriving t (xs ++ ys) ≡ items_arriving t xs ++ items_arriving t ys
arriving_append t xs ys =
    ap (map (λ (a : Arrival). a.item)) (filter-append (λ (a : Arrival). eqb a.tick t) xs ys)
    ∙ map-append (λ (a : Arrival). a.item) (filter (λ (a : Arrival). eqb a.tick t) xs) (filter (λ (a : Arrival). eqb a.tick t) ys)

arriving_first : (t : ℕ) (a : Arrival) (xs : List Arrival) (b : Bool) → eqb a.tick t ≡ b
    → items_arriving t (a ∷ xs) ≡ cond b (a.item ∷ items_arriving t xs) (items_arriving t xs)
arriving_first t a xs true e =
    ap (λ c. map (λ (a : Arrival). a.item) (cond c (a ∷ filter (λ (a : Arrival). eqb a.tick t) xs) (filter (λ (a : Arrival). eqb a.tick t) xs))) e
arriving_first t a xs false e =
    ap (λ c. map (λ (a : Arrival). a.item) (cond c (a ∷ filter (λ (a : Arrival). eqb a.tick t) xs) (filter (λ (a : Arrival). eqb a.tick t) xs))) e

due_first : (t : ℕ) (p : Parcel) (d : Delivery) (ds : List Delivery) (b : Bool) → eqb d.tick t ≡ b
    → due_of t p (d ∷ ds) ≡ cond b (delivery_item p d ∷ due_of t p ds) (due_of t p ds)
due_first t p d ds true e =
    ap (λ c. map (delivery_item p) (cond c (d ∷ filter (λ (d : Delivery). eqb d.tick t) ds) (filter (λ (d : Delivery). eqb d.tick t) ds))) e
due_first t p d ds false e =
    ap (λ c. map (delivery_item p) (cond c (d ∷ filter (λ (d : Delivery). eqb d.tick t) ds) (filter (λ (d : Delivery). eqb d.tick t) ds))) e

same_tick : (n t : ℕ) → t < last_delivery_tick → eqb (min n last_delivery_tick) t ≡ eqb n t
same_tick n t below = grind (arith, nat_tests)

-- what the code keeps of a parcel's deliveries is due as they are
arriving_of : (t : ℕ) (p : Parcel) (ds : List Delivery) → t < last_delivery_tick
    → items_arriving t (map (arrival_of p) (map delivery_as_stored ds)) ≡ due_of t p ds
arriving_of t p [] below = refl
arriving_of t p (d ∷ ds) below =
    let b = eqb d.tick t in
    arriving_first t (arrival_of p (delivery_as_stored d)) (map (arrival_of p) (map delivery_as_stored ds)) b (same_tick d.tick t below)
    ∙ ap (λ (xs : List Item). cond b (delivery_item p d ∷ xs) xs) (arriving_of t p ds below)
    ∙ sym (due_first t p d ds b refl)

up_to_first : (last t : ℕ) (a : Arrival) (xs : List Arrival) (b : Bool) → t ≤ last → nat_le a.tick last ≡ b
    → items_arriving t (arrivals_up_to last xs) ≡ items_arriving t xs → items_arriving t (arrivals_up_to last (a ∷ xs)) ≡ items_arriving t (a ∷ xs)
up_to_first last t a xs true le e ih =
    ap (λ c. items_arriving t (cond c (a ∷ arrivals_up_to last xs) (arrivals_up_to last xs))) e
    ∙ arriving_first t a (arrivals_up_to last xs) (eqb a.tick t) refl
    ∙ ap (λ (is : List Item). cond (eqb a.tick t) (a.item ∷ is) is) ih
    ∙ sym (arriving_first t a xs (eqb a.tick t) refl)
up_to_first last t a xs false le e ih =
    ap (λ c. items_arriving t (cond c (a ∷ arrivals_up_to last xs) (arrivals_up_to last xs))) e ∙ ih
    ∙ sym (arriving_first t a xs false (grind (arith, nat_tests)))

-- up to the last tick nothing is left out
pub up_to_is : (last t : ℕ) (xs : List Arrival) → t ≤ last → items_arriving t (arrivals_up_to last xs) ≡ items_arriving t xs
up_to_is last t [] le = refl
up_to_is last t (a ∷ xs) le = up_to_first last t a xs (nat_le a.tick last) le refl (up_to_is last t xs le)

-- ---- days

one_empty : (days : List (List Item)) (t : ℕ) → items_in (days ++ [] ∷ []) t ≡ items_in days t
one_empty [] zero = refl
one_empty [] (suc t) = refl
one_empty (d ∷ days) zero = refl
one_empty (d ∷ days) (suc t) = one_empty days t

-- one day more, which is empty
pub opened : (days : List (Vec Item Global)) (v : Vec Item Global) (t : ℕ) → v.items ≡ []
    → items_in (days_of (days ++ v ∷ [])) t ≡ items_in (days_of days) t
opened days v t none =
    ap (λ (D : List (List Item)). items_in D t)
    (map-append (λ (v : Vec Item Global). v.items) days (v ∷ []) ∙ ap (λ (x : List Item). days_of days ++ x ∷ []) none)
    ∙ one_empty (days_of days) t

-- a day with more room has the same items
pub same_days : (days : List (Vec Item Global)) (i : ℕ) (old v : Vec Item Global) → old ≡ get_or days i old
    → v.items ≡ old.items → days_of (slice_set days i v) ≡ days_of days
same_days days i old v at e = map-set_same (λ (v : Vec Item Global). v.items) days i v old (e ∙ ap (λ (v : Vec Item Global). v.items) at)

-- what is read at a place does not depend on what is read where there is none
pub same_read : (days : List (Vec Item Global)) (i : ℕ) (v w : Vec Item Global) → i < length days → v ≡ get_or days i v → v ≡ get_or days i w
same_read days i v w lt at = at ∙ sym (get_or_default days i w v lt)

-- ---- rooms

pub room_more : (n : ℕ) (days : List (Vec Item Global)) (v : Vec Item Global) (t : ℕ) → HasRoomFor n days t → HasRoomFor n (days ++ v ∷ []) t
room_more n days v t h =
    let lt = h.within in
    let long = length-append days (v ∷ []) in
    record {
      within = omega (arith, lt, long);
      reserved = λ d. subst (λ (x : Vec Item Global). length x.items + n ≤ vec_capacity x) (sym (get_or_append_left days (v ∷ []) d t lt)) (h.reserved d);
      short = λ d. subst (λ (x : Vec Item Global). length x.items + n < 2 ^ 32) (sym (get_or_append_left days (v ∷ []) d t lt)) (h.short d);
    }

-- the day has this room
pub room_at : (n : ℕ) (days : List (Vec Item Global)) (i : ℕ) (v : Vec Item Global) → i < length days
    → length v.items + n ≤ vec_capacity v → length v.items + n < 2 ^ 32 → HasRoomFor n (slice_set days i v) i
room_at n days i v lt reserved short =
    let long = length-set days i v in
    record {
      within = omega (arith, lt, long);
      reserved = λ d. subst (λ (x : Vec Item Global). length x.items + n ≤ vec_capacity x) (sym (get_or-set_same days i v d lt)) reserved;
      short = λ d. subst (λ (x : Vec Item Global). length x.items + n < 2 ^ 32) (sym (get_or-set_same days i v d lt)) short;
    }

-- room that is left after a day changed
pub room_set : (n m : ℕ) (days : List (Vec Item Global)) (i : ℕ) (old v : Vec Item Global) (t : ℕ) → i < length days
    → old ≡ get_or days i old → n ≤ m → length v.items + n ≤ length old.items + m → vec_capacity old ≤ vec_capacity v
    → HasRoomFor m days t → HasRoomFor n (slice_set days i v) t
room_set n m days i old v t lt at le more capacity h =
    let long = length-set days i v in
    elim (cases_eq t i) [
      | inl e ↦
          let reserved : length old.items + m ≤ vec_capacity old =
          subst (λ (x : Vec Item Global). length x.items + m ≤ vec_capacity x) (ap (λ (k : ℕ). get_or days k old) e ∙ sym at) (h.reserved old) in
          let short : length old.items + m < 2 ^ 32 =
          subst (λ (x : Vec Item Global). length x.items + m < 2 ^ 32) (ap (λ (k : ℕ). get_or days k old) e ∙ sym at) (h.short old) in
          subst (HasRoomFor n (slice_set days i v)) (sym e) (room_at n days i v lt (omega (arith, more, reserved, capacity)) (omega (arith, more, short)))
      | inr ne ↦ record {
        within = let lt = h.within in omega (arith, lt, long);
        reserved =
            λ d. subst (λ (x : Vec Item Global). length x.items + n ≤ vec_capacity x)
            (sym (get_or-set_other days i t v d ne)) (let r = h.reserved d in omega (arith, r, le));
        short =
            λ d. subst (λ (x : Vec Item Global). length x.items + n < 2 ^ 32) (sym (get_or-set_other days i t v d ne))
            (let r = h.short d in omega (arith, r, le));
      }
    ]

pub rooms_set : (n m : ℕ) (days : List (Vec Item Global)) (i : ℕ) (old v : Vec Item Global) (arrivals : List Arrival)
    → i < length days → old ≡ get_or days i old → n ≤ m → length v.items + n ≤ length old.items + m → vec_capacity old ≤ vec_capacity v
    → HasRooms m days arrivals → HasRooms n (slice_set days i v) arrivals
rooms_set n m days i old v [] lt at le more capacity h = tt
rooms_set n m days i old v (a ∷ arrivals) lt at le more capacity h =
    (room_set n m days i old v a.tick lt at le more capacity h.0, rooms_set n m days i old v arrivals lt at le more capacity h.1)

-- one delivery more has its room
pub rooms_more : (n : ℕ) (before after : List (Vec Item Global)) (arrivals : List Arrival) (i : ℕ) (a : Arrival)
    → i < length arrivals → a ≡ get_or arrivals i a → ((n t : ℕ) → HasRoomFor n before t → HasRoomFor n after t)
    → HasRoomFor n after a.tick → HasRooms n before (take i arrivals) → HasRooms n after (take (i + 1) arrivals)
rooms_more n before after arrivals i a lt at keep own h =
    subst (HasRooms n after) (ap (λ (x : Arrival). take i arrivals ++ x ∷ []) at ∙ sym (take_more arrivals i a lt))
    (all_append (λ (a : Arrival). HasRoomFor n after a.tick) (take i arrivals) (a ∷ [])
    (all_imply (λ (a : Arrival). HasRoomFor n before a.tick) (λ (a : Arrival). HasRoomFor n after a.tick)
    (λ x r. keep n x.tick r) (take i arrivals) h) (own, tt))

-- a day that is short
pub set_short : (days : List (Vec Item Global)) (i : ℕ) (v : Vec Item Global) → i < length days
    → length v.items < 2 ^ 32 → AreShort days → AreShort (slice_set days i v)
set_short days i v lt own short = λ t.
    let D = days_of days in
    let long = length-map days (λ (v : Vec Item Global). v.items) in
    subst (λ (D : List (List Item)). length (items_in D t) < 2 ^ 32) (sym (map-set (λ (v : Vec Item Global). v.items) days i v))
    (elim (cases_eq t i) [
      | inl e ↦
          subst (λ (is : List Item). length is < 2 ^ 32)
          (sym (ap (items_in (slice_set D i v.items)) e ∙ get_or-set_same D i v.items [] (omega (arith, lt, long)))) own
      | inr ne ↦ subst (λ (is : List Item). length is < 2 ^ 32) (sym (get_or-set_other D i t v.items [] ne)) (short t)
    ])

-- days with the same items are as short
pub kept_short : (before after : List (Vec Item Global)) → AreKept before after → AreShort before → AreShort after
kept_short before after same short = λ t. subst (λ (is : List Item). length is < 2 ^ 32) (sym (same t)) (short t)

-- the delivery that is next has its room
pub record HasOwnRoom (n : ℕ) (days : List (Vec Item Global)) (i : ℕ) (v : Vec Item Global) : Type 0 where
  pub within : i < length days
  pub reserved : length v.items < vec_capacity v
  pub short : length v.items + 1 < 2 ^ 32

pub left_over : (all yielded rest : List Arrival) (a : Arrival) → yielded ++ a ∷ rest ≡ all
    → length all - length yielded ≡ (length all - length (yielded ++ a ∷ [])) + 1
left_over all yielded rest a e = let n = ap length e in let l = length-append yielded (a ∷ rest) in let k = length-append yielded (a ∷ []) in
    omega (arith, n, l, k)

pub next_room : (days : List (Vec Item Global)) (all yielded rest : List Arrival) (a : Arrival) (v : Vec Item Global)
    → yielded ++ a ∷ rest ≡ all → HasRooms (length all - length yielded) days all → v ≡ get_or days a.tick v → HasOwnRoom 0 days a.tick v
next_room days all yielded rest a v e h at =
    let n = left_over all yielded rest a e in
    let P : Arrival → Type 0 = λ (a : Arrival). HasRoomFor (length all - length yielded) days a.tick in
    let r = (all_back P yielded (a ∷ rest) (subst (AllByRecursion P) (sym e) h)).0 in
    let reserved : length v.items + (length all - length yielded) ≤ vec_capacity v =
    subst (λ (x : Vec Item Global). length x.items + (length all - length yielded) ≤ vec_capacity x) (sym at) (r.reserved v) in
    let short : length v.items + (length all - length yielded) < 2 ^ 32 =
    subst (λ (x : Vec Item Global). length x.items + (length all - length yielded) < 2 ^ 32) (sym at) (r.short v) in
    record { within = r.within; reserved = omega (arith, n, reserved); short = omega (arith, n, short) }

pub next_within : (days : List (Vec Item Global)) (all yielded rest : List Arrival) (a : Arrival)
    → yielded ++ a ∷ rest ≡ all → HasRooms (length all - length yielded) days all → a.tick < length days
next_within days all yielded rest a e h =
    let P : Arrival → Type 0 = λ (a : Arrival). HasRoomFor (length all - length yielded) days a.tick in
    (all_back P yielded (a ∷ rest) (subst (AllByRecursion P) (sym e) h)).0.within

-- ---- one delivery goes into its day

placed_in : (D : List (List Item)) (i t : ℕ) (a : Arrival) → i < length D → i ≡ a.tick
    → items_in (slice_set D i (items_in D i ++ a.item ∷ [])) t ≡ items_in D t ++ items_arriving t (a ∷ [])
placed_in D i t a lt is =
    let next = items_in D i ++ a.item ∷ [] in
    elim (cases_eq t i) [
      | inl e ↦ ap (items_in (slice_set D i next)) e ∙ get_or-set_same D i next [] lt ∙ ap (λ (k : ℕ). items_in D k ++ a.item ∷ []) (sym e)
          ∙ ap (λ (is : List Item). items_in D t ++ is) (sym (arriving_first t a [] true (grind (arith, nat_tests))))
      | inr ne ↦
          get_or-set_other D i t next [] ne ∙ sym (append-nil (items_in D t))
          ∙ ap (λ (is : List Item). items_in D t ++ is) (sym (arriving_first t a [] false (grind (arith, nat_tests))))
    ]

pub placed_one : (days : List (Vec Item Global)) (D : List (List Item)) (before : List Arrival) (i t : ℕ) (old v : Vec Item Global) (a : Arrival)
    → i < length days → old ≡ get_or days i old → i ≡ a.tick → v.items ≡ old.items ++ a.item ∷ []
    → items_in (days_of days) t ≡ items_in D t ++ items_arriving t before
    → items_in (days_of (slice_set days i v)) t ≡ items_in D t ++ items_arriving t (before ++ a ∷ [])
placed_one days D before i t old v a lt at is items so_far =
    let own : (get_or days i old).items ≡ items_in (days_of days) i = sym (get_or-map (λ (v : Vec Item Global). v.items) days i old [] lt) in
    let next : v.items ≡ items_in (days_of days) i ++ a.item ∷ [] =
    items ∙ ap (λ (is : List Item). is ++ a.item ∷ []) (ap (λ (v : Vec Item Global). v.items) at ∙ own) in
    ap (λ (D : List (List Item)). items_in D t) (map-set (λ (v : Vec Item Global). v.items) days i v ∙ ap (slice_set (days_of days) i) next)
    ∙ placed_in (days_of days) i t a (let long = length-map days (λ (v : Vec Item Global). v.items) in omega (arith, lt, long)) is
    ∙ ap (λ (is : List Item). is ++ items_arriving t (a ∷ [])) so_far
    ∙ append_assoc (items_in D t) (items_arriving t before) (items_arriving t (a ∷ []))
    ∙ ap (λ (is : List Item). items_in D t ++ is) (sym (arriving_append t before (a ∷ [])))

-- ---- one more parcel

arrivals_push : (s : Scenario) (t : ℕ) (earlier : List Parcel) (L : List Posted) (x : Posted)
    → arrivals s t earlier (L ++ x ∷ []) ≡ arrivals s t earlier L ++ due_of t x.parcel (deliveries s x.tick (earlier ++ parcels_of L) x.parcel)
arrivals_push s t earlier [] x =
    append-nil (due_of t x.parcel (deliveries s x.tick earlier x.parcel))
    ∙ ap (λ (e : List Parcel). due_of t x.parcel (deliveries s x.tick e x.parcel)) (sym (append-nil earlier))
arrivals_push s t earlier (y ∷ L) x =
    let own = due_of t y.parcel (deliveries s y.tick earlier y.parcel) in
    ap (λ (zs : List Item). own ++ zs) (arrivals_push s t (earlier ++ y.parcel ∷ []) L x)
    ∙ sym (append_assoc own (arrivals s t (earlier ++ y.parcel ∷ []) L)
    (due_of t x.parcel (deliveries s x.tick ((earlier ++ y.parcel ∷ []) ++ parcels_of L) x.parcel)))
    ∙ ap (λ (e : List Parcel). (own ++ arrivals s t (earlier ++ y.parcel ∷ []) L)
    ++ due_of t x.parcel (deliveries s x.tick e x.parcel)) (append_assoc earlier (y.parcel ∷ []) (parcels_of L))

pub posted_one : (s : Scenario) (L : List Posted) (now : ℕ) (c c' : Dates) (tick : ℕ) (p : Parcel) (arrived : List Arrival)
    → Represents s L now c → s.ticks < last_delivery_tick
    → HasNumberIfWatched s.faults (parcels_of L) p (next_number (traffic_of c.courses p (counted_kind s.faults (kind_in_frame p.frame))))
    → c'.parcels ≡ c.parcels + 1 → c'.watched ≡ c.watched → IsCounted s.faults c.courses c'.courses p (counted_kind s.faults (kind_in_frame p.frame))
    → arrived ≡ arrivals_up_to s.ticks (map (arrival_of p) (map delivery_as_stored (deliveries s tick (parcels_of L) p)))
    → ((t : ℕ) → items_in c'.days t ≡ items_in c.days t ++ items_arriving t arrived) → Represents s (L ++ posted_in tick p ∷ []) now c'
posted_one s L now c c' tick p arrived h below is parcels watched count arrive items =
    let ds = deliveries s tick (parcels_of L) p in
    record {
      parcels = (let long = length-append L (posted_in tick p ∷ []) in let n = h.parcels in omega (arith, long, n, parcels));
      watched = watched ∙ h.watched;
      counts = counted s.faults c.courses c'.courses L tick p count is h.counts;
      lines = kept_after s.faults c.courses c'.courses p (counted_kind s.faults (kind_in_frame p.frame)) count h.lines;
      items = λ t after le.
          items t
          ∙ ap (λ (is : List Item). is ++ items_arriving t arrived) (h.items t after le)
          ∙ ap (λ (xs : List Arrival). arrivals s t [] L ++ items_arriving t xs) arrive
          ∙ ap (λ (is : List Item). arrivals s t [] L ++ is)
          (up_to_is s.ticks t (map (arrival_of p) (map delivery_as_stored ds)) le ∙ arriving_of t p ds (omega (arith, le, below)))
          ∙ sym (arrivals_push s t [] L (posted_in tick p));
    }

-- only the days' items count
pub stands_by : (s : Scenario) (L : List Posted) (now : ℕ) (c c' : Dates) → c'.parcels ≡ c.parcels → c'.watched ≡ c.watched
    → c'.courses ≡ c.courses → ((t : ℕ) → now < t → items_in c'.days t ≡ items_in c.days t) → Represents s L now c → Represents s L now c'
stands_by s L now c c' parcels watched courses items h = record {
  parcels = parcels ∙ h.parcels;
  watched = watched ∙ h.watched;
  counts = λ from to kind is.
      ap (λ (courses : List (Course × Traffic)). count_of courses (course from to kind)) courses ∙ h.counts from to kind is;
  lines = subst (KeepsLines s.faults) (sym courses) h.lines;
  items = λ t after le. items t after ∙ h.items t after le;
}

-- ---- a tick is taken

pub day_is : (days : List (Vec Item Global)) (tick : ℕ) (v : Vec Item Global) → tick < length days
    → v ≡ get_or days tick v → items_in (days_of days) tick ≡ v.items
day_is days tick v lt at = get_or-map (λ (v : Vec Item Global). v.items) days tick v [] lt ∙ ap (λ (v : Vec Item Global). v.items) (sym at)

-- a day without items is the same in other memory
pub same_empty : (days : List (Vec Item Global)) (i : ℕ) (old v : Vec Item Global) → i < length days → old ≡ get_or days i old
    → items_in (days_of days) i ≡ [] → v.items ≡ [] → days_of (slice_set days i v) ≡ days_of days
same_empty days i old v lt at none own = same_days days i old v at (own ∙ sym none ∙ day_is days i old lt at)

taken_days : (days : List (Vec Item Global)) (tick : ℕ) (v : Vec Item Global) → v.items ≡ []
    → days_of (slice_set days tick v) ≡ slice_set (days_of days) tick []
taken_days days tick v none = map-set (λ (v : Vec Item Global). v.items) days tick v ∙ ap (slice_set (days_of days) tick) none

-- none of its items is to come
pub taken_now : (days : List (Vec Item Global)) (tick : ℕ) (v : Vec Item Global) → tick < length days → v.items ≡ []
    → items_in (days_of (slice_set days tick v)) tick ≡ []
taken_now days tick v lt none =
    let long = length-map days (λ (v : Vec Item Global). v.items) in
    ap (λ (D : List (List Item)). items_in D tick) (taken_days days tick v none)
    ∙ get_or-set_same (days_of days) tick [] [] (omega (arith, lt, long))

pub taken_later : (days : List (Vec Item Global)) (tick t : ℕ) (v : Vec Item Global) → tick < t → v.items ≡ []
    → items_in (days_of (slice_set days tick v)) t ≡ items_in (days_of days) t
taken_later days tick t v lt none =
    ap (λ (D : List (List Item)). items_in D t) (taken_days days tick v none) ∙ get_or-set_other (days_of days) tick t [] [] (λ e. omega (arith, e, lt))

pub represents_later : (s : Scenario) (L : List Posted) (now tick : ℕ) (c : Dates) → now < tick → Represents s L now c → Represents s L tick c
represents_later s L now tick c lt h = record {
  parcels = h.parcels;
  watched = h.watched;
  counts = h.counts;
  lines = h.lines;
  items = λ t after le. h.items t (omega (arith, lt, after)) le;
}

-- ---- what records sent

pub posted_push : (rs : List Record) (r : Record) → posted_by (rs ++ r ∷ []) ≡ posted_by rs ++ map (posted_in r.tick) r.sends
posted_push [] r = append-nil (map (posted_in r.tick) r.sends)
posted_push (x ∷ rs) r =
    ap (λ (xs : List Posted). map (posted_in x.tick) x.sends ++ xs) (posted_push rs r)
    ∙ sym (append_assoc (map (posted_in x.tick) x.sends) (posted_by rs) (map (posted_in r.tick) r.sends))

-- the records of a run, the oldest first
pub posted_reverse : (rs J : List Record) → posted_by_run (reverse rs ++ J) ≡ posted_by_run J ++ posted_by rs
posted_reverse [] J = sym (append-nil (posted_by_run J))
posted_reverse (r ∷ rs) J =
    ap (λ (xs : List Record). posted_by_run (xs ++ J)) (reverse_onto rs r [])
    ∙ ap posted_by_run (append_assoc (reverse rs) (r ∷ []) J)
    ∙ posted_reverse rs (r ∷ J)
    ∙ append_assoc (posted_by_run J) (map (posted_in r.tick) r.sends) (posted_by rs)

pub whole_yielded : (all yielded rest : List Arrival) → rest ≡ [] → yielded ++ rest ≡ all → yielded ≡ all
whole_yielded all yielded rest none whole = sym (append-nil yielded) ∙ ap (λ (rest : List Arrival). yielded ++ rest) (sym none) ∙ whole
