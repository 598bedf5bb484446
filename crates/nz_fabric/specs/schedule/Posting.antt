-- Helper definitions of posting.rt, which posts a parcel.
use Rattle.std.specs.Prelude.{◌≡◌, ℕ, ◌+◌, ◌-◌, ◌<◌, ◌≤◌, ◌^◌, ◌==◌, nat_le, min, Bool, true, false, List, [], ◌∷◌, ◌++◌}
use Rattle.std.specs.Prelude.{length, map, filter, get_or, Vec, vec_capacity}
use Rattle.std.specs.Global.{Global}
use Rattle.std.specs.List.{AllByRecursion}
use Rattle.nz_base.specs.declared.actor.Actor.{Actor}
use Rattle.nz_base.specs.declared.scenario.Fault.{Fault}
use Rattle.nz_base.specs.declared.scenario.Fault.TheVariants as faults
use Rattle.nz_machine.specs.declared.event.Parcel.{Parcel}
use Rattle.nz_machine.specs.declared.journal.Item.{Item}
use Rattle.nz_machine.specs.runs.Schedule.{Delivery as DeliveryModel, is_parcel_of, is_nth, is_blocked, deliveries_later, with_copy, cut_short}
use Rattle.nz_machine.specs.runs.Schedule.{item, delivery_event, after_faults, whole_in}
use Rattle.nz_fabric.specs.declared.schedule.deliveries.Delivery.{Delivery}
use Rattle.nz_fabric.specs.declared.schedule.calendar.Arrival.{Arrival}
use Rattle.nz_fabric.specs.schedule.Calendars.{is_watched, items_in}

-- The ticks of deliveries stop here, which is after the last tick of every run.
abbrev pub last_delivery_tick : ℕ
last_delivery_tick = 2 ^ 32 - 1

-- A delivery as the code has it.
abbrev pub delivery_as_stored : DeliveryModel → Delivery
delivery_as_stored d = record { tick = min d.tick last_delivery_tick; kept = d.kept }

-- A delivery that comes later.
abbrev pub put_off : ℕ → Delivery → Delivery
put_off by d = record d { tick = min (d.tick + by) last_delivery_tick }

-- The parcel is the one of this number among those of its sender, receiver and kind, after earlier parcels.
abbrev pub HasNumber : List Parcel → Parcel → ℕ → Type 0
HasNumber earlier p number =
    (from to : Actor) (kind : ℕ) → is_parcel_of from to kind p ≡ true → number ≡ length (filter (is_parcel_of from to kind) earlier) + 1

-- The same, if fault lines may strike parcels of its kind.
abbrev pub HasNumberIfWatched : List Fault → List Parcel → Parcel → ℕ → Type 0
HasNumberIfWatched lines earlier p number = (from to : Actor) (kind : ℕ) → is_watched lines kind ≡ true
    → is_parcel_of from to kind p ≡ true → number ≡ length (filter (is_parcel_of from to kind) earlier) + 1

-- Whether a fault line strikes a parcel that is sent in a tick after earlier parcels.
abbrev pub strikes : ℕ → List Parcel → Parcel → Fault → Bool
strikes tick earlier p (faults.Drop from to kind count) = is_nth from to kind count earlier p
strikes tick earlier p (faults.Hold from to kind count by) = is_nth from to kind count earlier p
strikes tick earlier p (faults.Twice from to kind count by) = is_nth from to kind count earlier p
strikes tick earlier p (faults.Cut from to kind count keep) = is_nth from to kind count earlier p
strikes tick earlier p (faults.Block from to first last) = is_blocked from to first last tick p
strikes tick earlier p _ = false

-- What it makes of the deliveries of a parcel that it strikes.
abbrev pub after_strike : Parcel → Fault → List DeliveryModel → List DeliveryModel
after_strike p (faults.Drop from to kind count) ds = []
after_strike p (faults.Hold from to kind count by) ds = deliveries_later by ds
after_strike p (faults.Twice from to kind count by) ds = with_copy by ds
after_strike p (faults.Cut from to kind count keep) ds = cut_short keep (length p.frame) ds
after_strike p (faults.Block from to first last) ds = []
after_strike p _ ds = ds

-- A delivery of a parcel, with its tick.
abbrev pub arrival_of : Parcel → Delivery → Arrival
arrival_of p d = record { tick = d.tick; item = item p.to (delivery_event p d.kept) }

-- What of it is due in a tick.
abbrev pub items_arriving : ℕ → List Arrival → List Item
items_arriving tick arrivals = map (λ a. a.item) (filter (λ a. a.tick == tick) arrivals)

-- Those up to the last tick.
abbrev pub arrivals_up_to : ℕ → List Arrival → List Arrival
arrivals_up_to last arrivals = filter (λ a. nat_le a.tick last) arrivals

-- Those of a parcel that is sent in a tick after earlier ones, as these fault lines leave its deliveries.
abbrev pub arrivals_by : ℕ → ℕ → List Parcel → Parcel → List Fault → List Arrival
arrivals_by last tick earlier p lines =
    arrivals_up_to last (map (arrival_of p) (map delivery_as_stored (after_faults tick earlier p lines (whole_in (tick + 1) ∷ []))))

-- The items of each day, as the code keeps them.
abbrev pub days_of : List (Vec Item Global) → List (List Item)
days_of days = map (λ v. v.items) days

-- The day of a tick has room for this many items more.
pub record HasRoomFor (count : ℕ) (days : List (Vec Item Global)) (tick : ℕ) : Type 0 where
  pub within : tick < length days
  pub reserved : (d : Vec Item Global) → length (get_or days tick d).items + count ≤ vec_capacity (get_or days tick d)
  pub short : (d : Vec Item Global) → length (get_or days tick d).items + count < 2 ^ 32

-- There is room for all of these.
abbrev pub HasRooms : ℕ → List (Vec Item Global) → List Arrival → Type 0
HasRooms count days arrivals = AllByRecursion (λ a. HasRoomFor count days a.tick) arrivals

-- No day has 2^32 items.
abbrev pub AreShort : List (Vec Item Global) → Type 0
AreShort days = (t : ℕ) → length (items_in (days_of days) t) < 2 ^ 32

-- The days have the same items.
abbrev pub AreKept : List (Vec Item Global) → List (Vec Item Global) → Type 0
AreKept before after = (t : ℕ) → items_in (days_of after) t ≡ items_in (days_of before) t

-- Each of these deliveries went last into its day.
abbrev pub ArePlaced : List (Vec Item Global) → List Arrival → List (Vec Item Global) → Type 0
ArePlaced before arrived after = (t : ℕ) → items_in (days_of after) t ≡ items_in (days_of before) t ++ items_arriving t arrived
