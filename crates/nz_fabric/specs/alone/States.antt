-- What contracts see of the network of one thread, and what it keeps.
use Rattle.std.specs.Prelude.{◌≡◌, ℕ, zero, suc, ◌+◌, ◌≤◌, ◌<◌, Bool, true, false, List, [], ◌∷◌, ◌++◌, length, map, take, drop, reverse, ◌^◌, Some}
use Rattle.std.specs.Prelude.{slice_get, IsPermutation}
use Rattle.std.specs.List.{AllByRecursion}
use Rattle.nz_base.specs.declared.scenario.Scenario.{Scenario}
use Rattle.nz_machine.specs.declared.event.Parcel.{Parcel}
use Rattle.nz_machine.specs.declared.event.Record.{Record}
use Rattle.nz_machine.specs.declared.journal.Item.{Item}
use Rattle.nz_machine.specs.runs.Schedule.{item, item_of, Posted, posted_by_run, calls, tick_item, actors_of, arrivals, due, InOrderTo, ScheduledTo, IsPlayable}
use Rattle.nz_fabric.specs.declared.alone.open_item.OpenItem.{OpenItem}
use Rattle.nz_fabric.specs.declared.schedule.ticks.Ticks.{Ticks}
use Rattle.nz_fabric.specs.schedule.Calendars.{Dates, Represents, posted_by}

-- The tick, the records of the ticks before it and those of the tick, both the newest first, what is due in the
-- tick, how many of it were taken, and whether an item was given up or a tick could not begin.
pub record State : Type 0 where
  pub scenario : Scenario
  pub tick : ℕ
  pub finished : List Record
  pub here : List Record
  pub items : List Item
  pub next : ℕ
  pub marked : Bool

-- All records so far, the newest first.
abbrev pub records_of : State → List Record
records_of f = f.here ++ f.finished

-- Before the first tick nothing is due.
abbrev pub start_state : Scenario → State
start_state s = record { scenario = s; tick = 0; finished = []; here = []; items = []; next = 0; marked = false }

-- The item that was taken.
abbrev pub item_in : OpenItem → Item
item_in opened = item opened.actor opened.event

-- Its record, with what its step sent.
abbrev pub record_of_open : OpenItem → List Parcel → Record
record_of_open opened sends = record { tick = opened.tick; actor = opened.actor; event = opened.event; sends = sends }

-- No item was given up, and none is open.
pub record HasNoOpenItem (f : State) : Type 0 where
  pub unmarked : f.marked ≡ false
  pub closed : f.next ≡ length f.here

-- It is the next item of the tick.
pub record IsNextItem (f : State) (opened : OpenItem) : Type 0 where
  pub number : opened.number ≡ length (records_of f) + 1
  pub tick : opened.tick ≡ f.tick
  pub item : slice_get f.items (length f.here) ≡ Some (item_in opened)

-- The item is open: it was taken, and neither recorded nor given up.
pub record IsOpen (f : State) (opened : OpenItem) : Type 0 where
  pub unmarked : f.marked ≡ false
  pub taken : f.next ≡ length f.here + 1
  pub is_next : IsNextItem f opened

-- All that is due in the tick was recorded.
pub record IsDone (f : State) : Type 0 where
  pub none_open : HasNoOpenItem f
  pub all : f.next ≡ length f.items

-- The next item was taken.
abbrev pub with_taken : State → State
with_taken f = record f { next = f.next + 1 }

-- The open item was recorded, with what was sent.
abbrev pub with_recorded : OpenItem → List Parcel → State → State
with_recorded opened sends f = record f { here = record_of_open opened sends ∷ f.here }

-- No journal will come of the run.
abbrev pub with_mark : State → State
with_mark f = record f { marked = true }

-- The next tick begins.
abbrev pub after_tick : State → State
after_tick f =
    record f { tick = f.tick + 1; finished = records_of f; here = []; items = due f.scenario (f.tick + 1) (records_of f); next = 0 }

-- The finished ticks are ordered in this way, and what is due after them has become these items in this way.
abbrev pub IsBegunAs : (Scenario → ℕ → List Record → Type 0) → (List Item → List Item → Type 0)
    → Scenario → ℕ → List Record → List Item → Type 0
IsBegunAs Ordered AreDue s zero finished items = (finished ≡ []) × (items ≡ [])
IsBegunAs Ordered AreDue s (suc tick) finished items = Ordered s tick finished × AreDue (due s (suc tick) finished) items

-- What is due has become these items, in its order.
abbrev pub AreInOrder : List Item → List Item → Type 0
AreInOrder are_due items = items ≡ are_due

-- All is in the order of the schedule.
abbrev pub IsBegun : Scenario → ℕ → List Record → List Item → Type 0
IsBegun s tick finished items = IsBegunAs InOrderTo AreInOrder s tick finished items

-- What is due in a tick is in some order.
abbrev pub IsBegunInSomeOrder : Scenario → ℕ → List Record → List Item → Type 0
IsBegunInSomeOrder s tick finished items = IsBegunAs ScheduledTo IsPermutation s tick finished items

-- The records of the tick are the first of its items, in their order; at most one further item was taken.
pub record IsKeptRun (f : State) : Type 0 where
  pub playable : IsPlayable f.scenario
  pub in_run : f.tick ≤ f.scenario.ticks
  pub begun : IsBegun f.scenario f.tick f.finished f.items
  pub here : AllByRecursion (λ r. r.tick ≡ f.tick) f.here
  pub in_order : map item_of (reverse f.here) ≡ take (length f.here) f.items
  pub next : f.next ≤ length f.items
  pub least : length f.here ≤ f.next
  pub most : f.next ≤ length f.here + 1

-- The value of the code's network. All records, in memory or not, are one list, the oldest first, with this many before this tick.
abbrev pub state_of : Scenario → ℕ → ℕ → List Record → List Item → ℕ → Bool → State
state_of s tick before records items next marked = record {
  scenario = s;
  tick = tick;
  finished = reverse (take before records);
  here = reverse (drop before records);
  items = items;
  next = next;
  marked = marked;
}

-- The list has room for each item that was taken.
pub record HasRoom (f : State) (before room : ℕ) : Type 0 where
  pub reserved : before + f.next ≤ room
  pub few : before + f.next < 2 ^ 32

-- The calendar has what the finished ticks sent, and after a tick that could not begin a prefix of what this one sent.
pub record IsPosted (f : State) (c : Dates) : Type 0 where
  pub sent : List Posted
  pub rest : List Posted
  pub prefix : posted_by (reverse f.here) ≡ sent ++ rest
  pub stands : Represents f.scenario (posted_by_run f.finished ++ sent) f.tick c
  pub none : f.marked ≡ false → sent ≡ []

-- What the code keeps: while an item is open its record has a place, and the calendar has what was sent.
pub record IsHeld (f : State) (before room : ℕ) (records : List Record) (c : Dates) : Type 0 where
  pub kept : IsKeptRun f
  pub within : before ≤ length records
  pub few : length records < 2 ^ 32
  pub has_room : f.marked ≡ false → HasRoom f before room
  pub is_posted : IsPosted f c

-- These records of a run are in memory: all but the first ones, of which so many are gone. None of this tick is gone, and
-- none at all where the run keeps its records.
pub record IsInMemory (run records : List Record) (gone before : ℕ) (keeps : Bool) : Type 0 where
  pub rest : records ≡ drop gone run
  pub finished : gone ≤ before
  pub all : keeps ≡ true → gone ≡ 0

-- The state of a network with these records, so many of them of finished ticks, and these items, so many of them taken.
abbrev pub state_in : Ticks → ℕ → List Record → List Item → ℕ → State
state_in t before records items next = state_of t.scenario t.tick before records items next t.marked

-- A run that has not begun.
pub record HasNotBegun (s : Scenario) (t : Ticks) : Type 0 where
  pub state : state_in t 0 [] [] 0 ≡ start_state s
  pub stands : Represents s [] 0 t.calendar

-- The next tick began, after what was posted, and what is due in it has become these items in this way.
pub record HasBegunAs (AreDue : List Item → List Item → Type 0) (s : Scenario) (last : ℕ) (L : List Posted) (new : Ticks) (items : List Item) : Type 0 where
  pub scenario : new.scenario ≡ s
  pub tick : new.tick ≡ last + 1
  pub are_due : AreDue (calls (last + 1) 0 s.faults ++ (map (tick_item s (last + 1)) (actors_of s) ++ arrivals s (last + 1) [] L)) items
  pub unmarked : new.marked ≡ false
  pub stands : Represents s L (last + 1) new.calendar

-- Its items are in the order of the schedule.
abbrev pub HasBegun : Scenario → ℕ → List Posted → Ticks → List Item → Type 0
HasBegun s last L new items = HasBegunAs AreInOrder s last L new items
