-- What contracts see of the network of several threads, and what it keeps.
use Rattle.std.specs.Prelude.{◌≡◌, ◌⊎◌, ℕ, ◌+◌, ◌≤◌, ◌<◌, ◌^◌, ◌==◌, Bool, false, List, [], ◌∷◌, ◌++◌, length}
use Rattle.std.specs.Prelude.{map, take, drop, reverse, get_or, unwrap_or, IsPermutation, MatchBool}
use Rattle.std.specs.Prelude.{Option, Result, MatchOption, MatchResult}
use Rattle.std.specs.List.{AllByRecursion, flat_map, remove, position, take_while}
use Rattle.nz_base.specs.Actor.{actor_eq}
use Rattle.nz_base.specs.declared.actor.Actor.{Actor}
use Rattle.nz_base.specs.declared.actor.Actor.TheVariants.{Replica}
use Rattle.nz_base.specs.declared.limits.TheConstants.{MAX_WORKERS}
use Rattle.nz_base.specs.declared.scenario.Scenario.{Scenario}
use Rattle.nz_machine.specs.declared.event.Event.{Event}
use Rattle.nz_machine.specs.declared.event.Event.TheVariants.{Alarm, Deliver, Cut}
use Rattle.nz_machine.specs.declared.event.Parcel.{Parcel}
use Rattle.nz_machine.specs.declared.event.Record.{Record}
use Rattle.nz_machine.specs.declared.journal.Item.{Item}
use Rattle.nz_machine.specs.journals.Records.{Recorded}
use Rattle.nz_machine.specs.runs.Schedule.{item, item_of, IsPlayable}
use Rattle.nz_fabric.specs.declared.threads.batch.Batch.{Batch}
use Rattle.nz_fabric.specs.declared.schedule.ticks.Ticks.{Ticks}
use Rattle.nz_fabric.specs.threads.Takes.{Batches, no_batch}
use Rattle.nz_fabric.specs.schedule.Agendas.{Progress}
use Rattle.nz_fabric.specs.schedule.Calendars.{Dates}
use Rattle.nz_fabric.specs.alone.States.{State, start_state, state_of, IsPosted, with_mark, after_tick, IsBegunInSomeOrder}
use Rattle.nz_fabric.specs.threads.Steps.{batch_records, step_of}

-- The run; the batches that are open: they were taken, and neither recorded nor given up; and how many were taken in all.
pub record Shared : Type 0 where
  pub run : State
  pub running : List Batch
  pub taken : ℕ

-- A run with its open batches, and how many were taken.
abbrev pub shared_with : State → List Batch → ℕ → Shared
shared_with run running taken = record { run = run; running = running; taken = taken }

-- This many of the ledger's parts, with this many open batches on them.
pub record Holding : Type 0 where
  pub parts : ℕ
  pub amount : ℕ

-- All parts of the ledger, with no open batch on them.
abbrev pub IsWhole : Holding → Type 0
IsWhole share = (share.parts ≡ MAX_WORKERS) × (share.amount ≡ 0)

-- A batch on the share was closed: recorded or given up.
abbrev pub ClosesBatch : Holding → Holding → Type 0
ClosesBatch old new = (new.amount + 1 ≡ old.amount) × (new.parts ≡ old.parts)

-- A batch on the share was closed, and where another was taken it is on the share.
abbrev pub ClosesAndTakes : {B E : Type 0} → Result (Option B) E → Holding → Holding → Type 0
ClosesAndTakes taken old new = MatchResult taken (λ next. MatchOption next (ClosesBatch old new) (λ _. new ≡ old)) (λ _. ClosesBatch old new)

-- A scenario without actors.
abbrev pub no_scenario : Scenario
no_scenario = record { cluster = 1; proxies = 0; clients = 0; window = 0; ticks = 0; skews = []; scripts = []; faults = [] }

-- Before the first tick nothing is due.
abbrev pub start_shared : Scenario → Shared
start_shared s = shared_with (start_state s) [] 0

-- How many bytes an event brings.
abbrev pub bytes_of : Event → ℕ
bytes_of (Deliver p) = length p.frame
bytes_of (Cut kept p) = kept
bytes_of _ = 0

-- The items of a batch.
abbrev pub items_of : Batch → List Item
items_of b = map (item b.actor) b.events

-- The first items, as long as they are of this actor.
abbrev pub run_of : Actor → List Item → List Item
run_of a items = take_while (λ i. actor_eq i.actor a) items

-- The next batch: the next item, and all items after it of the same actor. Batches are numbered from 1 on, as they are taken.
pub record IsNextOf (f : Shared) (b : Batch) : Type 0 where
  pub unmarked : f.run.marked ≡ false
  pub number : b.number ≡ f.taken + 1
  pub some : 0 < length b.events
  pub items : items_of b ≡ run_of b.actor (drop f.run.next f.run.items)
  pub within : f.run.next + length b.events ≤ length f.run.items

-- The batch was taken, and is open.
abbrev pub with_opened : Batch → Shared → Shared
with_opened b f = shared_with (record f.run { next = f.run.next + length b.events }) (f.running ++ b ∷ []) (f.taken + 1)

-- Nothing was taken; or some next items were, which nobody does, and no further one is given.
abbrev pub IsLost : Shared → Shared → Type 0
IsLost old new = (new ≡ old) ⊎ ((count : ℕ) × (new ≡ shared_with (with_mark (record old.run { next = old.run.next + count })) old.running old.taken))

-- The place of the open batch that a number names: that of the number, or else the oldest.
abbrev pub place_of_batch : ℕ → List Batch → ℕ
place_of_batch number running = unwrap_or (position (λ b. b.number == number) running) 0

-- The open batch that a number names.
abbrev pub batch_for : ℕ → List Batch → Batch
batch_for number running = get_or running (place_of_batch number running) no_batch

-- It is no longer open.
abbrev pub without_batch : ℕ → List Batch → List Batch
without_batch number running = remove running (place_of_batch number running)

-- These records were added, the oldest first.
abbrev pub with_records : List Record → State → State
with_records steps f = record f { here = reverse steps ++ f.here }

-- The open batch that the number names is recorded with these sends, those of one event after another.
abbrev pub with_record : ℕ → List (List Parcel) → Shared → Shared
with_record number sends f =
    let b = batch_for number f.running in
    record f { run = with_records (batch_records f.run.tick b.actor b.events sends) f.run; running = without_batch number f.running }

-- It is given up.
abbrev pub with_given_up : ℕ → Shared → Shared
with_given_up number f = record f { run = with_mark f.run; running = without_batch number f.running }

-- It is given up, and records of the tick may have been added: where another network of this name adds one of its own
-- while the batch is recorded, some first records of the batch are left.
abbrev pub IsGivenUp : ℕ → Shared → Shared → Type 0
IsGivenUp number old new = let f = with_given_up number old in new ≡ record f { run = record f.run { here = new.run.here } }

-- What is read where no item is left.
abbrev pub no_item : Item
no_item = item (Replica 0) Alarm

-- The next item, the first that was not taken.
abbrev pub next_item : Shared → Item
next_item f = get_or f.run.items f.run.next no_item

-- The run goes on, and there is a next item.
pub record HasNext (f : Shared) : Type 0 where
  pub unmarked : f.run.marked ≡ false
  pub some : f.run.next < length f.run.items

-- The record of the next item, with these sends.
abbrev pub next_record : List Parcel → Shared → Record
next_record sends f = let i = next_item f in step_of f.run.tick i.actor i.event sends

-- The next item is taken, and at once recorded with these sends.
abbrev pub with_next : List Parcel → Shared → Shared
with_next sends f = record f { run = record f.run { next = f.run.next + 1; here = next_record sends f ∷ f.run.here } }

-- No further item is given.
abbrev pub with_stop : Shared → Shared
with_stop f = record f { run = with_mark f.run }

-- The next item was recorded, with some sends; or it was not, and no further one is given.
abbrev pub PlaysNext : Bool → Shared → Shared → Type 0
PlaysNext recorded old new = MatchBool recorded (HasNext old × (sends : List Parcel) × (new ≡ with_next sends old)) (new ≡ with_stop old)

-- All that is due in the tick was recorded.
pub record IsOver (f : Shared) : Type 0 where
  pub unmarked : f.run.marked ≡ false
  pub none : f.running ≡ []
  pub all : f.run.next ≡ length f.run.items

-- All that is due in the tick was taken, and some of it is still to be recorded.
pub record MustWait (f : Shared) : Type 0 where
  pub unmarked : f.run.marked ≡ false
  pub some : 0 < length f.running
  pub all : f.run.next ≡ length f.run.items

-- The next tick begins, with these items.
abbrev pub after_shared : List Item → Shared → Shared
after_shared items f = shared_with (record (after_tick f.run) { items = items }) [] f.taken

-- The next tick began, and what is due in it is in some order.
pub record IsNextTick (old new : Shared) : Type 0 where
  pub begun : new ≡ after_shared new.run.items old
  pub items : IsPermutation (after_tick old.run).items new.run.items

-- The finished ticks are scheduled, and what is due in this one is in some order. The records of this tick, the open
-- batches and what was given up are the first of its items, each once. What is given up marks the run.
pub record IsAccounted (s : Scenario) (f : Shared) : Type 0 where
  pub scenario : f.run.scenario ≡ s
  pub playable : IsPlayable f.run.scenario
  pub in_run : f.run.tick ≤ f.run.scenario.ticks
  pub begun : IsBegunInSomeOrder f.run.scenario f.run.tick f.run.finished f.run.items
  pub here : AllByRecursion (λ r. r.tick ≡ f.run.tick) f.run.here
  pub next : f.run.next ≤ length f.run.items
  pub given_up : List Item
  pub each_once : IsPermutation (take f.run.next f.run.items) ((given_up ++ flat_map items_of f.running) ++ map item_of f.run.here)
  pub all_kept : f.run.marked ≡ false → given_up ≡ []

-- The network as its code has it: the tick and the calendar, the records with their room, how many there were before this
-- tick, what is due, the open batches, and how many of these the ledger counts.
pub record Booking : Type 0 where
  pub scenario : Scenario
  pub tick : ℕ
  pub marked : Bool
  pub calendar : Dates
  pub before : ℕ
  pub records : Recorded
  pub agenda : Progress
  pub batches : Batches
  pub total : ℕ

-- These parts of the network.
abbrev pub booking_of : Ticks → ℕ → Recorded → Progress → Batches → ℕ → Booking
booking_of t before records agenda batches total = record {
  scenario = t.scenario;
  tick = t.tick;
  marked = t.marked;
  calendar = t.calendar;
  before = before;
  records = records;
  agenda = agenda;
  batches = batches;
  total = total;
}

-- What contracts see of them.
abbrev pub shared_of : Booking → Shared
shared_of k =
    shared_with (state_of k.scenario k.tick k.before k.records.records k.agenda.items k.agenda.next k.marked) k.batches.running k.batches.taken

-- What the code keeps: the journal has a place for each item that was taken, the ledger counts the open batches, and the
-- calendar has what was sent.
pub record IsBooked (s : Scenario) (k : Booking) : Type 0 where
  pub accounted : IsAccounted s (shared_of k)
  pub within : k.before ≤ length k.records.records
  pub few : k.before + k.agenda.next < 2 ^ 32
  pub reserved : k.before + k.agenda.next ≤ k.records.room
  pub is_posted : IsPosted (shared_of k).run k.calendar
  pub booked : k.total ≡ length k.batches.running
