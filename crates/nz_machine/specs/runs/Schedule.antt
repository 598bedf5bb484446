-- The schedule: what is due in each tick of a scenario, and which runs keep to it.
use Rattle.std.specs.Prelude.{ℕ, zero, suc, ◌≡◌, ◌+◌, ◌-◌, ◌*◌, ◌≤◌, min, Bool, true, false, ◌&&◌, ◌==◌, if◌then◌else◌, List, [], ◌∷◌}
use Rattle.std.specs.Prelude.{◌++◌, length, map, filter, reverse, Option, Some, None, ℤ, pos, negsuc, slice_index, IsPermutation}
use Rattle.std.specs.List.{AllByRecursion}
use Rattle.nz_base.specs.Actor.{actor_eq, is_within}
use Rattle.nz_base.specs.Cluster.{replica_count}
use Rattle.nz_base.specs.declared.actor.Actor.{Actor}
use Rattle.nz_base.specs.declared.actor.Actor.TheVariants.{Replica, Proxy, Client}
use Rattle.nz_base.specs.declared.scenario.Skew.{Skew}
use Rattle.nz_base.specs.declared.scenario.Fault.{Fault}
use Rattle.nz_base.specs.declared.scenario.Fault.TheVariants as faults
use Rattle.nz_base.specs.declared.scenario.Scenario.{Scenario}
use Rattle.nz_base.specs.declared.limits.TheConstants.{MAX_CLOCK, MAX_TICKS, MAX_FAULTS, UNITS_PER_TICK}
use Rattle.nz_frame.specs.Refusal.{refusal}
use Rattle.nz_frame.specs.declared.refusal.FrameRefusal.{FrameRefusal}
use Rattle.nz_machine.specs.declared.event.Event.{Event}
use Rattle.nz_machine.specs.declared.event.Event.TheVariants.{Deliver, Cut, Tick, Alarm, Crash, Restart}
use Rattle.nz_machine.specs.declared.event.Parcel.{Parcel}
use Rattle.nz_machine.specs.declared.event.Record.{Record}
use Rattle.nz_machine.specs.declared.journal.Item.{Item}
use Rattle.nz_machine.specs.rules.State.{Group}
use Rattle.nz_machine.specs.rules.Replicas.{numbers_below}
use Rattle.nz_machine.specs.runs.World.{IsGroup, IsMember}

-- Who runs in a scenario.
abbrev pub group_of : Scenario → Group
group_of s = record { f = s.cluster; proxies = s.proxies; window = s.window; scripts = s.scripts }

-- An event of an actor.
abbrev pub item : Actor → Event → Item
item a e = record { actor = a; event = e }

-- ---- crashes, restarts and alarms

-- The item, if its tick is this one.
abbrev pub if_in : ℕ → ℕ → Item → List Item
if_in tick t i = if t == tick then i ∷ [] else []

-- Those of a tick, in the order of the fault lines. Each restart has a nonce of its own: how many restart
-- lines there are up to and with its line.
abbrev pub calls : ℕ → ℕ → List Fault → List Item
calls tick restarts [] = []
calls tick restarts (faults.Crash a t ∷ lines) = if_in tick t (item a Crash) ++ calls tick restarts lines
calls tick restarts (faults.Restart a t ∷ lines) = if_in tick t (item a (Restart (restarts + 1))) ++ calls tick (restarts + 1) lines
calls tick restarts (faults.Alarm a t ∷ lines) = if_in tick t (item a Alarm) ++ calls tick restarts lines
calls tick restarts (_ ∷ lines) = calls tick restarts lines

-- ---- clocks

-- The units of a clock that is fast or slow by this many. None reads less than 0.
abbrev pub clock_with_skew : ℕ → ℤ → ℕ
clock_with_skew units (pos n) = units + n
clock_with_skew units (negsuc n) = units - suc n

-- How far the actor's clock is ahead.
abbrev pub skew_of : Actor → List Skew → ℤ
skew_of a [] = pos 0
skew_of a (s ∷ skews) = if actor_eq s.actor a then s.units else skew_of a skews

-- An actor's clock in a tick, with its skew.
abbrev pub clock_at : Scenario → ℕ → Actor → ℕ
clock_at s tick a = min (clock_with_skew (UNITS_PER_TICK * tick) (skew_of a s.skews)) MAX_CLOCK

-- Replicas, proxies and clients, each by number.
abbrev pub actors_of : Scenario → List Actor
actors_of s = map Replica (numbers_below (replica_count s.cluster)) ++ (map Proxy (numbers_below s.proxies) ++ map Client (numbers_below s.clients))

-- The clock of an actor in a tick.
abbrev pub tick_item : Scenario → ℕ → Actor → Item
tick_item s tick a = item a (Tick (clock_at s tick a))

-- ---- deliveries

-- When a parcel comes, and how many bytes of it, where not all of them come.
pub record Delivery : Type 0 where
  pub tick : ℕ
  pub kept : Option ℕ

-- The whole parcel comes in this tick.
abbrev pub whole_in : ℕ → Delivery
whole_in tick = record { tick = tick; kept = None }

-- The delivery comes so much later.
abbrev pub delivery_later : ℕ → Delivery → Delivery
delivery_later by d = record d { tick = d.tick + by }

-- Every delivery comes later.
abbrev pub deliveries_later : ℕ → List Delivery → List Delivery
deliveries_later by ds = map (delivery_later by) ds

-- A whole copy comes so much later than the first delivery.
abbrev pub with_copy : ℕ → List Delivery → List Delivery
with_copy by [] = []
with_copy by (d ∷ ds) = d ∷ (ds ++ whole_in (d.tick + by) ∷ [])

-- Of the first delivery this many bytes come, and never all of them.
abbrev pub cut_short : ℕ → ℕ → List Delivery → List Delivery
cut_short keep len [] = []
cut_short keep len (d ∷ ds) = record d { kept = Some (min keep (len - 1)) } ∷ ds

-- The kind in a frame that is not refused.
abbrev pub kind_if : List ℕ → Option FrameRefusal → Option ℕ
kind_if frame None = Some (slice_index frame 5)
kind_if frame (Some refusal) = None

-- The kind of the message in a frame. What is no frame has none.
abbrev pub kind_in_frame : List ℕ → Option ℕ
kind_in_frame frame = kind_if frame (refusal frame)

-- Whether a kind is the one that a fault line names.
abbrev pub has_kind : ℕ → Option ℕ → Bool
has_kind kind None = false
has_kind kind (Some k) = k == kind

-- A parcel of this kind from the one actor to the other.
abbrev pub is_parcel_of : Actor → Actor → ℕ → Parcel → Bool
is_parcel_of from to kind p = actor_eq p.from from && (actor_eq p.to to && has_kind kind (kind_in_frame p.frame))

-- It is the one with this number among the parcels of that kind, counted from 1, when those were sent earlier.
abbrev pub is_nth : Actor → Actor → ℕ → ℕ → List Parcel → Parcel → Bool
is_nth from to kind count earlier p = is_parcel_of from to kind p && (length (filter (is_parcel_of from to kind) earlier) + 1 == count)

-- Whom an end of a block names: one actor, or everyone.
abbrev pub is_named : Option Actor → Actor → Bool
is_named None a = true
is_named (Some b) a = actor_eq b a

-- What is sent from here to there in these ticks is blocked.
abbrev pub is_blocked : Option Actor → Option Actor → ℕ → ℕ → ℕ → Parcel → Bool
is_blocked from to first last tick p = is_named from p.from && (is_named to p.to && is_within first last tick)

-- What a fault line makes of the deliveries of a parcel that is sent in a tick after earlier parcels.
abbrev pub after_fault : ℕ → List Parcel → Parcel → Fault → List Delivery → List Delivery
after_fault tick earlier p (faults.Drop from to kind count) ds = if is_nth from to kind count earlier p then [] else ds
after_fault tick earlier p (faults.Hold from to kind count by) ds = if is_nth from to kind count earlier p then deliveries_later by ds else ds
after_fault tick earlier p (faults.Twice from to kind count by) ds = if is_nth from to kind count earlier p then with_copy by ds else ds
after_fault tick earlier p (faults.Cut from to kind count keep) ds = if is_nth from to kind count earlier p then cut_short keep (length p.frame) ds else ds
after_fault tick earlier p (faults.Block from to first last) ds = if is_blocked from to first last tick p then [] else ds
after_fault tick earlier p _ ds = ds

-- The lines in the order of the file, each on what those before it left.
abbrev pub after_faults : ℕ → List Parcel → Parcel → List Fault → List Delivery → List Delivery
after_faults tick earlier p [] ds = ds
after_faults tick earlier p (line ∷ lines) ds = after_faults tick earlier p lines (after_fault tick earlier p line ds)

-- A parcel comes once and whole in the tick after the one it was sent in, but for the faults.
abbrev pub deliveries : Scenario → ℕ → List Parcel → Parcel → List Delivery
deliveries s tick earlier p = after_faults tick earlier p s.faults (whole_in (tick + 1) ∷ [])

-- A parcel comes whole, or this many bytes of it.
abbrev pub delivery_event : Parcel → Option ℕ → Event
delivery_event p None = Deliver p
delivery_event p (Some kept) = Cut kept p

-- The delivery as an event of the receiver.
abbrev pub delivery_item : Parcel → Delivery → Item
delivery_item p d = item p.to (delivery_event p d.kept)

-- The deliveries of a parcel that are due in a tick.
abbrev pub due_of : ℕ → Parcel → List Delivery → List Item
due_of tick p ds = map (delivery_item p) (filter (λ d. d.tick == tick) ds)

-- A parcel, and the tick in which it was sent.
pub record Posted : Type 0 where
  pub tick : ℕ
  pub parcel : Parcel

-- The parcel, sent in this tick.
abbrev pub posted_in : ℕ → Parcel → Posted
posted_in tick p = record { tick = tick; parcel = p }

-- What a run sent, the oldest first.
abbrev pub posted_by_run : List Record → List Posted
posted_by_run [] = []
posted_by_run (r ∷ J) = posted_by_run J ++ map (posted_in r.tick) r.sends

-- What of it comes in a tick, by the order of sending and then of the copies. `earlier` was sent before all of it.
abbrev pub arrivals : Scenario → ℕ → List Parcel → List Posted → List Item
arrivals s tick earlier [] = []
arrivals s tick earlier (x ∷ xs) = due_of tick x.parcel (deliveries s x.tick earlier x.parcel) ++ arrivals s tick (earlier ++ x.parcel ∷ []) xs

-- ---- the schedule

-- What is due in a tick, by the records of the ticks before it: crashes, restarts and alarms, then every
-- clock, then what arrives.
abbrev pub due : Scenario → ℕ → List Record → List Item
due s tick J = calls tick 0 s.faults ++ (map (tick_item s tick) (actors_of s) ++ arrivals s tick [] (posted_by_run J))

-- What a record is of: its actor and its event.
abbrev pub item_of : Record → Item
item_of r = item r.actor r.event

-- The records of a tick, the newest first, come before those of earlier ticks. They are what is due, in its order.
pub record IsTick (s : Scenario) (tick : ℕ) (now older J : List Record) : Type 0 where
  pub whole : J ≡ now ++ older
  pub here : AllByRecursion (λ r. r.tick ≡ tick) now
  pub items : map item_of (reverse now) ≡ due s tick older

-- The same, in any order, each item once.
pub record IsTickInSomeOrder (s : Scenario) (tick : ℕ) (now older J : List Record) : Type 0 where
  pub whole : J ≡ now ++ older
  pub here : AllByRecursion (λ r. r.tick ≡ tick) now
  pub items : IsPermutation (due s tick older) (map item_of (reverse now))

-- The run has the ticks up to this one, and the records of each are what is due in it, in its order.
abbrev pub InOrderTo : Scenario → ℕ → List Record → Type 0
InOrderTo s zero J = J ≡ []
InOrderTo s (suc tick) J = (now : List Record) × ((older : List Record) × (IsTick s (suc tick) now older J × InOrderTo s tick older))

-- The same, but those of a tick are in any order.
abbrev pub ScheduledTo : Scenario → ℕ → List Record → Type 0
ScheduledTo s zero J = J ≡ []
ScheduledTo s (suc tick) J = (now : List Record) × ((older : List Record) × (IsTickInSomeOrder s (suc tick) now older J × ScheduledTo s tick older))

-- The run has all ticks of the scenario, each in its order.
abbrev pub InOrder : Scenario → List Record → Type 0
InOrder s J = InOrderTo s s.ticks J

-- The run has all ticks of the scenario, each in some order.
abbrev pub Scheduled : Scenario → List Record → Type 0
Scheduled s J = ScheduledTo s s.ticks J

-- ---- which scenarios can be run

-- Who crashes, restarts or is alarmed takes part.
abbrev pub NamesMember : Scenario → Fault → Type 0
NamesMember s (faults.Crash a t) = IsMember (group_of s) a
NamesMember s (faults.Restart a t) = IsMember (group_of s) a
NamesMember s (faults.Alarm a t) = IsMember (group_of s) a
NamesMember s _ = Unit {0}

-- Its actors are a group, each client has a script, its ticks and its fault lines are within their limits, and its
-- faults are of its actors.
pub record IsPlayable (s : Scenario) : Type 0 where
  pub group : IsGroup (group_of s)
  pub scripts : length s.scripts ≡ s.clients
  pub ticks : s.ticks ≤ MAX_TICKS
  pub faults : length s.faults ≤ MAX_FAULTS
  pub members : AllByRecursion (NamesMember s) s.faults
