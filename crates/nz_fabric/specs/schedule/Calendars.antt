-- What a calendar says of what was sent: how many parcels, how many of each sender, receiver and kind that a fault line
-- names, which fault lines may strike them, and what is to come in each tick.
use Rattle.std.specs.Prelude.{◌≡◌, ℕ, ◌+◌, ◌-◌, ◌*◌, ◌^◌, ◌<◌, ◌≤◌, ◌==◌, ◌&&◌, min, Bool, true, false, Option, None, Some, MatchOption, IfSome, if◌then◌else◌}
use Rattle.std.specs.Prelude.{List, [], ◌∷◌, ◌++◌, length, map, filter, get_or}
use Rattle.std.specs.List.{list_any}
use Rattle.std.specs.Map.{lookup}
use Rattle.std.specs.Option.{option_map_or}
use Rattle.nz_base.specs.Actor.{actor_eq}
use Rattle.nz_base.specs.declared.actor.Actor.{Actor}
use Rattle.nz_base.specs.declared.actor.Actor.TheVariants.{Replica, Proxy, Client}
use Rattle.nz_base.specs.declared.scenario.Fault.{Fault}
use Rattle.nz_base.specs.declared.scenario.Fault.TheVariants as faults
use Rattle.nz_base.specs.declared.scenario.Scenario.{Scenario}
use Rattle.nz_machine.specs.declared.event.Parcel.{Parcel}
use Rattle.nz_machine.specs.declared.event.Record.{Record}
use Rattle.nz_machine.specs.declared.journal.Item.{Item}
use Rattle.nz_machine.specs.runs.Schedule.{Posted, is_parcel_of, is_named, posted_in, arrivals}
use Rattle.nz_fabric.specs.declared.schedule.course.Course.{Course}
use Rattle.nz_fabric.specs.declared.schedule.course.Traffic.{Traffic}
use Rattle.nz_fabric.specs.schedule.Numbered.{items_under}

-- The number of parcels, the fault lines, the traffic of each course, and the items of each tick from 0 on.
pub record Dates : Type 0 where
  pub parcels : ℕ
  pub watched : List Fault
  pub courses : List (Course × Traffic)
  pub days : List (List Item)

-- The number of an actor among all that there can be: each has one of its own.
abbrev pub number_in_all : Actor → ℕ
number_in_all (Replica n) = 3 * n
number_in_all (Proxy n) = 3 * n + 1
number_in_all (Client n) = 3 * n + 2

-- The course of a sender, a receiver and a kind.
abbrev pub course : Actor → Actor → ℕ → Course
course from to kind = record { from = number_in_all from; to = number_in_all to; kind = kind }

-- The same sender, receiver and kind.
abbrev pub course_eq : Course → Course → Bool
course_eq a b = (a.from == b.from) && ((a.to == b.to) && (a.kind == b.kind))

-- What is kept of a course, if a parcel of it was counted.
abbrev pub traffic_on : List (Course × Traffic) → Course → Option Traffic
traffic_on courses c = lookup (course_eq c) courses

-- What is kept of the course of a parcel whose frame has this kind. A frame of no kind has no course.
abbrev pub traffic_of : List (Course × Traffic) → Parcel → Option ℕ → Option Traffic
traffic_of courses p None = None
traffic_of courses p (Some k) = traffic_on courses (course p.from p.to k)

-- How many parcels of a course are counted in its traffic.
abbrev pub count_in : Option Traffic → ℕ
count_in traffic = option_map_or (λ t. t.count) traffic 0

-- How many parcels of a course are counted.
abbrev pub count_of : List (Course × Traffic) → Course → ℕ
count_of courses c = count_in (traffic_on courses c)

-- The number of a course's next parcel, counted from 1.
abbrev pub next_number : Option Traffic → ℕ
next_number traffic = min (count_in traffic + 1) (2 ^ 64 - 1)

-- A fault line that names the second sender, receiver and kind is about parcels of the first.
abbrev pub is_about : Actor → Actor → ℕ → Actor → Actor → ℕ → Bool
is_about from to kind a b k = actor_eq from a && (actor_eq to b && (kind == k))

-- Whether a fault line may strike a parcel of this kind from the one actor to the other.
abbrev pub may_strike : Actor → Actor → ℕ → Fault → Bool
may_strike from to kind (faults.Drop a b k count) = is_about from to kind a b k
may_strike from to kind (faults.Hold a b k count by) = is_about from to kind a b k
may_strike from to kind (faults.Twice a b k count by) = is_about from to kind a b k
may_strike from to kind (faults.Cut a b k count keep) = is_about from to kind a b k
may_strike from to kind (faults.Block a b first last) = is_named a from && is_named b to
may_strike from to kind _ = false

-- A fault line that names no parcel, and blocks what is sent in some ticks.
abbrev pub is_block : Fault → Bool
is_block (faults.Block a b first last) = true
is_block _ = false

-- Whether a fault line names the parcel of this number.
abbrev pub names : ℕ → Fault → Bool
names n (faults.Drop a b k count) = count == n
names n (faults.Hold a b k count by) = count == n
names n (faults.Twice a b k count by) = count == n
names n (faults.Cut a b k count keep) = count == n
names n _ = false

-- Whether a fault line may strike some parcel of this kind. A block may strike each.
abbrev pub may_strike_kind : ℕ → Fault → Bool
may_strike_kind kind (faults.Drop a b k count) = kind == k
may_strike_kind kind (faults.Hold a b k count by) = kind == k
may_strike_kind kind (faults.Twice a b k count by) = kind == k
may_strike_kind kind (faults.Cut a b k count keep) = kind == k
may_strike_kind kind (faults.Block a b first last) = true
may_strike_kind kind _ = false

-- Whether some of these lines may. Parcels of other kinds are not counted.
abbrev pub is_watched : List Fault → ℕ → Bool
is_watched lines kind = list_any (may_strike_kind kind) lines

-- Each kind has a mark exactly where it is watched.
abbrev pub AreMarked : List Fault → List Bool → Type 0
AreMarked lines marks = (kind : ℕ) → kind < 256 → get_or marks kind false ≡ is_watched lines kind

-- The kind by which a parcel is counted, if its frame has a kind that is watched.
abbrev pub counted_kind : List Fault → Option ℕ → Option ℕ
counted_kind lines None = None
counted_kind lines (Some k) = if is_watched lines k then Some k else None

-- These fault lines are kept: the blocks, and under each number the lines that name it, each list in their order.
pub record HasLines (lines : List Fault) (t : Traffic) : Type 0 where
  pub blocks : t.blocks ≡ filter is_block lines
  pub named : (n : ℕ) → items_under t.named n ≡ filter (names n) lines

-- Those that may strike the parcel of a number.
abbrev pub lines_at : ℕ → Traffic → List Fault
lines_at n t = t.blocks ++ items_under t.named n

-- One more is counted of a parcel's course, and of these fault lines those that may strike it are kept. What is kept of
-- every other course stays.
pub record IsOneMore (lines : List Fault) (before after : List (Course × Traffic)) (p : Parcel) (kind : ℕ) : Type 0 where
  pub traffic : Traffic
  pub count : traffic.count ≡ next_number (traffic_on before (course p.from p.to kind))
  pub kept : HasLines (filter (may_strike p.from p.to kind) lines) traffic
  pub courses : (c : Course) → traffic_on after c ≡ (if course_eq (course p.from p.to kind) c then Some traffic else traffic_on before c)

-- A parcel is counted, where it has a kind by which it is.
abbrev pub IsCounted : List Fault → List (Course × Traffic) → List (Course × Traffic) → Parcel → Option ℕ → Type 0
IsCounted lines before after p k = MatchOption k (after ≡ before) (IsOneMore lines before after p)

-- The items of a tick.
abbrev pub items_in : List (List Item) → ℕ → List Item
items_in days tick = get_or days tick []

-- The parcels alone.
abbrev pub parcels_of : List Posted → List Parcel
parcels_of L = map (λ x. x.parcel) L

-- What some records sent, the oldest first.
abbrev pub posted_by : List Record → List Posted
posted_by [] = []
posted_by (r ∷ rs) = map (posted_in r.tick) r.sends ++ posted_by rs

-- Of each course of which something is kept, those of the fault lines that may strike it are kept.
abbrev pub KeepsLines : List Fault → List (Course × Traffic) → Type 0
KeepsLines lines courses =
    (from to : Actor) (kind : ℕ) → IfSome (traffic_on courses (course from to kind)) (HasLines (filter (may_strike from to kind) lines))

-- The calendar counts these parcels where a fault line may strike their kind, keeps of each course the fault lines that
-- may strike it, and has of each later tick what the schedule says of the parcels.
pub record Represents (s : Scenario) (L : List Posted) (now : ℕ) (c : Dates) : Type 0 where
  pub parcels : c.parcels ≡ length L
  pub watched : c.watched ≡ s.faults
  pub counts : (from to : Actor) (kind : ℕ) → is_watched s.faults kind ≡ true
      → count_of c.courses (course from to kind) ≡ length (filter (is_parcel_of from to kind) (parcels_of L))
  pub lines : KeepsLines s.faults c.courses
  pub items : (t : ℕ) → now < t → t ≤ s.ticks → items_in c.days t ≡ arrivals s t [] L

-- Before the first parcel, with these fault lines.
abbrev pub no_dates : List Fault → Dates
no_dates lines = record { parcels = 0; watched = lines; courses = []; days = [] }

-- After some parcels a prefix of these was posted.
pub record HasPosted (s : Scenario) (L all : List Posted) (now : ℕ) (c : Dates) : Type 0 where
  pub sent : List Posted
  pub rest : List Posted
  pub prefix : all ≡ sent ++ rest
  pub stands : Represents s (L ++ sent) now c
