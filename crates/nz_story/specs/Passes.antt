-- Helper definitions of passes.rt, which passes a parcel by the fault lines.
use Rattle.std.specs.Prelude.{ℕ, ◌+◌, Bool, false, ◌&&◌, ◌||◌, ◌==◌, List, [], length, map, filter}
use Rattle.nz_base.specs.declared.scenario.Fault.{Fault}
use Rattle.nz_base.specs.declared.scenario.Fault.TheVariants as faults
use Rattle.nz_machine.specs.declared.event.Parcel.{Parcel}
use Rattle.nz_machine.specs.runs.Schedule.{Delivery as DeliveryModel, is_parcel_of, is_blocked, deliveries_later, with_copy, cut_short}
use Rattle.nz_story.specs.declared.deliveries.Delivery.{Delivery}

-- A delivery as the definitions have it.
abbrev pub delivery_of : Delivery → DeliveryModel
delivery_of d = record { tick = d.tick; kept = d.kept }

-- All of them.
abbrev pub deliveries_in : List Delivery → List DeliveryModel
deliveries_in ds = map delivery_of ds

-- A delivery that comes later.
abbrev pub put_off : ℕ → Delivery → Delivery
put_off by d = record d { tick = d.tick + by }

-- The fault line names the parcel by its sender, its receiver and its kind.
abbrev pub names : Fault → Parcel → Bool
names (faults.Drop from to kind count) = is_parcel_of from to kind
names (faults.Hold from to kind count by) = is_parcel_of from to kind
names (faults.Twice from to kind count by) = is_parcel_of from to kind
names (faults.Cut from to kind count keep) = is_parcel_of from to kind
names _ = λ p. false

-- Which of the parcels that it names it strikes, counted from 1; 0 where it names none.
abbrev pub number_in : Fault → ℕ
number_in (faults.Drop from to kind count) = count
number_in (faults.Hold from to kind count by) = count
number_in (faults.Twice from to kind count by) = count
number_in (faults.Cut from to kind count keep) = count
number_in _ = 0

-- It blocks the parcel, which is sent in a tick.
abbrev pub blocks : ℕ → Parcel → Fault → Bool
blocks tick p (faults.Block from to first last) = is_blocked from to first last tick p
blocks tick p _ = false

-- How many of these parcels it names.
abbrev pub count_of : List Parcel → Fault → ℕ
count_of earlier line = length (filter (names line) earlier)

-- The same of each line.
abbrev pub counts_of : List Fault → List Parcel → List ℕ
counts_of lines earlier = map (count_of earlier) lines

-- It strikes the parcel of which it is known whether the line names it, after this many that it names.
abbrev pub strikes : ℕ → Parcel → Fault → ℕ → Bool
strikes tick p line count = (names line p && (count + 1 == number_in line)) || blocks tick p line

-- What it makes of the deliveries of a parcel that it strikes.
abbrev pub after_strike : Parcel → Fault → List DeliveryModel → List DeliveryModel
after_strike p (faults.Drop from to kind count) ds = []
after_strike p (faults.Hold from to kind count by) ds = deliveries_later by ds
after_strike p (faults.Twice from to kind count by) ds = with_copy by ds
after_strike p (faults.Cut from to kind count keep) ds = cut_short keep (length p.frame) ds
after_strike p (faults.Block from to first last) ds = []
after_strike p _ ds = ds
