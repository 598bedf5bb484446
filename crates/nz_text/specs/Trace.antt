-- The trace of a run: a line for each record.
use Rattle.std.specs.Prelude.{ℕ, List, ◌++◌, length, reverse, codes}
use Rattle.std.specs.Fmt.{decimal}
use Rattle.std.specs.List.{flat_map}
use Rattle.nz_script.specs.Texts.{actor_text, kind_text}
use Rattle.nz_machine.specs.declared.event.Event.{Event}
use Rattle.nz_machine.specs.declared.event.Event.TheVariants.{Deliver, Cut, Tick, Alarm, Crash, Restart}
use Rattle.nz_machine.specs.declared.event.Parcel.{Parcel}
use Rattle.nz_machine.specs.declared.event.Record.{Record}
use Rattle.nz_machine.specs.runs.Schedule.{kind_in_frame}

-- The kind of a parcel's message, and its sender. What is no frame has no name.
abbrev pub parcel_text : Parcel → List ℕ
parcel_text p = kind_text (kind_in_frame p.frame) ++ (codes " " ++ actor_text p.from)

-- What happened, with the clock's reading, how many bytes came, or the nonce.
abbrev pub what_text : Event → List ℕ
what_text (Deliver p) = codes "deliver " ++ parcel_text p
what_text (Cut kept p) = codes "cut " ++ (parcel_text p ++ (codes " " ++ decimal kept))
what_text (Tick clock) = codes "tick " ++ decimal clock
what_text Alarm = codes "alarm"
what_text Crash = codes "crash"
what_text (Restart nonce) = codes "restart " ++ decimal nonce

-- How many parcels were sent.
abbrev pub sends_text : List Parcel → List ℕ
sends_text sends = codes " -> " ++ (decimal (length sends) ++ codes "\n")

-- The tick, the actor, what happened to it, and how many parcels it sent.
abbrev pub record_line : Record → List ℕ
record_line r = decimal r.tick ++ (codes " " ++ (actor_text r.actor ++ (codes " " ++ (what_text r.event ++ sends_text r.sends))))

-- The lines of the records, the oldest first.
abbrev pub trace : List Record → List ℕ
trace J = flat_map record_line (reverse J)
