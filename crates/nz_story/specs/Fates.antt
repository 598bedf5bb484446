-- What becomes of a parcel that is sent, and the line that shows it.
use Rattle.std.specs.Prelude.{ℕ, List, [], ◌∷◌, ◌++◌, Option, Some, None, codes}
use Rattle.std.specs.Fmt.{decimal}
use Rattle.std.specs.List.{flat_map}
use Rattle.nz_base.specs.declared.scenario.Scenario.{Scenario}
use Rattle.nz_script.specs.Texts.{actor_text, kind_text}
use Rattle.nz_msg.specs.Envelope.{decode_of}
use Rattle.nz_machine.specs.declared.event.Parcel.{Parcel}
use Rattle.nz_machine.specs.declared.event.Record.{Record}
use Rattle.nz_machine.specs.runs.Schedule.{Delivery, deliveries, kind_in_frame}
use Rattle.nz_story.specs.Fields.{contents_text}

-- How many bytes come, where not all of them do.
abbrev pub cut_text : Option ℕ → List ℕ
cut_text None = []
cut_text (Some kept) = codes " cut " ++ decimal kept

-- When a parcel comes, and how much of it.
abbrev pub delivery_text : Delivery → List ℕ
delivery_text d = codes " at " ++ (decimal d.tick ++ cut_text d.kept)

-- Each delivery, or that the parcel is lost.
abbrev pub fate_text : List Delivery → List ℕ
fate_text [] = codes " lost"
fate_text (d ∷ ds) = flat_map delivery_text (d ∷ ds)

-- The kind of a parcel and its receiver.
abbrev pub sending_text : Parcel → List ℕ
sending_text p = codes "  sends " ++ (kind_text (kind_in_frame p.frame) ++ (codes " " ++ actor_text p.to))

-- The line of a parcel that is sent in a tick after earlier ones.
abbrev pub sends_line : Scenario → ℕ → List Parcel → Parcel → List ℕ
sends_line s tick earlier p = sending_text p ++ (fate_text (deliveries s tick earlier p) ++ (contents_text (decode_of p.frame) ++ codes "\n"))

-- The lines of parcels that are sent in this order.
abbrev pub sends_lines : Scenario → ℕ → List Parcel → List Parcel → List ℕ
sends_lines s tick earlier [] = []
sends_lines s tick earlier (p ∷ ps) = sends_line s tick earlier p ++ sends_lines s tick (earlier ++ p ∷ []) ps

-- What a run sent, the oldest first.
abbrev pub sent_by_run : List Record → List Parcel
sent_by_run [] = []
sent_by_run (r ∷ J) = sent_by_run J ++ r.sends
