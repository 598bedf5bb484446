-- The story of a run: of each record what clients saw, what became of the replica, and what was sent.
use Rattle.std.specs.Prelude.{ℕ, List, [], ◌∷◌, ◌++◌, Bool, true, false, ◌&&◌, if◌then◌else◌, codes}
use Rattle.std.specs.Fmt.{decimal}
use Rattle.std.specs.List.{flat_map}
use Rattle.std.specs.Str.{bytes_eq}
use Rattle.nz_base.specs.declared.scenario.Scenario.{Scenario}
use Rattle.nz_script.specs.Texts.{actor_text}
use Rattle.nz_machine.specs.declared.event.Event.{Event}
use Rattle.nz_machine.specs.declared.event.Event.TheVariants.{Deliver, Cut, Tick, Alarm, Crash, Restart}
use Rattle.nz_machine.specs.declared.event.Record.{Record}
use Rattle.nz_machine.specs.declared.client_event.ClientEvent.{ClientEvent}
use Rattle.nz_machine.specs.runs.Events.{client_events}
use Rattle.nz_machine.specs.runs.Schedule.{group_of}
use Rattle.nz_text.specs.Text.{event_line}
use Rattle.nz_text.specs.Trace.{what_text}
use Rattle.nz_story.specs.Fates.{sends_lines, sent_by_run}
use Rattle.nz_story.specs.States.{now_text}

-- The line of an event of a client, as the text has it, after two spaces.
abbrev pub event_under : ClientEvent → List ℕ
event_under e = codes "  " ++ event_line e

-- The lines of events.
abbrev pub events_text : List ClientEvent → List ℕ
events_text E = flat_map event_under E

-- The tick, the actor, and what happened to it.
abbrev pub head_line : Record → List ℕ
head_line r = decimal r.tick ++ (codes " " ++ (actor_text r.actor ++ (codes " " ++ (what_text r.event ++ codes "\n"))))

-- The lines under the head of a record, after the records J: what the client saw, what became of the replica, and what was sent.
abbrev pub lines_under : Scenario → Record → List Record → List ℕ
lines_under s r J =
    events_text (client_events (group_of s) r.actor r J)
    ++ (now_text (group_of s) r.actor r J ++ sends_lines s r.tick (sent_by_run J) r.sends)

-- Whether the event is of a clock.
abbrev pub is_clock : Event → Bool
is_clock (Tick clock) = true
is_clock (Deliver p) = false
is_clock (Cut kept p) = false
is_clock Alarm = false
is_clock Crash = false
is_clock (Restart nonce) = false

-- The head with the lines under it. A clock with no line under it is left out.
abbrev pub part_of : Record → List ℕ → List ℕ
part_of r lines = if is_clock r.event && bytes_eq lines [] then [] else head_line r ++ lines

-- The part of a record after the records J.
unfoldable pub record_part : Scenario → Record → List Record → List ℕ
record_part s r J = part_of r (lines_under s r J)

-- The parts of a run's records, the oldest first.
abbrev pub story : Scenario → List Record → List ℕ
story s [] = []
story s (r ∷ J) = story s J ++ record_part s r J
