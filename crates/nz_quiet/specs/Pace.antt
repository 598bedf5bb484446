-- How many ticks the requests of a run took, and the lines that say so.
use Rattle.std.specs.Prelude.{ℕ, zero, suc, ◌+◌, ◌-◌, max, Bool, true, false, ◌==◌, count_by, codes}
use Rattle.std.specs.Prelude.{List, [], ◌∷◌, ◌++◌, Option, Some, None, map, reverse}
use Rattle.std.specs.Fmt.{decimal}
use Rattle.std.specs.List.{flat_map, range_with_len}
use Rattle.std.specs.Map.{lookup}
use Rattle.nz_base.specs.Key.{id_eq}
use Rattle.nz_base.specs.declared.key.Id.{Id}
use Rattle.nz_machine.specs.declared.client_event.ClientEvent.{ClientEvent}
use Rattle.nz_machine.specs.declared.client_event.ClientEvent.TheVariants.{Sent, Accepted}
use Rattle.nz_machine.specs.rules.State.{Group}
use Rattle.nz_machine.specs.declared.client_event.EventAt.{EventAt}
use Rattle.nz_machine.specs.declared.event.Record.{Record}
use Rattle.nz_quiet.specs.Quiet.{timed_events}

-- ---- how many ticks

-- The events with their ticks, without their places.
abbrev pub timed : List EventAt → List (ℕ × ClientEvent)
timed E = map (λ x. (x.tick, x.event)) E

-- The request that an event sends, with the event's tick.
abbrev pub sent_in : ℕ → ClientEvent → List (Id × ℕ)
sent_in tick (Sent id command) = (id, tick) ∷ []
sent_in tick (Accepted id answer path) = []

-- The request whose answer an event accepts, with the event's tick.
abbrev pub accepted_in : ℕ → ClientEvent → List (Id × ℕ)
accepted_in tick (Sent id command) = []
accepted_in tick (Accepted id answer path) = (id, tick) ∷ []

-- The requests that were sent, each with its tick.
abbrev pub requests_sent : List (ℕ × ClientEvent) → List (Id × ℕ)
requests_sent E = flat_map (λ e. sent_in e.0 e.1) E

-- The requests whose answers were accepted, each with the tick of that.
abbrev pub requests_accepted : List (ℕ × ClientEvent) → List (Id × ℕ)
requests_accepted E = flat_map (λ e. accepted_in e.0 e.1) E

-- The tick in which the request's answer was accepted, if it was. No request's answer is accepted twice.
abbrev pub tick_accepted : List (Id × ℕ) → Id → Option ℕ
tick_accepted accepted id = lookup (λ other. id_eq other id) (reverse accepted)

-- The ticks from the sending of a request to its acceptance.
abbrev pub ticks_between : ℕ → Option ℕ → Option ℕ
ticks_between from None = None
ticks_between from (Some to) = Some (to - from)

-- How many ticks a request took, by the ticks of acceptances. It has no such number while it is open.
abbrev pub pace_by : (Id → Option ℕ) → Id × ℕ → Option ℕ
pace_by tick_of sent = ticks_between sent.1 (tick_of sent.0)

-- How many ticks each request took, in the order of sending.
abbrev pub paces : List (ℕ × ClientEvent) → List (Option ℕ)
paces E = map (pace_by (tick_accepted (requests_accepted E))) (requests_sent E)

-- ---- lines

-- The request took this many ticks.
abbrev pub took : ℕ → Option ℕ → Bool
took ticks None = false
took ticks (Some n) = n == ticks

-- The request is open.
abbrev pub is_open : Option ℕ → Bool
is_open None = true
is_open (Some n) = false

-- One more than the ticks that the request took.
abbrev pub above : Option ℕ → ℕ
above None = 0
above (Some n) = n + 1

-- A number above all that requests took, and the least one.
abbrev pub above_all : List (Option ℕ) → ℕ
above_all [] = 0
above_all (p ∷ ps) = max (above p) (above_all ps)

-- The line of so many ticks that so many requests took. None took it: no line.
abbrev pub ticks_line : ℕ → ℕ → List ℕ
ticks_line ticks zero = []
ticks_line ticks (suc n) = codes "ticks " ++ (decimal ticks ++ (codes " " ++ (decimal (suc n) ++ codes "\n")))

-- A line for each number of ticks that requests took, in rising order, with how many requests that are.
abbrev pub ticks_lines : List (Option ℕ) → List ℕ
ticks_lines ps = flat_map (λ n. ticks_line n (count_by (took n) ps)) (range_with_len 0 (above_all ps))

-- The line of how many requests are open.
abbrev pub open_line : List (Option ℕ) → List ℕ
open_line ps = codes "open " ++ (decimal (count_by is_open ps) ++ codes "\n")

-- All that is printed of requests that took so many ticks each.
abbrev pub lines_of_paces : List (Option ℕ) → List ℕ
lines_of_paces ps = ticks_lines ps ++ (open_line ps ++ codes "end\n")

-- What is printed of a run's pace.
abbrev pub pace_text : Group → List Record → List ℕ
pace_text g J = lines_of_paces (paces (timed_events g J))
