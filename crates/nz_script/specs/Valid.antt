-- Which scenarios are as a run asks.
use Rattle.std.specs.Prelude.{ℕ, Bool, true, not, ◌&&◌, nat_le, ◌==◌, List, [], ◌∷◌, length, is_some, IsTrue}
use Rattle.std.specs.List.{list_all, sum_by}
use Rattle.nz_base.specs.declared.scenario.Request.{Request}
use Rattle.nz_base.specs.declared.scenario.Skew.{Skew}
use Rattle.nz_base.specs.declared.scenario.Fault.{Fault}
use Rattle.nz_base.specs.declared.scenario.Fault.TheVariants as fault
use Rattle.nz_base.specs.declared.scenario.Scenario.{Scenario}
use Rattle.nz_base.specs.Actor.{is_within}
use Rattle.nz_base.specs.declared.limits.TheConstants.{MAX_F, MAX_PROXIES, MAX_CLIENTS, MAX_WINDOW, MAX_TICKS, MAX_TEXT}
use Rattle.nz_store.specs.Reading.{command_of}
use Rattle.nz_script.specs.declared.line.Line.{Line}
use Rattle.nz_script.specs.declared.group.Group.{Group}
use Rattle.nz_script.specs.Shapes.{forms_of}
use Rattle.nz_script.specs.Drafts.{knows, all_known, all_within, is_span, has_skew, has_room_for_requests, has_room_for_faults}
use Rattle.nz_script.specs.Texts.{skew_line, fault_line, text_of}

-- Who takes part in a scenario.
abbrev pub group_of_scenario : Scenario → Group
group_of_scenario s = record { cluster = s.cluster; proxies = s.proxies; clients = s.clients; window = s.window }

-- The actors of the line are of the group and of their sorts, and its numbers are in the ranges of the table.
abbrev pub is_sound : Group → Line → Bool
is_sound g line = all_known g (forms_of line.verb) line.words && (all_within (forms_of line.verb) line.words && is_span line.verb line.words)

-- f, the proxies, the clients with a script each, the ticks and the window are at least 1, and each within its limit.
abbrev pub has_group : Scenario → Bool
has_group s =
    ((is_within 1 MAX_F s.cluster && is_within 1 MAX_PROXIES s.proxies) && (is_within 1 MAX_CLIENTS s.clients && is_within 1 MAX_TICKS s.ticks))
    && (is_within 1 MAX_WINDOW s.window && (length s.scripts == s.clients))

-- No clock has two skews.
abbrev pub are_apart : List Skew → Bool
are_apart [] = true
are_apart (s ∷ skews) = not (has_skew skews s.actor) && are_apart skews

-- Whether each skew's line is sound, and no actor has two.
abbrev pub has_skews : Scenario → Bool
has_skews s = list_all (λ k. is_sound (group_of_scenario s) (skew_line k)) s.skews && are_apart s.skews

-- A request waits no more ticks than a scenario has at most, and its bytes are those of a command.
abbrev pub is_request : Request → Bool
is_request r = nat_le r.wait MAX_TICKS && is_some (command_of r.command)

-- Whether all requests of a script are commands that may wait so long.
abbrev pub are_requests : List Request → Bool
are_requests script = list_all is_request script

-- How many requests there are in all.
abbrev pub requests_in_all : List (List Request) → ℕ
requests_in_all scripts = sum_by length scripts

-- The sums and the products are within the limits.
abbrev pub has_few : Scenario → Bool
has_few s = has_room_for_requests (requests_in_all s.scripts) s.ticks && has_room_for_faults (requests_in_all s.scripts) (length s.faults)

-- Whether each fault's line is sound.
abbrev pub has_faults : Scenario → Bool
has_faults s = list_all (λ f. is_sound (group_of_scenario s) (fault_line f)) s.faults

-- The text has at most 1,048,576 bytes.
abbrev pub is_short : Scenario → Bool
is_short s = nat_le (length (text_of s)) MAX_TEXT

-- The scenario is as a run asks, and its text can be read.
abbrev pub is_valid : Scenario → Bool
is_valid s = ((has_group s && has_skews s) && (list_all are_requests s.scripts && has_few s)) && (has_faults s && is_short s)

-- The scenario is one that a text can have.
abbrev pub IsValid : Scenario → Type 0
IsValid s = IsTrue (is_valid s)

-- Who crashes, restarts or is alarmed is of the group.
abbrev pub calls_known : Group → Fault → Bool
calls_known g (fault.Crash a t) = knows g a
calls_known g (fault.Restart a t) = knows g a
calls_known g (fault.Alarm a t) = knows g a
calls_known g _ = true

-- A scenario that can be run: its group and its ticks are in range, its requests are commands, there are not too many
-- requests and faults, and its faults call nobody who is not there.
pub record IsRunnable (s : Scenario) : Type 0 where
  pub group : IsTrue (has_group s)
  pub requests : IsTrue (list_all are_requests s.scripts)
  pub few : IsTrue (has_few s)
  pub calls : IsTrue (list_all (calls_known (group_of_scenario s)) s.faults)
