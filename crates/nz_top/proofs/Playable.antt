-- What is read can be played.
use Rattle.std.proofs.Common.{◌≡◌, ℕ, ◌≤◌, true, List, [], ◌∷◌, Option, Ok, sym, subst, arith, length}
use Rattle.std.specs.Prelude.{◌*◌, nat_le, is_some, IsSome}
use Rattle.std.specs.List.{list_all, AllByRecursion}
use Rattle.std.proofs.lemmas.Bool.{eqb-true, and_parts, leb-true, ltb-true}
use Rattle.std.proofs.lemmas.List.Sums.{sum-map}
use Rattle.nz_base.specs.declared.actor.Actor.{Actor}
use Rattle.nz_base.specs.declared.actor.Actor.TheVariants as actor
use Rattle.nz_base.specs.declared.scenario.Request.{Request}
use Rattle.nz_base.specs.declared.scenario.Fault.{Fault}
use Rattle.nz_base.specs.declared.scenario.Fault.TheVariants as fault
use Rattle.nz_base.specs.declared.scenario.Scenario.{Scenario}
use Rattle.nz_base.specs.Actor.{is_within}
use Rattle.nz_base.specs.Cluster.{replica_count}
use Rattle.nz_store.specs.declared.command.Command.{Command}
use Rattle.nz_store.specs.Reading.{command_of}
use Rattle.nz_script.specs.Drafts.{knows, has_room_for_requests, has_room_for_faults}
use Rattle.nz_script.specs.Reading.{scenario}
use Rattle.nz_script.specs.Valid.{group_of_scenario, is_request, are_requests, requests_in_all, calls_known, IsRunnable}
use Rattle.nz_script.proofs.Sections.{group_parts, between_most}
use Rattle.nz_script.proofs.Generated.{generated_runnable}
use Rattle.nz_script.proofs.ReadIsPlayable.{read_runnable}
use Rattle.nz_script.specs.Draws.{scenario_of_seed}
use Rattle.nz_top.specs.declared.words.Origin.{Origin}
use Rattle.nz_top.specs.declared.words.Origin.TheVariants.{Seed}
use Rattle.nz_top.specs.Words.{IsDrawable}
use Rattle.nz_machine.specs.runs.World.{HasCommand, IsMember, request_count}
use Rattle.nz_machine.specs.runs.Schedule.{group_of, NamesMember, IsPlayable}

least : (low high n : ℕ) → is_within low high n ≡ true → low ≤ n
least low high n e = leb-true low n (and_parts (nat_le low n) (nat_le n high) e).0

some_command : (o : Option Command) → is_some o ≡ true → IsSome o
some_command o e = e

asked : (r : Request) → is_request r ≡ true → HasCommand r
asked r e = record { command = some_command (command_of r.command) (and_parts (nat_le r.wait 20000) (is_some (command_of r.command)) e).1 }

all_asked : (script : List Request) → are_requests script ≡ true → AllByRecursion HasCommand script
all_asked [] e = tt
all_asked (r ∷ script) e = let p = and_parts (is_request r) (are_requests script) e in (asked r p.0, all_asked script p.1)

scripts_asked : (scripts : List (List Request)) → list_all are_requests scripts ≡ true → AllByRecursion (λ script. AllByRecursion HasCommand script) scripts
scripts_asked [] e = tt
scripts_asked (script ∷ scripts) e = let p = and_parts (are_requests script) (list_all are_requests scripts) e in
    (all_asked script p.0, scripts_asked scripts p.1)

member : (s : Scenario) (a : Actor) → length s.scripts ≡ s.clients → knows (group_of_scenario s) a ≡ true → IsMember (group_of s) a
member s (actor.Replica r) all e = ltb-true r (replica_count s.cluster) e
member s (actor.Proxy p) all e = ltb-true p s.proxies e
member s (actor.Client c) all e = omega (arith, ltb-true c s.clients e, all)

names : (s : Scenario) (f : Fault) → length s.scripts ≡ s.clients → calls_known (group_of_scenario s) f ≡ true → NamesMember s f
names s (fault.Crash a t) all e = member s a all e
names s (fault.Restart a t) all e = member s a all e
names s (fault.Alarm a t) all e = member s a all e
names s (fault.Drop a b k n) all e = tt
names s (fault.Hold a b k n d) all e = tt
names s (fault.Twice a b k n d) all e = tt
names s (fault.Cut a b k n l) all e = tt
names s (fault.Block a b f l) all e = tt

all_names : (s : Scenario) (faults : List Fault) → length s.scripts ≡ s.clients
    → list_all (calls_known (group_of_scenario s)) faults ≡ true → AllByRecursion (NamesMember s) faults
all_names s [] all e = tt
all_names s (f ∷ faults) all e =
    let p = and_parts (calls_known (group_of_scenario s) f) (list_all (calls_known (group_of_scenario s)) faults) e in
    (names s f all p.0, all_names s faults all p.1)

few_asked : (scripts : List (List Request)) → requests_in_all scripts ≤ 2000 → request_count scripts ≤ 2000
few_asked scripts h = subst (λ (n : ℕ). n ≤ 2000) (sym (sum-map length scripts)) h

playable : (s : Scenario) → IsRunnable s → IsPlayable s
playable s h =
    let g = group_parts s h.group in
    let all = eqb-true (length s.scripts) s.clients g.scripts in
    let few = and_parts (has_room_for_requests (requests_in_all s.scripts) s.ticks) (has_room_for_faults (requests_in_all s.scripts) (length s.faults)) h.few in
    record {
      group = record {
        least_f = least 1 4 s.cluster g.cluster;
        most_f = between_most 1 4 s.cluster g.cluster;
        least_proxies = least 1 8 s.proxies g.proxies;
        most_proxies = between_most 1 8 s.proxies g.proxies;
        least_window = least 1 16 s.window g.window;
        most_window = between_most 1 16 s.window g.window;
        least_clients = omega (arith, all, least 1 64 s.clients g.clients);
        most_clients = omega (arith, all, between_most 1 64 s.clients g.clients);
        few_requests =
            few_asked s.scripts (leb-true (requests_in_all s.scripts) 2000
            (and_parts (nat_le (requests_in_all s.scripts) 2000) (nat_le (requests_in_all s.scripts * s.ticks) 2000000) few.0).0);
        commands = scripts_asked s.scripts h.requests;
      };
      scripts = all;
      ticks = between_most 1 20000 s.ticks g.ticks;
      faults =
          leb-true (length s.faults) 1000
          (and_parts (nat_le (length s.faults) 1000) (nat_le (requests_in_all s.scripts * length s.faults) 200000) few.1).0;
      members = all_names s s.faults all h.calls;
    }

pub read_playable : (bytes : List ℕ) (s : Scenario) → scenario bytes ≡ Ok s → IsPlayable s
read_playable bytes s e = playable s (read_runnable bytes s e)

few_drawn : (origin : Origin) (seed count : ℕ) → origin ≡ Seed seed count → IsDrawable origin → count ≤ 2000
few_drawn origin seed count is drawable = (subst IsDrawable is drawable).1

pub drawn_playable : (origin : Origin) (seed count : ℕ) (s : Scenario) → origin ≡ Seed seed count
    → IsDrawable origin → s ≡ scenario_of_seed seed count → IsPlayable s
drawn_playable origin seed count s is drawable drawn =
    subst IsPlayable (sym drawn) (playable (scenario_of_seed seed count) (generated_runnable seed count (few_drawn origin seed count is drawable)))
