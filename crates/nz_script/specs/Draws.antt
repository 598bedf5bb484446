-- The scenario that a seed draws.
use Rattle.std.specs.Prelude.{ℕ, zero, suc, ◌+◌, ◌*◌, ◌/◌, ◌%◌, ◌^◌, ◌==◌, if◌then◌else◌, List, [], ◌∷◌, Some, None}
use Rattle.std.specs.Fmt.{decimal}
use Rattle.nz_base.specs.declared.actor.Actor.TheVariants.{Replica, Proxy}
use Rattle.nz_base.specs.declared.scenario.Request.{Request}
use Rattle.nz_base.specs.declared.scenario.Fault.{Fault}
use Rattle.nz_base.specs.declared.scenario.Fault.TheVariants as fault
use Rattle.nz_base.specs.declared.scenario.Scenario.{Scenario}
use Rattle.nz_store.specs.declared.command.Command.{Command}
use Rattle.nz_store.specs.declared.command.Command.TheVariants as command
use Rattle.nz_store.specs.Grammar.{spelling}

-- The state of the generator after one draw.
unfoldable pub next : ℕ → ℕ
next x = (x * 6364136223846793005 + 1442695040888963407) % 2 ^ 64

-- The number that the draw gives which led to this state.
abbrev pub draw_after : ℕ → ℕ
draw_after x = x / 2 ^ 33

-- The state after this many pairs of draws.
abbrev pub draws_after : ℕ → ℕ → ℕ
draws_after zero x = x
draws_after (suc n) x = draws_after n (next (next x))

-- `kB`.
abbrev pub drawn_key : ℕ → List ℕ
drawn_key b = 107 ∷ decimal b

-- `vI`.
abbrev pub drawn_value : ℕ → List ℕ
drawn_value i = 118 ∷ decimal i

-- Put, get, del or cas from absent, by a; the key is by b and the value by i.
abbrev pub command_for : ℕ → ℕ → ℕ → Command
command_for a b i =
    if a == 0 then command.Put (drawn_key b) (drawn_value i)
    else (if a == 1 then command.Get (drawn_key b)
    else (if a == 2 then command.Del (drawn_key b)
    else command.Cas (drawn_key b) None (Some (drawn_value i))))

-- Request i, of the two draws after this state.
abbrev pub request_for : ℕ → ℕ → Request
request_for x i = record { wait = 0; command = spelling (command_for (draw_after (next x) % 4) (draw_after (next (next x)) % 16) i) }

-- The requests from i on, two draws each.
abbrev pub requests_for : ℕ → ℕ → ℕ → List Request
requests_for x i zero = []
requests_for x i (suc n) = request_for x i ∷ requests_for (next (next x)) (i + 1) n

-- Every sixteenth request from this client's first on; i is the number of the first of the list.
abbrev pub script_for : ℕ → ℕ → List Request → List Request
script_for client i [] = []
script_for client i (r ∷ requests) = if i % 16 == client then r ∷ script_for client (i + 1) requests else script_for client (i + 1) requests

-- The scripts of n clients from this one on.
abbrev pub scripts_for : ℕ → ℕ → List Request → List (List Request)
scripts_for client zero requests = []
scripts_for client (suc n) requests = script_for client 0 requests ∷ scripts_for (client + 1) n requests

-- Fault j: the timed message of a drawn request to a drawn replica is lost.
abbrev pub fault_for : ℕ → ℕ → ℕ → Fault
fault_for count x j = fault.Drop (Proxy (j % 2)) (Replica (draw_after (next x) % 5)) 2 (1 + draw_after (next (next x)) % count)

-- The faults from j on, two draws each.
abbrev pub faults_for : ℕ → ℕ → ℕ → ℕ → List Fault
faults_for count x j zero = []
faults_for count x j (suc n) = fault_for count x j ∷ faults_for count (next (next x)) (j + 1) n

-- f is 2, and there are 2 proxies, 16 clients with one request open at a time, 1,000 ticks, and a fault for each 50
-- requests.
abbrev pub scenario_of_seed : ℕ → ℕ → Scenario
scenario_of_seed seed count = record {
  cluster = 2;
  proxies = 2;
  clients = 16;
  window = 1;
  ticks = 1000;
  skews = [];
  scripts = scripts_for 0 16 (requests_for seed 0 count);
  faults = faults_for count (draws_after count seed) 0 (count / 50);
}
