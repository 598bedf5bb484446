-- Which scenarios and histories use locks as locks.
use Rattle.std.specs.Prelude.{◌≡◌, ℕ, ◌+◌, ◌<◌, ◌^◌, Bool, true, false, List, [], Some, take, slice_get, slice_index_or}
use Rattle.std.specs.List.{AllByRecursion, list_any}
use Rattle.nz_base.specs.declared.key.Id.{Id}
use Rattle.nz_base.specs.declared.key.Entry.{Entry}
use Rattle.nz_base.specs.declared.scenario.Request.{Request}
use Rattle.nz_base.specs.declared.scenario.Scenario.{Scenario}
use Rattle.nz_locks.specs.Uses.{is_foul}

-- The requests of a client, none where there is no such client.
abbrev pub script_in : List (List Request) → ℕ → List Request
script_in scripts client = slice_index_or scripts client []

-- Whether the client's request is foul.
abbrev pub is_foul_request : ℕ → Request → Bool
is_foul_request client request = is_foul client request.command

-- The first foul request of a client's script is at this place, counted from 0.
pub record IsFirstFoulPlace (client : ℕ) (script : List Request) (place : ℕ) : Type 0 where
  pub request : Request
  pub there : slice_get script place ≡ Some request
  pub foul : is_foul_request client request ≡ true
  pub before : list_any (is_foul_request client) (take place script) ≡ false

-- No client has a foul request.
pub record AreClean (scripts : List (List Request)) : Type 0 where
  pub each : (client : ℕ) → list_any (is_foul_request client) (script_in scripts client) ≡ false

-- No command of the scenario is foul.
abbrev pub IsCleanScenario : Scenario → Type 0
IsCleanScenario s = AreClean s.scripts

-- The request is the first foul one of the least client that has one. Numbers are counted from 1.
pub record IsFirstFoul (s : Scenario) (id : Id) : Type 0 where
  pub place : ℕ
  pub num : id.num ≡ place + 1
  pub first : IsFirstFoulPlace id.client (script_in s.scripts id.client) place
  pub least : (client : ℕ) → client < id.client → list_any (is_foul_request client) (script_in s.scripts client) ≡ false

-- An entry of a client with a number of 32 bits, whose command is not foul.
pub record IsCleanEntry (e : Entry) : Type 0 where
  pub client : e.key.client < 2 ^ 32
  pub command : is_foul e.key.client e.command ≡ false

-- All entries are so.
abbrev pub IsClean : List Entry → Type 0
IsClean H = AllByRecursion IsCleanEntry H
