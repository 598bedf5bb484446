-- A script that grows while its client runs.
use Rattle.std.specs.Prelude.{◌≡◌, ℕ, [], ◌∷◌, ◌++◌}
use Rattle.nz_base.specs.declared.scenario.Request.{Request}
use Rattle.nz_machine.specs.rules.State.{Group}
use Rattle.nz_machine.specs.rules.Step.{script_of}

-- The later group is the former, but that the client has one request more, after all others of its script.
pub record HasOneMore (g later : Group) (client : ℕ) (request : Request) : Type 0 where
  pub f : later.f ≡ g.f
  pub proxies : later.proxies ≡ g.proxies
  pub window : later.window ≡ g.window
  pub script : script_of later client ≡ script_of g client ++ request ∷ []
