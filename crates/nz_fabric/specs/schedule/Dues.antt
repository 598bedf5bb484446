-- Helper definitions of due.rt, which lists what is due in a tick.
use Rattle.std.specs.Prelude.{ℕ, ◌+◌, List, [], ◌∷◌}
use Rattle.nz_base.specs.declared.actor.Actor.{Actor}
use Rattle.nz_base.specs.declared.actor.Actor.TheVariants as actors
use Rattle.nz_base.specs.declared.scenario.Fault.{Fault}
use Rattle.nz_base.specs.declared.scenario.Fault.TheVariants as faults
use Rattle.nz_fabric.specs.declared.schedule.due.Sort.{Sort}
use Rattle.nz_fabric.specs.declared.schedule.due.Sort.TheVariants as sorts

-- The actor of a sort with a number.
abbrev pub actor_of_sort : Sort → ℕ → Actor
actor_of_sort sorts.Replicas = actors.Replica
actor_of_sort sorts.Proxies = actors.Proxy
actor_of_sort sorts.Clients = actors.Client

-- How many of the fault lines are restarts.
abbrev pub restarts_in : List Fault → ℕ
restarts_in [] = 0
restarts_in (faults.Restart a t ∷ lines) = restarts_in lines + 1
restarts_in (_ ∷ lines) = restarts_in lines
