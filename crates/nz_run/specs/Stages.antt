-- The actors of a run on several threads.
use Rattle.std.specs.Prelude.{◌≡◌, Bool, true}
use Rattle.nz_machine.specs.rules.State.{Group}
use Rattle.nz_machine.specs.rules.Step.{Node, first_node}

-- A core of the group that has not stepped.
pub record HasNotStepped (g : Group) (meaning : Node) (live : Bool) (fits : Type 0) : Type 0 where
  pub is_of : fits
  pub is_first : meaning ≡ first_node g meaning.actor
  pub lives : live ≡ true
