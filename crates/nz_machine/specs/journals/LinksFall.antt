-- Each list is longer than the earlier one in it.
use Rattle.std.specs.Prelude.{◌∷◌, [], ◌≤◌, length}
use Rattle.std.proofs.Common.{arith, length-append}
use Rattle.nz_machine.specs.declared.forgotten.Link.{Link}
use Rattle.nz_machine.specs.declared.forgotten.Link.TheVariants.{Nothing, All, More}
use Rattle.nz_machine.specs.declared.forgotten.Forgotten.TheDeep.{deep-Link}
use Rattle.nz_machine.specs.journals.Links.{listed}

pub listed-falls : (l : Link) → deep-Link l ≤ length (listed l)
listed-falls Nothing = omega arith
listed-falls (All records) = omega arith
listed-falls (More earlier step) = omega (arith, length-append earlier (step.value ∷ []))
