-- The list that a forgotten list stands for.
use Rattle.std.specs.Prelude.{List, [], ◌∷◌, ◌++◌}
use Rattle.nz_machine.specs.declared.event.Record.{Record}
use Rattle.nz_machine.specs.declared.forgotten.Link.{Link}
use Rattle.nz_machine.specs.declared.forgotten.Link.TheVariants.{Nothing, All, More}

-- All records, or the earlier ones and then the last one.
abbrev pub listed : Link → List Record
listed Nothing = []
listed (All records) = records.value
listed (More earlier step) = earlier ++ step.value ∷ []
