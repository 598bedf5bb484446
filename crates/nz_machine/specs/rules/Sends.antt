-- How the parcels of a step are kept.
use Rattle.std.specs.Prelude.{List, [], ◌∷◌}
use Rattle.nz_machine.specs.declared.event.Parcel.{Parcel}
use Rattle.nz_machine.specs.declared.sends.Few.{Few}
use Rattle.nz_machine.specs.declared.sends.Few.TheVariants as few

-- The parcels that are kept.
abbrev pub parcels_of : Few → List Parcel
parcels_of few.None = []
parcels_of (few.One parcel) = parcel ∷ []
parcels_of (few.Many list) = list
