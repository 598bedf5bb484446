-- The log that a view starts with: the merged log of the reports that it begins from.
use Rattle.std.specs.Prelude.{◌≡◌, List, ◌∷◌, ℕ, IsTrue}
use Rattle.nz_base.specs.Moments.{At}
use Rattle.nz_base.specs.declared.key.Entry.{Entry}
use Rattle.nz_merge.specs.Merged.{merged}
use Rattle.nz_machine.specs.declared.event.Record.{Record}
use Rattle.nz_machine.specs.rules.State.{Group}
use Rattle.nz_machine.specs.runs.Begun.{begins}
use Rattle.nz_laws_cv.specs.Members.{begun_reports}

-- A record of the run begins the view, and S is the merged log of the reports of that begin.
pub record IsMergedStart (g : Group) (v : ℕ) (S : List Entry) (J : List Record) : Type 0 where
  pub newest : Record
  pub older : List Record
  pub at : At J (newest ∷ older)
  pub begins : IsTrue (begins g v (newest ∷ older))
  pub log : S ≡ merged g.f (begun_reports g v newest older)
