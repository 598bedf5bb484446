-- What the function of this folder owes, proved.
use Rattle.std.proofs.Common.{◌∙◌, ap}
use Rattle.std.specs.Prelude.{List, ◌++◌, ◌∷◌, []}
use Rattle.nz_machine.specs.declared.records.Row.{Row}
use Rattle.nz_machine.specs.journals.Records.{Recorded, records_of_rows}
use Rattle.nz_machine.proofs.journals.Rows.{row_pushed}
use Rattle.nz_machine.proofs.records.Recording.push_reserved.Goals as goal

pub returns-clause-records : goal.returns-clause-records
returns-clause-records c =
    let f = c.self.inside in
    ap (λ (rows : List Row). records_of_rows c.row_of-row.new.others.items rows) c.push_reserved.ensures.items
    ∙ row_pushed f.others.items c.row_of-row.new.others.items f.rows.items c.row_of-row.result c.args.step c.self.invariant.kept
    c.row_of-row.ensures.earlier c.row_of-row.ensures.row.0
    ∙ ap (λ (r : Recorded). r.records ++ c.args.step ∷ []) c.self.view_is
