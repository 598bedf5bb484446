-- Rows keep their records while others are put last.
use Rattle.std.proofs.Common.{◌≡◌, List, [], ◌∷◌, ◌++◌, ap, ◌∙◌}
use Rattle.std.specs.List.{AllByRecursion}
use Rattle.nz_machine.specs.declared.event.Record.{Record}
use Rattle.nz_machine.specs.declared.records.Row.{Row}
use Rattle.nz_machine.specs.journals.Records.{IsKept, record_of_row, records_of_rows}

pub row_pushed : (old new : List Record) (rows : List Row) (row : Row) (step : Record) → AllByRecursion (IsKept old) rows
    → ((row : Row) → IsKept old row → (record_of_row new row ≡ record_of_row old row) × IsKept new row)
    → record_of_row new row ≡ step → records_of_rows new (rows ++ row ∷ []) ≡ records_of_rows old rows ++ step ∷ []
row_pushed old new [] row step all same is = ap (λ (r : Record). r ∷ []) is
row_pushed old new (x ∷ rows) row step all same is =
    ap (λ (r : Record). r ∷ records_of_rows new (rows ++ row ∷ [])) (same x all.0).0
    ∙ ap (λ (rs : List Record). record_of_row old x ∷ rs) (row_pushed old new rows row step all.1 same is)
