-- Whose reports there are.
use Rattle.std.specs.Prelude.{ℕ, Bool, ◌==◌, List, [], ◌∷◌, map, IsFalse}
use Rattle.std.specs.List.{list_any}
use Rattle.nz_merge.specs.declared.report.Report.{Report}

-- Whether a report of the sender is among these.
abbrev pub has_sender : List Report → ℕ → Bool
has_sender reports sender = list_any (λ c. c.sender == sender) reports

-- Who reported, in the order of the reports.
abbrev pub senders : List Report → List ℕ
senders reports = map (λ c. c.sender) reports

-- The reports are of different replicas.
abbrev pub HaveOwnSenders : List Report → Type 0
HaveOwnSenders [] = Unit {0}
HaveOwnSenders (c ∷ reports) = IsFalse (has_sender reports c.sender) × HaveOwnSenders reports
