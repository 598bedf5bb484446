-- What the loops of the function of this folder keep.
use Rattle.std.proofs.Common.{◌≡◌, List, ◌∷◌, take}
use Rattle.std.specs.HashSet.{contains}
use Rattle.nz_base.specs.Key.{id_eq}
use Rattle.nz_machine.specs.declared.event.Record.{Record}
use Rattle.nz_machine.specs.journals.Journals.{group_in}
use Rattle.nz_replay.specs.Runs.{run_up_to}
use Rattle.nz_audit.specs.Readings.{IsTable, IsTableWith}
use Rattle.nz_audit.proofs.sources.reading.keep_sendings.Given as goal

abbrev pub invariant-loop-parcel : goal.invariant-loop-parcel
invariant-loop-parcel l = (J : List Record) → run_up_to l.journal l.records ≡ l.next ∷ J
    → IsTable (group_in l.journal) (contains id_eq l.wanted) J l.fn.sendings.kept.entries
    → IsTableWith (group_in l.journal) (contains id_eq l.wanted) (take l.parcel-index l.next.sends) l.next J l.sendings.kept.entries
