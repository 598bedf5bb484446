-- Locks exclude in the history of a run.
use Rattle.nz_machine.specs.declared.journal.Journal.{Journal}
use Rattle.nz_machine.specs.runs.Events.{events}
use Rattle.nz_machine.specs.runs.History.{history}
use Rattle.nz_machine.specs.journals.Journals.{group_in, run_in}
use Rattle.nz_machine.specs.runs.World.{World}
use Rattle.nz_lin.proofs.OneHistory.{one_history}
use Rattle.nz_locks.specs.Clean.{IsCleanScenario}
use Rattle.nz_locks.proofs.CleanRuns.{history_clean}
use Rattle.nz_locks.proofs.Excluding.{one_holder, in_turn}
use Rattle.nz_top.specs.Calls.{Excludes}

-- In a run of a clean scenario no two clients hold a lock at once.
pub excludes : (j : Journal) → World (group_in j) (run_in j) → IsCleanScenario j.scenario → Excludes j
excludes j w clean =
    let g = group_in j in
    let J = run_in j in
    let own = history_clean g J w clean in
    record {
      clean = own;
      one_holder = one_holder (history g J) own;
      in_turn = λ apart. in_turn (events g J) (history g J) (one_history g J w apart) own;
    }
