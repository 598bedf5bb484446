-- What the loops of the function of this folder keep.
use Rattle.nz_base.specs.declared.limits.TheConstants.{MAX_WORKERS}
use Rattle.nz_run.proofs.threads.run.Given as goal

abbrev pub ghosts-run_named-N-RunName : goal.ghosts-run_named-N-RunName
ghosts-run_named-N-RunName g a = record { scenario = a.scenario.now; chronicles = a.opened }

abbrev pub ghosts-run_named-N-Ledger : goal.ghosts-run_named-N-Ledger
ghosts-run_named-N-Ledger g a = record { name = a.blank.name; parts = MAX_WORKERS }
