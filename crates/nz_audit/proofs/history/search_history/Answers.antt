-- What the function of this folder owes, proved.
use Rattle.nz_audit.proofs.SearchFinds.{found_first}
use Rattle.nz_audit.proofs.history.search_history.Goals as goal

pub longest_history-requires-clause-first : goal.longest_history-requires-clause-first
longest_history-requires-clause-first c =
    found_first c.args.journal.now c.new-found.result (c.new-found.ensures.replays c.args.journal.now) c.new-found.ensures.best
