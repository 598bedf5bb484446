-- What the function of this folder owes, proved.
use Rattle.nz_audit.proofs.history.history_of.Goals as goal

pub search_history-requires-clause-accepted : goal.search_history-requires-clause-accepted
search_history-requires-clause-accepted c = c.in_ok-accepted.ensures c.args.journal.now c.requires.world c.requires.events
