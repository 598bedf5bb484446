-- What the function of this folder owes, proved.
use Rattle.nz_store.proofs.Turns.{store_from-append, store_after-push, replies-push, slice_get-replies, reply-append}
use Rattle.nz_store.proofs.laws.commands_in_turn.Goals as goal

pub returns-clause-joined : goal.returns-clause-joined
returns-clause-joined c = store_from-append

pub returns-clause-next : goal.returns-clause-next
returns-clause-next c = store_after-push

pub returns-clause-answered : goal.returns-clause-answered
returns-clause-answered c = replies-push

pub returns-clause-each : goal.returns-clause-each
returns-clause-each c = slice_get-replies

pub returns-clause-stays : goal.returns-clause-stays
returns-clause-stays c = reply-append
