-- What the function of this folder owes, proved.
use Rattle.std.proofs.Common.{[]}
use Rattle.std.proofs.lemmas.Result.{err_from_is_err_and}
use Rattle.nz_msg.specs.Codec.{items_at}
use Rattle.nz_msg.specs.Fields.{id}
use Rattle.nz_msg.proofs.Loops.{goes_on, ends, is_done}
use Rattle.nz_msg.proofs.lists.list_of_ids.Goals as goal

pub returns-in_err-id : goal.returns-in_err-id
returns-in_err-id c =
    let p = err_from_is_err_and c.from_residual-in_err-id.result c.from_residual-in_err-id.ensures.1 in
    rw (p.1, p.2) (ends (λ _. id) c.in_err-id.field-0.0 c.loop.ids c.args.count c.loop.counter c.loop.rest
    (items_at (λ _. id) [] c.args.count c.args.bytes) c.loop-test.true c.in_err-id.ensures c.loop.invariant)

pub loop-preserved : goal.loop-preserved
loop-preserved c =
    rw c.in_ok-push.ensures.ok (goes_on
    (λ _. id) c.loop.ids c.args.count c.loop.counter c.loop.rest c.in_ok-id.id c.in_ok-id.after
    (items_at (λ _. id) [] c.args.count c.args.bytes) c.loop-test.true c.in_ok-id.ensures c.loop.invariant)

pub returns : goal.returns
returns c =
    is_done (λ _. id) c.loop.ids c.args.count c.loop.counter c.loop.rest
    (items_at (λ _. id) [] c.args.count c.args.bytes) c.loop-test.false c.loop.invariant
