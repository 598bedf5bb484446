-- What the function of this folder owes, proved.
use Rattle.std.proofs.Common.{◌≡◌, List, [], Ok, subst}
use Rattle.std.proofs.lemmas.Result.{err_from_is_err_and}
use Rattle.nz_base.specs.declared.key.Key.{Key}
use Rattle.nz_msg.specs.Reading.{Fails}
use Rattle.nz_msg.specs.Codec.{items_at}
use Rattle.nz_msg.specs.Fields.{next_key}
use Rattle.nz_msg.proofs.Loops.{goes_on, ends, is_done}
use Rattle.nz_msg.proofs.lists.list_of_keys.Goals as goal

pub returns-in_err-key : goal.returns-in_err-key
returns-in_err-key c =
    let p = err_from_is_err_and c.from_residual-in_err-key.result c.from_residual-in_err-key.ensures.1 in
    rw (p.1, p.2) (ends next_key c.in_err-key.field-0.0 c.loop.keys c.args.count c.loop.counter c.loop.rest
    (items_at next_key [] c.args.count c.args.bytes) c.loop-test.true
    (subst (λ (before : List Key). Fails c.in_err-key.field-0.0 ((next_key before).get c.loop.rest))
    c.as_slice.ensures c.in_err-key.ensures) c.loop.invariant)

pub loop-preserved : goal.loop-preserved
loop-preserved c =
    rw c.in_ok-push.ensures.ok (goes_on next_key c.loop.keys c.args.count c.loop.counter c.loop.rest
    c.in_ok-key.key c.in_ok-key.after (items_at next_key [] c.args.count c.args.bytes) c.loop-test.true
    (subst (λ (before : List Key). (next_key before).get c.loop.rest
    ≡ Ok (c.in_ok-key.key, c.in_ok-key.after)) c.as_slice.ensures c.in_ok-key.ensures) c.loop.invariant)

pub returns : goal.returns
returns c =
    is_done next_key c.loop.keys c.args.count c.loop.counter c.loop.rest
    (items_at next_key [] c.args.count c.args.bytes) c.loop-test.false c.loop.invariant
