-- What the function of this folder owes, proved.
use Rattle.std.proofs.Common.{◌≡◌, true, [], sym}
use Rattle.std.proofs.lemmas.Result.{err_from_is_err_and}
use Rattle.nz_base.specs.declared.key.Key.{Key}
use Rattle.nz_msg.specs.Codec.{items_at}
use Rattle.nz_msg.specs.Fields.{next_key}
use Rattle.nz_msg.specs.RisingIds.{comes_in_turn}
use Rattle.nz_msg.proofs.RisingIds.{turn_follows, in_turn_more, next_key_read, next_key_fails}
use Rattle.nz_msg.proofs.Loops.{goes_on, ends, is_done}
use Rattle.nz_msg.proofs.lists.keys_in_turn.Goals as goal

pub returns-in_err-key-clause-fault : goal.returns-in_err-key-clause-fault
returns-in_err-key-clause-fault c =
    let p = err_from_is_err_and c.from_residual-in_err-key.result c.from_residual-in_err-key.ensures.1 in
    rw (p.1, p.2) (ends next_key c.in_err-key.field-0.0 c.loop.keys c.args.count c.loop.counter c.loop.rest
    (items_at next_key [] c.args.count c.args.bytes) c.loop-test.true
    (next_key_fails (λ (k : Key). k) c.loop.keys c.loop.rest c.in_err-key.field-0.0 c.in_err-key.ensures) c.loop.invariant.whole)

pub loop-preserved : goal.loop-preserved
loop-preserved c =
    let key = c.in_ok-key.key in
    let turn : comes_in_turn c.loop.ids key ≡ true = sym c.if-not-comes_in_turn.ensures in
    record {
      whole =
          rw c.in_ok-push.ensures.ok (goes_on next_key c.loop.keys c.args.count c.loop.counter c.loop.rest key c.in_ok-key.after
          (items_at next_key [] c.args.count c.args.bytes) c.loop-test.true
          (next_key_read (λ (k : Key). k) c.loop.keys c.loop.rest key c.in_ok-key.after c.in_ok-key.ensures
          (turn_follows c.loop.keys c.loop.ids key c.loop.invariant.in_turn turn)) c.loop.invariant.whole);
      in_turn = rw (c.in_ok-push.ensures.ok, c.note.ensures) (in_turn_more c.loop.keys c.loop.ids key c.loop.invariant.in_turn turn);
    }

pub returns-clause-read : goal.returns-clause-read
returns-clause-read c =
    is_done next_key c.loop.keys c.args.count c.loop.counter c.loop.rest
    (items_at next_key [] c.args.count c.args.bytes) c.loop-test.false c.loop.invariant.whole
