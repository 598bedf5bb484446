-- What the function of this folder owes, proved.
use Rattle.std.proofs.Common.{◌≡◌, true, [], sym}
use Rattle.std.proofs.lemmas.Result.{err_from_is_err_and}
use Rattle.nz_base.specs.declared.key.Entry.{Entry}
use Rattle.nz_msg.specs.Codec.{items_at}
use Rattle.nz_msg.specs.Fields.{next_entry}
use Rattle.nz_msg.specs.RisingIds.{comes_in_turn}
use Rattle.nz_msg.proofs.RisingIds.{entry_follows, entries_more, next_read, next_without_key, next_without_command}
use Rattle.nz_msg.proofs.Loops.{goes_on, ends, is_done}
use Rattle.nz_msg.proofs.lists.entries_in_turn.Goals as goal

pub returns-in_err-key-clause-fault : goal.returns-in_err-key-clause-fault
returns-in_err-key-clause-fault c =
    let p = err_from_is_err_and c.from_residual-in_err-key.result c.from_residual-in_err-key.ensures.1 in
    rw (p.1, p.2) (ends next_entry c.in_err-key.field-0.0 c.loop.entries c.args.count c.loop.counter c.loop.rest
    (items_at next_entry [] c.args.count c.args.bytes) c.loop-test.true
    (next_without_key c.loop.entries c.loop.rest c.in_err-key.field-0.0 c.in_err-key.ensures) c.loop.invariant.whole)

pub returns-in_err-command-clause-fault : goal.returns-in_err-command-clause-fault
returns-in_err-command-clause-fault c =
    let turn : comes_in_turn c.loop.ids c.in_ok-key.key ≡ true = sym c.if-not-comes_in_turn.ensures in
    let p = err_from_is_err_and c.from_residual-in_err-command.result c.from_residual-in_err-command.ensures.1 in
    rw (p.1, p.2) (ends next_entry c.in_err-command.field-0.0 c.loop.entries c.args.count c.loop.counter c.loop.rest
    (items_at next_entry [] c.args.count c.args.bytes) c.loop-test.true
    (next_without_command c.loop.entries c.loop.rest c.in_ok-key.key c.in_ok-key.after c.in_err-command.field-0.0 c.in_ok-key.ensures
    (entry_follows c.loop.entries c.loop.ids c.in_ok-key.key c.loop.invariant.in_turn turn) c.in_err-command.ensures) c.loop.invariant.whole)

pub loop-preserved : goal.loop-preserved
loop-preserved c =
    let key = c.in_ok-key.key in
    let entry : Entry = record { key = key; command = c.in_ok-command.command } in
    let turn : comes_in_turn c.loop.ids key ≡ true = sym c.if-not-comes_in_turn.ensures in
    record {
      whole =
          rw c.in_ok-push.ensures.ok (goes_on next_entry c.loop.entries c.args.count c.loop.counter c.loop.rest entry c.in_ok-command.after
          (items_at next_entry [] c.args.count c.args.bytes) c.loop-test.true
          (next_read c.loop.entries c.loop.rest key c.in_ok-key.after c.in_ok-command.command c.in_ok-command.after c.in_ok-key.ensures
          (entry_follows c.loop.entries c.loop.ids key c.loop.invariant.in_turn turn) c.in_ok-command.ensures) c.loop.invariant.whole);
      in_turn = rw (c.in_ok-push.ensures.ok, c.note.ensures) (entries_more c.loop.entries c.loop.ids entry c.loop.invariant.in_turn turn);
    }

pub returns-clause-read : goal.returns-clause-read
returns-clause-read c =
    is_done next_entry c.loop.entries c.args.count c.loop.counter c.loop.rest
    (items_at next_entry [] c.args.count c.args.bytes) c.loop-test.false c.loop.invariant.whole
