-- What the function of this folder owes, proved.
use Rattle.std.proofs.Common.{◌≡◌, not, None, sym, ◌∙◌}
use Rattle.nz_base.specs.declared.key.Entry.{Entry}
use Rattle.nz_base.specs.Key.{key_below}
use Rattle.nz_buffers.specs.Buffers.{first_if}
use Rattle.nz_machine.proofs.facts.Takes.{one_moves, none_moves}
use Rattle.nz_machine.proofs.sync_keys.move_below.Goals as goal

pub below-preserved : goal.below-preserved
below-preserved c =
    one_moves c.args.last c.below.early c.below.late c.args.early.now c.args.late.now c.in-Some.entry
    c.take_below.new.self c.keep.new.self c.below.invariant c.in-Some.ensures.rest (sym c.in-Some.ensures.value) c.in_ok-keep.ensures.ok

pub returns-clause-early : goal.returns-clause-early
returns-clause-early c =
    let none : first_if (λ (e : Entry). not (key_below c.args.last e.key)) c.below.early ≡ None = cc c.in_default.ensures.value in
    sym c.in_default.ensures.rest ∙ (none_moves c.args.last c.below.early c.below.late c.args.early.now c.args.late.now c.below.invariant none).0

pub returns-clause-late : goal.returns-clause-late
returns-clause-late c =
    let none : first_if (λ (e : Entry). not (key_below c.args.last e.key)) c.below.early ≡ None = cc c.in_default.ensures.value in
    (none_moves c.args.last c.below.early c.below.late c.args.early.now c.args.late.now c.below.invariant none).1
