-- What the function of this folder owes, proved.
use Rattle.std.proofs.Common.{◌++◌, ap, ◌∙◌}
use Rattle.nz_machine.specs.journals.ClientProgress.{new_in, with_num}
use Rattle.nz_machine.proofs.journals.NewRequests.{none_read, one_read, all_read}
use Rattle.nz_machine.proofs.client_progress.Progress.note_sends.Goals as goal

pub loop-parcel-init : goal.loop-parcel-init
loop-parcel-init c = none_read c.args.client c.args.script.now c.args.self.now c.args.events.now

pub loop-parcel-preserved : goal.loop-parcel-preserved
loop-parcel-preserved c =
    one_read c.args.client c.args.script.now c.args.self.now c.args.sends.now c.loop-parcel.parcel-index c.parcel-item.result
    c.loop-parcel.self c.note_num.new.self c.args.events.now c.loop-parcel.events c.note_num.new.events
    c.loop-parcel-test.true c.parcel-item.is c.loop-parcel.invariant
    (c.in_ok-note_num.ensures.after ∙ ap (with_num c.loop-parcel.self) c.in_ok-num.ensures)
    (c.in_ok-note_num.ensures.new ∙ ap (λ n. c.loop-parcel.events ++ new_in c.args.client c.args.script.now c.loop-parcel.self n) c.in_ok-num.ensures)

pub returns-clause-after : goal.returns-clause-after
returns-clause-after c =
    (all_read c.args.client c.args.script.now c.args.self.now c.args.sends.now c.loop-parcel.parcel-index c.loop-parcel.self
    c.args.events.now c.loop-parcel.events c.loop-parcel-test.false c.loop-parcel.invariant).after

pub returns-clause-new : goal.returns-clause-new
returns-clause-new c =
    (all_read c.args.client c.args.script.now c.args.self.now c.args.sends.now c.loop-parcel.parcel-index c.loop-parcel.self
    c.args.events.now c.loop-parcel.events c.loop-parcel-test.false c.loop-parcel.invariant).new
