-- What the function of this folder owes, proved.
use Rattle.std.proofs.Common.{◌+◌, ◌∙◌, ap, cond, Bool}
use Rattle.nz_story.proofs.Passing.{one_more}
use Rattle.nz_story.proofs.passes.pass.Goals as goal

pub returns-clause-counted : goal.returns-clause-counted
returns-clause-counted c = λ earlier is.
    one_more c.args.fault earlier c.args.parcel.now c.args.count.now c.count_one.new.count is
    (c.in_ok-count_one.ensures ∙ ap (λ (b : Bool). cond b (c.args.count.now + 1) c.args.count.now) c.names-named.ensures)

pub returns-clause-passed : goal.returns-clause-passed
returns-clause-passed c = λ earlier is. c.in_ok-strike_if.ensures earlier is
