-- What the function of this folder owes, proved.
use Rattle.std.proofs.Common.{true, false, sym, ap, ◌∙◌, ◌||◌, get_or}
use Rattle.std.proofs.Math.Bool.{or-true}
use Rattle.std.proofs.lemmas.List.{get_or-replicate}
use Rattle.nz_base.specs.declared.scenario.Fault.{Fault}
use Rattle.nz_fabric.specs.schedule.Calendars.{may_strike_kind}
use Rattle.nz_fabric.proofs.schedule.kinds.mark.Goals as goal

pub returns-in-Block : goal.returns-in-Block
returns-in-Block c = λ kind lt.
    let before = get_or c.args.marks.now kind false in
    get_or-replicate 256 kind true false lt ∙ sym (ap (λ (line : Fault). before || may_strike_kind kind line) c.in-Block.is ∙ or-true before)
