-- What the function of this folder owes, proved.
use Rattle.std.proofs.Common.{◌∙◌, sym, ap, true, false}
use Rattle.nz_story.specs.Passes.{deliveries_in, strikes}
use Rattle.nz_story.proofs.Passing.{struck_is}
use Rattle.nz_story.proofs.passes.strike_if.Goals as goal

pub returns-in_ok-strike : goal.returns-in_ok-strike
returns-in_ok-strike c = λ earlier is.
    let struck = ap (strikes c.args.tick c.args.parcel.now c.args.fault) (sym is) ∙ sym c.strikes.ensures ∙ c.if-strikes.true in
    c.in_ok-strike.ensures ∙ sym (struck_is c.args.tick earlier c.args.parcel.now c.args.fault (deliveries_in c.args.deliveries.now.items) true struck)

pub returns-else-strikes : goal.returns-else-strikes
returns-else-strikes c = λ earlier is.
    let missed = ap (strikes c.args.tick c.args.parcel.now c.args.fault) (sym is) ∙ sym c.strikes.ensures ∙ c.if-strikes.false in
    sym (struck_is c.args.tick earlier c.args.parcel.now c.args.fault (deliveries_in c.args.deliveries.now.items) false missed)
