-- What the function of this folder owes, proved.
use Rattle.std.proofs.Common.{sym, ap, ◌∙◌, arith}
use Rattle.std.proofs.lemmas.List.{drop_all}
use Rattle.nz_audit.specs.Leading.{first_view_brought}
use Rattle.nz_audit.proofs.LedPrefixes.{first_found, first_behind}
use Rattle.nz_audit.proofs.prefixes.leaders.view_of_first.Goals as goal

pub returns-then-is_some : goal.returns-then-is_some
returns-then-is_some c =
    sym (first_found c.args.sends.now c.loop-parcel.parcel-index _ c.get.result.now c.in_ok-view.view c.loop-parcel-test.true (c.get.ensures ∙ c.parcel-item.is)
    c.in_ok-view.ensures (sym c.is_some.ensures ∙ c.if-is_some.true)) ∙ c.loop-parcel.invariant

pub loop-parcel-preserved : goal.loop-parcel-preserved
loop-parcel-preserved c =
    sym (first_behind c.args.sends.now c.loop-parcel.parcel-index _ c.get.result.now c.in_ok-view.view c.loop-parcel-test.true (c.get.ensures ∙ c.parcel-item.is)
    c.in_ok-view.ensures (sym c.is_some.ensures ∙ c.if-is_some.false)) ∙ c.loop-parcel.invariant

pub returns : goal.returns
unfolding first_view_brought
returns c =
    sym (ap first_view_brought (drop_all c.loop-parcel.parcel-index c.args.sends.now (omega (arith, c.loop-parcel-test.false)))) ∙ c.loop-parcel.invariant
