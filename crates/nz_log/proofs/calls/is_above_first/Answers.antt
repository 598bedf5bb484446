-- What the function of this folder owes, proved.
use Rattle.std.proofs.Common.{◌≡◌, ◌+◌, sym, ◌∙◌, arith}
use Rattle.std.proofs.lemmas.Option.{get_or_from_slice_get}
use Rattle.nz_log.proofs.Keeping.{above_first}
use Rattle.nz_log.proofs.calls.is_above_first.Goals as goal

pub returns-in-Some : goal.returns-in-Some
returns-in-Some g c =
    let es = (g.L.LogRep.log c.args.log.now).entries in
    let checked = c.in-Some.ensures in
    let next : c.in-Some.last + 1 ≡ c.args.count = omega (arith, checked.0, checked.1) in
    let x = c.get.result.now in
    c.is_below.ensures.value ∙ above_first es c.args.count c.in-Some.last c.args.key.now x c.requires next
    (sym (get_or_from_slice_get es c.in-Some.last x x c.get.ensures))
