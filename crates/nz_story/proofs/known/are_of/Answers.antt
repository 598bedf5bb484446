-- What the function of this folder owes, proved.
use Rattle.std.proofs.Common.{get_or, sym, ◌∙◌, arith, ◌<◌, length}
use Rattle.std.proofs.lemmas.List.{get_or_default}
use Rattle.nz_base.specs.declared.key.Key.{Key}
use Rattle.nz_story.proofs.Coming.{are_more}
use Rattle.nz_story.proofs.known.are_of.Goals as goal

pub loop-place-preserved : goal.loop-place-preserved
loop-place-preserved c =
    let keys = c.args.keys.now in
    let i = c.loop-place.place in
    let none : Key = record { deadline = 0; client = 0; num = 0 } in
    let lt : i < length keys = omega (arith, c.if-keys-len.false, c.len.ensures, c.len-place-end.ensures, c.loop-place-test.true) in
    let x = get_or keys i none in
    are_more keys c.args.log.now.entries i x c.get.result.now lt (get_or_default keys i none x lt) c.get.ensures
    (sym c.ne.ensures ∙ c.if-ne.false) c.loop-place.invariant
