-- What the function of this folder owes, proved.
use Rattle.std.proofs.Common.{List, ◌++◌, ◌∷◌, [], ◌∙◌, sym, ap}
use Rattle.nz_base.specs.declared.key.Key.{Key}
use Rattle.nz_story.proofs.Coming.{keys_more}
use Rattle.nz_story.proofs.known.log_keys.Goals as goal

pub loop-place-preserved : goal.loop-place-preserved
loop-place-preserved c =
    let e = c.get.result.now in
    c.in_ok-push.ensures.items ∙ ap (λ (keys : List Key). keys ++ e.key ∷ []) c.loop-place.invariant
    ∙ sym (keys_more c.args.log.now.entries c.loop-place.place e c.get.ensures)
