-- What the function of this folder owes, proved.
use Rattle.std.proofs.Common.{◌≡◌, true, drop, get_or, sym, ◌∙◌}
use Rattle.std.proofs.lemmas.List.{get_or_default}
use Rattle.nz_base.specs.declared.key.Key.{Key}
use Rattle.nz_base.specs.Log.{has_key}
use Rattle.nz_story.proofs.Coming.{came_more, here, later, left_not_below}
use Rattle.nz_story.proofs.came.came_in_order.Goals as goal

pub loop-key-preserved : goal.loop-key-preserved
loop-key-preserved c =
    let before = c.args.before.now in
    let after = c.args.after.now in
    let i = c.loop-key.key-index in
    let none : Key = record { deadline = 0; client = 0; num = 0 } in
    let key = get_or after i none in
    let lt = c.loop-key-test.true in
    let at : key ≡ get_or after i key = get_or_default after i none key lt in
    let rest = c.from_key-rest.result.now in
    let same : (k : Key) → has_key (drop i after) k ≡ true → has_key before k ≡ has_key rest k = λ k there.
    c.loop-key.invariant.same k there ∙ c.from_key-rest.ensures.others k (left_not_below after i key k c.requires.after lt at there) in
    record {
      came =
          came_more before after i key _ c.loop-key.keys.items _ _ lt at (c.is_first-was_there.ensures ∙ sym (same key (here after i key lt at)))
          c.in_ok-keep.ensures c.loop-key.invariant.came;
      rising = c.from_key-rest.ensures.rising c.loop-key.invariant.rising;
      same = λ k there. same k (later after i key k lt at there);
    }
