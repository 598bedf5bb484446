-- What the function of this folder owes, proved.
use Rattle.std.proofs.Common.{◌≡◌, ◌+◌, ◌<◌, length, ap, ◌∙◌, arith, List, ◌∷◌, ◌++◌, take, drop, length-set}
use Rattle.nz_base.specs.declared.key.Entry.{Entry}
use Rattle.nz_log.proofs.Moving.{hand_step}
use Rattle.nz_log.proofs.pages.Pages.move_on.Goals as goal

pub loop-at-preserved : goal.loop-at-preserved
loop-at-preserved c =
    let old = c.loop-at.self in
    let at = c.loop-at.at in
    let out = c.replace-hand.result in
    let long : length c.loop-at.self ≡ length c.args.self.now = c.loop-at.invariant.long in
    let end : c.len-at-end.result ≡ length c.args.self.now = c.len-at-end.ensures in
    let below : at < c.len-at-end.result = c.loop-at-test.true in
    let within : at < length old = omega (arith, long, end, below) in
    record {
      long = ap length c.replace-hand.ensures.rest ∙ length-set old at c.loop-at.hand ∙ c.loop-at.invariant.long;
      moved = ap (λ (xs : List Entry). take (at + 1) xs ++ out ∷ drop (at + 1) xs) c.replace-hand.ensures.rest
          ∙ hand_step old at c.loop-at.hand out within c.replace-hand.ensures.value
          ∙ c.loop-at.invariant.moved;
    }
