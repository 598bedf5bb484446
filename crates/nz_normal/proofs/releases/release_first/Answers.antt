-- What the function of this folder owes, proved.
use Rattle.std.proofs.Common.{length, ap, ◌∙◌}
use Rattle.std.proofs.lemmas.Result.{on_ok_weaker}
use Rattle.nz_log.specs.Synced.{Log}
use Rattle.nz_normal.proofs.Releasing.{replied}
use Rattle.nz_normal.proofs.releases.release_first.Goals as goal

pub returns-clause-sends : goal.returns-clause-sends
returns-clause-sends c =
    let at = c.len-place.ensures ∙ ap (λ (l : Log). length l.entries) c.log.ensures in
    on_ok_weaker c.reply_fast.result
    (λ sent e es is. replied c.args.state.now c.release.new.self c.in_ok-id.id c.len-place.result e es
    c.args.sends.now c.reply_fast.new.sends is c.in_ok-id.ensures.state c.in_ok-id.ensures.grown at sent) c.reply_fast.ensures
