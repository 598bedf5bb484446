-- What the function of this folder owes, proved.
use Rattle.std.proofs.Common.{◌≡◌, ◌+◌, ap, ◌∙◌, arith}
use Rattle.nz_base.specs.Log.{keys_of, is_above_last}
use Rattle.nz_log.specs.Synced.{Log, synced_part}
use Rattle.nz_log.proofs.Keeping.{above_first}
use Rattle.nz_log.proofs.log.HashedLog.is_above_synced.Goals as goal

pub returns-in-Some : goal.returns-in-Some
returns-in-Some c =
    let checked = c.in-Some.ensures in
    let next : c.in-Some.last + 1 ≡ c.self.inside.synced = omega (arith, checked.0, checked.1) in
    c.is_below.ensures.value
    ∙ above_first c.self.inside.entries c.self.inside.synced c.in-Some.last c.args.key.now c.get.result.now c.self.invariant.sound.within next c.get.ensures
    ∙ ap (λ (l : Log). is_above_last (keys_of (synced_part l)) c.args.key.now) c.self.view_is
