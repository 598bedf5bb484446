-- What the function of this folder owes, proved.
use Rattle.std.proofs.Common.{sym, ap, ◌∙◌}
use Rattle.nz_base.specs.Log.{keys_of, has_id}
use Rattle.nz_log.specs.Synced.{Log, synced_part}
use Rattle.nz_log.proofs.Keeping.{held_before, none_before}
use Rattle.nz_log.proofs.log.HashedLog.has_synced.Goals as goal

pub returns-in-Some : goal.returns-in-Some
returns-in-Some c =
    held_before c.self.inside.entries c.self.inside.synced c.args.id c.in-Some.place.now c.self.invariant.sound.within
    (sym (c.in-Some.ensures.value ∙ c.self.invariant.found c.args.id))
    ∙ ap (λ (l : Log). has_id (keys_of (synced_part l)) c.args.id) c.self.view_is

pub returns-in-None : goal.returns-in-None
returns-in-None c =
    none_before c.self.inside.entries c.self.inside.synced c.args.id (sym (c.in-None.ensures.value ∙ c.self.invariant.found c.args.id))
    ∙ ap (λ (l : Log). has_id (keys_of (synced_part l)) c.args.id) c.self.view_is
