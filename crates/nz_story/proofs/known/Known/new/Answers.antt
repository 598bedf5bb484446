-- What the function of this folder owes, proved.
use Rattle.std.proofs.Common.{sym, ap, subst, ◌∙◌}
use Rattle.nz_base.specs.Log.{keys_of, AreRising}
use Rattle.nz_log.specs.Synced.{Log}
use Rattle.nz_story.proofs.Coming.{rising_parts}
use Rattle.nz_story.proofs.known.Known.new.Goals as goal

pub invariant_of-result : goal.invariant_of-result
invariant_of-result c =
    let s = c.args.state.now.state in
    let parts = rising_parts s.log.entries s.early c.show_invariant.ensures.facts.entries.arranged.rising in (
      subst AreRising (sym (c.in_ok-log_keys.ensures ∙ ap (λ (log : Log). keys_of log.entries) c.log.ensures)) parts.0,
      subst AreRising (sym (c.in_ok-early_keys.ensures ∙ ap keys_of c.early.ensures)) parts.1,
    )
