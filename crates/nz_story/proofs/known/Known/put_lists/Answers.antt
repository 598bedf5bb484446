-- What the function of this folder owes, proved.
use Rattle.std.proofs.Common.{List, sym, subst}
use Rattle.nz_base.specs.Log.{keys_of, AreRising}
use Rattle.nz_base.specs.declared.key.Entry.{Entry}
use Rattle.nz_log.specs.Synced.{Log}
use Rattle.nz_story.proofs.Coming.{rising_parts}
use Rattle.nz_story.proofs.known.Known.put_lists.Goals as goal

pub put_log-requires-clause-after : goal.put_log-requires-clause-after
put_log-requires-clause-after c =
    let s = c.args.state.now.state in
    subst (λ (log : Log). AreRising (keys_of log.entries)) (sym c.log.ensures)
    (rising_parts s.log.entries s.early c.show_invariant.ensures.facts.entries.arranged.rising).0

pub put_early-requires-clause-after : goal.put_early-requires-clause-after
put_early-requires-clause-after c =
    let s = c.args.state.now.state in
    subst (λ (es : List Entry). AreRising (keys_of es)) (sym c.early.ensures)
    (rising_parts s.log.entries s.early c.show_invariant.ensures.facts.entries.arranged.rising).1
