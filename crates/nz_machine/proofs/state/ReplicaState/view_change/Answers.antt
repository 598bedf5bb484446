-- What the function of this folder owes, proved.
use Rattle.nz_base.specs.declared.limits.TheConstants.{MAX_ENTRIES}
use Rattle.std.proofs.Common.{List, max, sym, subst, arith}
use Rattle.nz_base.specs.declared.key.Entry.{Entry}
use Rattle.nz_msg.specs.Fields.{entries}
use Rattle.nz_machine.proofs.facts.SentFields.{view_fits}
use Rattle.nz_machine.proofs.facts.FitReplicas.{own_log}
use Rattle.nz_machine.proofs.state.ReplicaState.view_change.Goals as goal

pub returns-clause-fits : goal.returns-clause-fits
returns-clause-fits c =
    let h = c.self.invariant.facts in
    let commit = c.self.inside.parts.commit in
    let synced = c.synced.result in
    let is = c.synced.ensures in
    let known = h.commit in
    let within = h.entries.within in
    let few = h.entries.few in
    let last = h.mode.last in
    let low = h.mode.view in
    let log = own_log _ _ (max synced commit) _ h (omega (arith, known, within, is)) in
    let entries_fit = subst (λ (es : List Entry). (entries (max synced commit) MAX_ENTRIES).fits es) (sym c.in_ok-entries.ensures) log in (
      c.view.ensures.fits,
      (
        view_fits c.self.inside.parts.last (omega (arith, last, low)),
        (c.vector.ensures.fits, ((omega (arith, within, few, is), omega (arith, known, within, few)), entries_fit)),
      ),
    )
