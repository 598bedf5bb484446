-- What the function of this folder owes, proved.
use Rattle.nz_base.specs.declared.limits.TheConstants.{MAX_ENTRIES}
use Rattle.std.proofs.Common.{List, sym, subst, arith}
use Rattle.nz_base.specs.declared.key.Entry.{Entry}
use Rattle.nz_msg.specs.Fields.{entries}
use Rattle.nz_machine.proofs.facts.FitReplicas.{own_log}
use Rattle.nz_machine.proofs.state.ReplicaState.state_tell.Goals as goal

pub returns-clause-fits : goal.returns-clause-fits
returns-clause-fits c =
    let h = c.self.invariant.facts in
    let commit = c.self.inside.parts.commit in
    let known = h.commit in
    let within = h.entries.within in
    let few = h.entries.few in
    let log = own_log _ _ commit _ h (omega (arith, known, within)) in
    let entries_fit = subst (λ (es : List Entry). (entries commit MAX_ENTRIES).fits es) (sym c.in_ok-entries.ensures) log in
    (c.ranges.nonce.fits, (c.view.ensures.fits, (c.vector.ensures.fits, (omega (arith, known, within, few), entries_fit))))
