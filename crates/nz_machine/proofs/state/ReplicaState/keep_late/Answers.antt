-- What the function of this folder owes, proved.
use Rattle.std.proofs.Common.{IsFalse, refl, sym, subst}
use Rattle.nz_base.specs.Key.{id_of}
use Rattle.nz_base.specs.Log.{keys_of, has_id}
use Rattle.nz_machine.specs.declared.held.Held.{Held}
use Rattle.nz_machine.specs.rules.Facts.{ReplicaModel}
use Rattle.nz_machine.specs.rules.Parts.{ArePartsKept}
use Rattle.nz_machine.proofs.facts.StateInvariant.{kept_late}
use Rattle.nz_machine.proofs.state.ReplicaState.keep_late.Goals as goal

pub invariant_of-self-2 : goal.invariant_of-self-2
invariant_of-self-2 c =
    subst (λ (held : Held). ArePartsKept (record c.self.inside.parts { held = held })) (sym c.in_ok-keep_late.ensures.ok)
    (kept_late _ _ _ _ c.args.entry _ c.self.invariant c.requires.fit
    (subst (λ (v : ReplicaModel). IsFalse (has_id (keys_of v.state.log.entries) (id_of c.args.entry.key))) (sym c.self.view_is) c.requires.logged)
    (subst (λ (v : ReplicaModel). IsFalse (has_id (keys_of v.state.early) (id_of c.args.entry.key))) (sym c.self.view_is) c.requires.held)
    refl)
