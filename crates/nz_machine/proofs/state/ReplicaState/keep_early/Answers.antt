-- What the function of this folder owes, proved.
use Rattle.std.proofs.Common.{IsTrue, IsFalse, refl, sym, subst}
use Rattle.nz_base.specs.Key.{id_of}
use Rattle.nz_base.specs.Log.{keys_of, has_id, is_above_last}
use Rattle.nz_machine.specs.declared.held.Held.{Held}
use Rattle.nz_machine.specs.rules.Facts.{ReplicaModel}
use Rattle.nz_machine.specs.rules.Parts.{ArePartsKept}
use Rattle.nz_machine.proofs.facts.StateInvariant.{kept_early}
use Rattle.nz_machine.proofs.state.ReplicaState.keep_early.Goals as goal

pub invariant_of-self-2 : goal.invariant_of-self-2
invariant_of-self-2 c =
    subst (λ (held : Held). ArePartsKept (record c.self.inside.parts { held = held })) (sym c.in_ok-keep_early.ensures.ok)
    (kept_early _ _ _ _ c.args.entry _ _ c.self.invariant c.requires.fit
    (subst (λ (v : ReplicaModel). IsTrue (is_above_last (keys_of v.state.log.entries) c.args.entry.key)) (sym c.self.view_is) c.requires.above)
    (subst (λ (v : ReplicaModel). IsFalse (has_id (keys_of v.state.log.entries) (id_of c.args.entry.key))) (sym c.self.view_is) c.requires.logged)
    (subst (λ (v : ReplicaModel). IsFalse (has_id (keys_of v.state.early) (id_of c.args.entry.key))) (sym c.self.view_is) c.requires.held)
    refl refl)
