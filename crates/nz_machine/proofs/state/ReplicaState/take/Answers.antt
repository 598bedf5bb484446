-- What the function of this folder owes, proved.
use Rattle.std.proofs.Common.{◌≡◌, true, drop, max, min, IsFalse, sym, ap, subst, ◌∙◌, arith}
use Rattle.nz_machine.specs.rules.State.{ReplicaData}
use Rattle.nz_machine.specs.rules.Facts.{ReplicaModel}
use Rattle.nz_machine.specs.rules.Parts.{data_of}
use Rattle.nz_machine.specs.rules.Replicas.{is_normal, leads}
use Rattle.nz_machine.specs.rules.LogMods.{sync_keys, overtaken_to_late, committed_to}
use Rattle.nz_machine.proofs.facts.SyncInvariant.{kept_apart, kept_sync, sync_state}
use Rattle.nz_machine.proofs.state.ReplicaState.take.Goals as goal

pub sync-requires-clause-apart : goal.sync-requires-clause-apart
sync-requires-clause-apart c = kept_apart _ _ _ _ c.self.invariant

pub invariant_of-self : goal.invariant_of-self
invariant_of-self c =
    let s : ReplicaData = data_of c.self.inside.parts in
    let committed : c.max-self-inside.result ≡ max c.self.inside.parts.commit (min c.args.commit c.sync.new.self.log.synced) = omega arith in
    kept_sync c.self.inside.parts.cluster c.self.inside.parts.me s c.self.inside.parts.store c.args.keys.now
    c.args.commit c.sync.new.self.log c.sync.new.self.early c.sync.new.self.late c.max-self-inside.result c.self.invariant
    (subst (λ (v : ReplicaModel). is_normal v.state.status ≡ true) (sym c.self.view_is) c.requires.normal)
    (subst (λ (v : ReplicaModel). IsFalse (leads v.f v.me v.state)) (sym c.self.view_is) c.requires.follows) c.requires.fit (c.in-Ok.ensures.held s) committed

pub returns-in-Ok-clause-state : goal.returns-in-Ok-clause-state
returns-in-Ok-clause-state c =
    let s : ReplicaData = data_of c.self.inside.parts in
    let committed : c.max-self-inside.result ≡ max c.self.inside.parts.commit (min c.args.commit c.sync.new.self.log.synced) = omega arith in
    let now =
    sync_state s c.args.keys.now c.args.commit c.sync.new.self.log c.sync.new.self.early c.sync.new.self.late
    c.max-self-inside.result (c.in-Ok.ensures.held s) committed in
    ap (λ (t : ReplicaData). record { f = c.self.inside.parts.cluster; me = c.self.inside.parts.me; state = t }) now
    ∙ ap (λ (v : ReplicaModel). record {
      f = v.f;
      me = v.me;
      state = committed_to (overtaken_to_late (sync_keys v.state c.args.keys.now).0) c.args.commit;
    }) c.self.view_is

pub returns-in-Ok-clause-missing : goal.returns-in-Ok-clause-missing
returns-in-Ok-clause-missing c =
    let s : ReplicaData = data_of c.self.inside.parts in
    subst (λ (v : ReplicaModel). (sync_keys v.state c.args.keys.now).1 ≡ drop c.in-Ok.place c.args.keys.now) c.self.view_is (c.in-Ok.ensures.missing s)
