-- What the function of this folder owes, proved.
use Rattle.std.proofs.Common.{◌≡◌, ℕ, List, length, min, replicate, sym, ap, ◌∙◌, arith}
use Rattle.nz_base.specs.declared.key.Entry.{Entry}
use Rattle.nz_store.specs.Sequence.{store_after, replies}
use Rattle.nz_machine.specs.rules.State.{ReplicaData}
use Rattle.nz_machine.specs.rules.Facts.{ReplicaModel}
use Rattle.nz_machine.specs.rules.Replicas.{commands}
use Rattle.nz_machine.specs.rules.Parts.{data_of}
use Rattle.nz_machine.specs.rules.Begins.{after_begin}
use Rattle.nz_machine.proofs.facts.StateInvariant.{kept_crashed}
use Rattle.nz_machine.proofs.facts.SyncInvariant.{kept_apart}
use Rattle.nz_machine.proofs.facts.ViewInvariant.{begun, kept_begin}
use Rattle.nz_machine.proofs.state.ReplicaState.begin_with.Goals as goal

pub adopt-requires-clause-apart : goal.adopt-requires-clause-apart
adopt-requires-clause-apart c = kept_apart _ _ _ _ c.self.invariant

pub invariant_of-self : goal.invariant_of-self
invariant_of-self c =
    let s : ReplicaData = data_of c.self.inside.parts in
    let committed : c.min-commit.result ≡ min (length c.args.log) c.args.commit = omega arith in
    kept_begin c.self.inside.parts.cluster c.self.inside.parts.me s c.self.inside.parts.store c.in_ok-store.store
    c.adopt.new.self.log c.adopt.new.self.early c.adopt.new.self.late c.args.log c.args.commit c.min-commit.result
    c.in_ok-store.results.items c.clear_reports.new.ack.items c.self.invariant c.requires (c.in-Ok.ensures s) committed
    (c.in_ok-store.ensures.answers ∙ ap (λ (es : List Entry). replies (commands es)) c.as_slice.ensures)
    (c.clear_reports.ensures ∙ ap (λ (n : ℕ). replicate n 0) c.self.invariant.facts.tables.acks)
    (c.in_ok-store.ensures.store ∙ ap (λ (es : List Entry). store_after (commands es)) c.as_slice.ensures)

pub invariant_of-self-in-Err-1 : goal.invariant_of-self-in-Err-1
invariant_of-self-in-Err-1 c = kept_crashed _ _ _ _ c.self.invariant.member c.forget.ensures

pub returns-in-Ok : goal.returns-in-Ok
returns-in-Ok c =
    let s : ReplicaData = data_of c.self.inside.parts in
    let committed : c.min-commit.result ≡ min (length c.args.log) c.args.commit = omega arith in
    ap (λ (t : ReplicaData). record { f = c.self.inside.parts.cluster; me = c.self.inside.parts.me; state = t })
    (sym (begun c.self.inside.parts.cluster s c.adopt.new.self.log c.adopt.new.self.early c.adopt.new.self.late c.args.log
    c.args.commit c.min-commit.result c.in_ok-store.results.items c.clear_reports.new.ack.items (c.in-Ok.ensures s) committed
    (c.in_ok-store.ensures.answers ∙ ap (λ (es : List Entry). replies (commands es)) c.as_slice.ensures)
    (c.clear_reports.ensures ∙ ap (λ (n : ℕ). replicate n 0) c.self.invariant.facts.tables.acks)))
    ∙ ap (λ (v : ReplicaModel). record { f = v.f; me = v.me; state = after_begin v.f v.state c.args.log c.args.commit }) c.self.view_is
