-- What the function of this folder owes, proved.
use Rattle.std.proofs.Common.{◌≡◌, ℕ, suc, ◌+◌, ◌-◌, refl, sym, ap, subst, ◌∙◌, arith, inl, inr}
use Rattle.indexmap.specs.IndexMap.{get}
use Rattle.nz_locks.specs.declared.holding.Holding.{Holding}
use Rattle.nz_locks.specs.Holdings.{same_holding}
use Rattle.nz_locks.specs.Uses.{Foul, Other, use_lent}
use Rattle.nz_locks.proofs.Passes.{IsDoneFrom, acquired, released, passed_by}
use Rattle.nz_locks.proofs.holding.tenures.Goals as goal

pub loop-index-preserved-in_ok-push-in-Acquire : goal.loop-index-preserved-in_ok-push-in-Acquire
loop-index-preserved-in_ok-push-in-Acquire c =
    let b : c.loop-index.index ≡ suc (c.loop-index.index - 1) = omega arith in
    let k : Holding = record { client = c.get-executed.result.now.id.client; name = c.in-Acquire.name } in
    acquired (get same_holding c.loop-index.releases) c.loop-index.found.items c.push.new.self.items c.args.history.now (c.loop-index.index - 1)
    c.get-executed.result.now k c.in_ok-from_slice-in-Acquire.field-0 (c.loop-index.index - 1 + 1) c.copied.result c.get-executed.ensures
    (sym c.in-Acquire.ensures) refl c.in_ok-from_slice-in-Acquire.ensures (omega arith) (c.copied.ensures ∙ c.get.ensures.value) c.in_ok-push-in-Acquire.ensures.items
    (subst (λ (n : ℕ). IsDoneFrom (get same_holding c.loop-index.releases) c.loop-index.found.items c.args.history.now n) b c.loop-index.invariant)

pub loop-index-preserved-in_ok-note_release-in-Release : goal.loop-index-preserved-in_ok-note_release-in-Release
loop-index-preserved-in_ok-note_release-in-Release c =
    let b : c.loop-index.index ≡ suc (c.loop-index.index - 1) = omega arith in
    let k : Holding = record { client = c.get-executed.result.now.id.client; name = c.in-Release.name } in
    released (get same_holding c.loop-index.releases) (get same_holding c.note_release.new.releases) c.loop-index.found.items c.args.history.now
    (c.loop-index.index - 1) c.get-executed.result.now k (c.loop-index.index - 1 + 1) c.get-executed.ensures (sym c.in-Release.ensures) refl (omega arith)
    c.in_ok-note_release-in-Release.ensures
    (subst (λ (n : ℕ). IsDoneFrom (get same_holding c.loop-index.releases) c.loop-index.found.items c.args.history.now n) b c.loop-index.invariant)

pub loop-index-preserved : goal.loop-index-preserved
loop-index-preserved c =
    let b : c.loop-index.index ≡ suc (c.loop-index.index - 1) = omega arith in
    let before =
    subst (λ (n : ℕ). IsDoneFrom (get same_holding c.loop-index.releases) c.loop-index.found.items c.args.history.now n) b c.loop-index.invariant in
    elim c.in-Foul.is [
      | inl foul ↦
          passed_by (get same_holding c.loop-index.releases) c.loop-index.found.items c.args.history.now (c.loop-index.index - 1)
          c.get-executed.result.now Foul c.get-executed.ensures (sym c.use_if_done.ensures ∙ ap use_lent foul) (λ _. refl) (λ _. refl) before
      | inr other ↦
          passed_by (get same_holding c.loop-index.releases) c.loop-index.found.items c.args.history.now (c.loop-index.index - 1)
          c.get-executed.result.now Other c.get-executed.ensures (sym c.use_if_done.ensures ∙ ap use_lent other) (λ _. refl) (λ _. refl) before
    ]
