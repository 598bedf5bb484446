-- The run up to the end of a tick is a moment of the run, and of the run up to a later tick.
use Rattle.std.proofs.Common.{◌≡◌, ℕ, ◌≤◌, ◌<◌, Bool, true, false, cond, nat_le, nat_lt, List, [], ◌∷◌, Some, None, refl, sym, ap, subst}
use Rattle.std.proofs.Common.{arith, inl, inr}
use Rattle.std.proofs.lemmas.Bool.{cases_Bool, leb-true, leb-false, le-leb}
use Rattle.std.proofs.lemmas.Option.{none-some}
use Rattle.nz_base.specs.Cluster.{replica_count}
use Rattle.nz_base.specs.Moments.{At}
use Rattle.nz_base.specs.declared.key.Entry.{Entry}
use Rattle.nz_machine.specs.declared.event.Record.{Record}
use Rattle.nz_machine.specs.rules.State.{Group}
use Rattle.nz_machine.specs.runs.World.{World}
use Rattle.nz_machine.specs.runs.Incarnations.{replica_at}
use Rattle.nz_machine.specs.runs.OneHistory.{NoCollision, IsAccepted}
use Rattle.nz_laws_commit.specs.Stable.{committed_of, Stable}
use Rattle.nz_laws_commit.proofs.Stabling as law
use Rattle.nz_observe.specs.Ticks.{run_to, committed, StableAtTicks, IsComparableAtTicks}

-- ---- the run up to a tick

pub not_le : (x y : ℕ) → nat_le x y ≡ false → y < x
not_le x y h = let off = leb-false x y h in omega (arith, off)

-- it has the newest record, or is that of the earlier ones
pub run_has : (t : ℕ) (r : Record) (J : List Record) → r.tick ≤ t → run_to t (r ∷ J) ≡ r ∷ J
unfolding run_to
run_has t r J le = ap (λ (b : Bool). cond b (r ∷ J) (run_to t J)) (le-leb r.tick t le)

pub run_leaves : (t : ℕ) (r : Record) (J : List Record) → t < r.tick → run_to t (r ∷ J) ≡ run_to t J
unfolding run_to
run_leaves t r J lt = elim (cases_Bool (nat_le r.tick t)) [
  | inl le ↦ absurd (let low = leb-true r.tick t le in omega (arith, low, lt))
  | inr no_le ↦ ap (λ (b : Bool). cond b (r ∷ J) (run_to t J)) no_le
]

pub run_at : (t : ℕ) (J : List Record) → At J (run_to t J)
unfolding run_to
run_at t [] = refl
run_at t (r ∷ J) = elim (cases_Bool (nat_le r.tick t)) [
  | inl le ↦ rw le (inl refl)
  | inr later ↦ rw later (inr (run_at t J))
]

-- up to a later tick nothing of it is left out
pub run_again : (t u : ℕ) (J : List Record) → t ≤ u → run_to u (run_to t J) ≡ run_to t J
unfolding run_to
run_again t u [] le = refl
run_again t u (r ∷ J) le = elim (cases_Bool (nat_le r.tick t)) [
  | inl here ↦ rw here (let low = leb-true r.tick t here in run_has u r J (omega (arith, low, le)))
  | inr later ↦ rw later (run_again t u J le)
]

pub run_within : (t u : ℕ) (J : List Record) → t ≤ u → At (run_to u J) (run_to t J)
unfolding run_to
run_within t u [] le = refl
run_within t u (r ∷ J) le = elim (cases_Bool (nat_le r.tick u)) [
  | inl here ↦ subst (λ (K : List Record). At K (run_to t (r ∷ J))) (sym (run_has u r J (leb-true r.tick u here))) (run_at t (r ∷ J))
  | inr later ↦
      let after = not_le r.tick u later in
      subst (λ (K : List Record). At K (run_to t (r ∷ J))) (sym (run_leaves u r J after))
      (subst (At (run_to u J)) (sym (run_leaves t r J (omega (arith, after, le)))) (run_within t u J le))
]

-- ---- the law at ticks

-- who knows of something is of the cluster
known : (g : Group) (m t : ℕ) (J : List Record) (P : List Entry) → committed g m t J ≡ Some P → committed_of (replica_at g m (run_to t J)) ≡ Some P
known g m t J P e = by_member (nat_lt m (replica_count g.f)) e
  where
    by_member : (b : Bool) → cond b (committed_of (replica_at g m (run_to t J))) None ≡ Some P → committed_of (replica_at g m (run_to t J)) ≡ Some P
    by_member true same = same
    by_member false same = absurd (none-some P same)

pub stable_at_ticks : (g : Group) (J : List Record) → World g J → StableAtTicks g J
stable_at_ticks g J w =
    let s : Stable g J = law.stable g J w in
    record {
      started = λ m t v P S holds later begun. s.started m v (run_to t J) P S (run_at t J) (known g m t J P holds) later begun;
      extended = λ m t u P Q le same p q.
          s.extended m (run_to t J) (run_to u J) P Q (run_at u J) (run_within t u J le) same (known g m t J P p) (known g m u J Q q);
      paired = λ m n t u P Q p q. s.paired m n (run_to t J) (run_to u J) P Q (run_at t J) (run_at u J) (known g m t J P p) (known g n u J Q q);
    }

pub comparable_at_ticks : (g : Group) (J : List Record) → World g J → NoCollision g J → (A : List Entry) → IsAccepted g A J → IsComparableAtTicks g J A
comparable_at_ticks g J w apart A accepted m t P holds =
    law.comparable_with_accepted g J w apart A accepted m (run_to t J) P (run_at t J) (known g m t J P holds)
