-- What the stages of a rule come to.
use Rattle.std.proofs.Common.{◌≡◌, ℕ, ◌≤◌, Bool, true, ◌==◌, cond, List, [], ap, ◌∙◌, inl, inr, arith, eq-eqb}
use Rattle.std.proofs.lemmas.Bool.{cases_Bool}
use Rattle.std.specs.Prelude.{nat_lt}
use Rattle.std.proofs.lemmas.Bool.Decides.{nat_tests}
use Rattle.nz_base.specs.Cluster.{leader_of}
use Rattle.nz_machine.specs.declared.event.Parcel.{Parcel}
use Rattle.nz_machine.specs.rules.State.{ReplicaData}
use Rattle.nz_machine.specs.rules.Facts.{ReplicaModel}
use Rattle.nz_machine.specs.rules.Replicas.{leads}
use Rattle.nz_machine.specs.rules.Views.{enter_view, enter_later}
use Rattle.nz_machine.specs.rules.Does.{Does}

-- ---- a view that is entered where it is later

later_view : (f me view : ℕ) (s : ReplicaData) → s.view ≤ view → (enter_later f me view s).0.view ≡ view
unfolding enter_view
later_view f me view s low =
    elim (cases_Bool (nat_lt s.view view)) [
      | inl later ↦ ap (λ (b : Bool). (cond b (enter_view f me view s) (s, [])).0.view) later
      | inr over ↦ ap (λ (b : Bool). (cond b (enter_view f me view s) (s, [])).0.view) over ∙ grind (arith, nat_tests, over, low)
    ]

-- who leads the view leads it then
pub leads_later : (old new : ReplicaModel) (before after : List Parcel) (view : ℕ)
    → Does old new before after (enter_later old.f old.me view old.state) → old.state.view ≤ view
    → leader_of old.f view ≡ old.me → leads new.f new.me new.state ≡ true
leads_later old new before after view done low own =
    ap (λ (m : ReplicaModel). leads m.f m.me m.state) done.state
    ∙ ap (λ (v : ℕ). leader_of old.f v == old.me) (later_view old.f old.me view old.state low)
    ∙ eq-eqb (leader_of old.f view) old.me own
