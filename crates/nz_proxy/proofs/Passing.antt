-- What a proxy passes over changes nothing.
use Rattle.std.proofs.Common.{◌≡◌, ◌⊎◌, ℕ, Bool, true, false, ◌&&◌, List, [], Option, Some, refl, sym, ap, subst, ◌∙◌, inl, inr}
use Rattle.std.proofs.lemmas.Bool.{cases_Bool}
use Rattle.std.proofs.lemmas.List.{append-nil}
use Rattle.nz_base.specs.declared.actor.Actor.TheVariants.{Proxy}
use Rattle.nz_msg.specs.declared.envelope.Envelope.{Envelope}
use Rattle.nz_machine.specs.declared.event.Parcel.{Parcel}
use Rattle.nz_machine.specs.rules.State.{ProxyData, Out}
use Rattle.nz_machine.specs.rules.Step.{is_in_cluster, is_sized, message_vector, if_from_cluster, envelope_step}
use Rattle.nz_proxy.specs.Models.{ProxyModel, ProxyDoes, group_with_cluster}

-- a rule by which nothing changes and nothing is sent
pub does_nothing : (s : ProxyModel) (sends : List Parcel) (t : ProxyData × List Out) → t ≡ (s.state, []) → ProxyDoes s s sends sends t
does_nothing s sends t nothing =
    subst (λ (u : ProxyData × List Out). ProxyDoes s s sends sends u) (sym nothing) (record { state = refl; sends = sym (append-nil sends) })

abbrev pub counts : ℕ → Envelope → Bool
counts f e = is_in_cluster f e.from && is_sized f (message_vector e.message)

pub passed_over : (f me : ℕ) (s : ProxyData) (o : Option Envelope) (e : Envelope) → o ≡ Some e → (s.is_down ≡ true) ⊎ (counts f e ≡ false)
    → envelope_step (group_with_cluster f) (Proxy me) s (if_from_cluster f o) ≡ (s, [])
passed_over f me s o e is (inr stray) = ap (λ x. envelope_step (group_with_cluster f) (Proxy me) s (if_from_cluster f x)) is ∙ (rw stray refl)
passed_over f me s o e is (inl down) =
    ap (λ x. envelope_step (group_with_cluster f) (Proxy me) s (if_from_cluster f x)) is
    ∙ elim (cases_Bool (counts f e)) [
      | inl here ↦ rw (here, down) refl
      | inr stray ↦ rw stray refl
    ]
