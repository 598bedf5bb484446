-- A message that is read was sent by the source record of its parcel.
use Rattle.std.proofs.Common.{◌≡◌, List, ◌∷◌, Some, sym, ap, subst, ◌∙◌, inl, inr}
use Rattle.std.proofs.lemmas.Option.{none-some, same_Some}
use Rattle.nz_base.specs.declared.actor.Actor.{Actor}
use Rattle.nz_msg.specs.declared.envelope.Envelope.{Envelope}
use Rattle.nz_machine.specs.declared.event.Parcel.{Parcel}
use Rattle.nz_machine.specs.declared.event.Record.{Record}
use Rattle.nz_machine.specs.rules.State.{Group}
use Rattle.nz_machine.specs.rules.Step.{parcel, accepted_envelope, event_step}
use Rattle.nz_machine.specs.runs.World.{state_after, Has, World}
use Rattle.nz_machine.specs.runs.History.{source}
use Rattle.nz_machine.proofs.runs.Runs.{FitsOut, received_is, sent_by, sends_have, all_has}
use Rattle.nz_base.specs.Moments.{At}
use Rattle.nz_machine.proofs.runs.Moments.{at_world}
use Rattle.nz_machine.proofs.runs.Sources.{source_is}
use Rattle.nz_machine.proofs.runs.FitRuns.{Fitted, FittedState, fits_keep}

-- the record that first sent a parcel sends the message that is read of it
pub record MessageSource (g : Group) (J K : List Record) (p : Parcel) (e : Envelope) : Type 0 where
  pub newest : Record
  pub older : List Record
  pub is : K ≡ newest ∷ older
  pub at : At J (newest ∷ older)
  pub sender : newest.actor ≡ e.from
  pub from : p.from ≡ e.from
  pub among : Has (event_step g newest.actor (state_after g newest.actor older) newest.event).1 (e.to, e.message)
  pub sends : Has newest.sends (parcel newest.actor (e.to, e.message))
  pub fit : FitsOut newest.actor (e.to, e.message)

pub message_source : (g : Group) (J : List Record) → World g J → (a : Actor) (p : Parcel) (e : Envelope) → accepted_envelope g.f a p ≡ Some e
    → (K : List Record) → source p J ≡ Some K → MessageSource g J K p e
message_source g J w a p e heard K found =
    let s = source_is p J K found in
    let now : World g (s.newest ∷ s.older) = at_world g J (s.newest ∷ s.older) w s.at in
    let b = sent_by g s.newest s.older p now s.sends in
    let outs = (event_step g s.newest.actor (state_after g s.newest.actor s.older) s.newest.event).1 in
    let fit : FitsOut s.newest.actor b.out = all_has (FitsOut s.newest.actor) outs b.out
    (sends_have g (Fitted g) (FittedState g) (fits_keep g) s.older s.newest now) b.among in
    let own : Envelope = record { from = s.newest.actor; to = b.out.0; message = b.out.1 } in
    let here : accepted_envelope g.f a (parcel s.newest.actor b.out) ≡ Some e = ap (accepted_envelope g.f a) (sym b.is) ∙ heard in
    elim (received_is g.f a s.newest.actor b.out fit) [
      | inl none ↦ absurd (none-some e (sym none ∙ here))
      | inr y ↦
          let same : own ≡ e = same_Some own e (sym y.is ∙ here) in
          record {
            newest = s.newest;
            older = s.older;
            is = s.is;
            at = s.at;
            sender = ap (λ (x : Envelope). x.from) same;
            from = ap (λ (x : Parcel). x.from) b.is ∙ ap (λ (x : Envelope). x.from) same;
            among = subst (λ (x : Envelope). Has outs (x.to, x.message)) same b.among;
            sends = subst (λ (x : Envelope). Has s.newest.sends (parcel s.newest.actor (x.to, x.message))) same
                (subst (λ (q : Parcel). Has s.newest.sends q) b.is s.sends);
            fit = subst (λ (x : Envelope). FitsOut s.newest.actor (x.to, x.message)) same fit;
          }
    ]
