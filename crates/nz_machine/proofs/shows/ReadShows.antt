-- What is read of a parcel shows its sender's states at any record that sends it.
use Rattle.std.proofs.Common.{◌≡◌, ℕ, ◌≤◌, ◌<◌, ◌≢◌, zero, suc, List, [], ◌∷◌, length, Option, Some, None}
use Rattle.std.proofs.Common.{Result, Ok, refl, sym, ap, subst, ◌∙◌, inl, inr, ◌⊎◌, true, arith, eqb-true}
use Rattle.std.specs.Prelude.{slice_index}
use Rattle.std.proofs.lemmas.Option.{none-some, same_Some}
use Rattle.nz_base.specs.Cluster.{replica_count}
use Rattle.nz_base.specs.Moments.{At}
use Rattle.nz_base.specs.declared.actor.Actor.{Actor}
use Rattle.nz_base.specs.declared.actor.Actor.TheVariants.{Replica}
use Rattle.nz_base.proofs.Names.{same_actor}
use Rattle.nz_cv.specs.Vectors.{merged_vector}
use Rattle.nz_cv.proofs.Merging.{merged-elsewhere}
use Rattle.nz_msg.specs.declared.envelope.Envelope.{Envelope}
use Rattle.nz_msg.specs.declared.refusal.DecodeRefusal.{DecodeRefusal}
use Rattle.nz_msg.specs.declared.message.RejoinTellBody.{RejoinTellBody}
use Rattle.nz_msg.specs.declared.message.StateTellBody.{StateTellBody}
use Rattle.nz_msg.specs.declared.message.Message.{Message}
use Rattle.nz_msg.specs.declared.message.Message.TheVariants as messages
use Rattle.nz_msg.specs.Envelope.{decode_of}
use Rattle.nz_msg.proofs.Envelopes.{decode-encode}
use Rattle.nz_machine.specs.declared.event.Event.{Event}
use Rattle.nz_machine.specs.declared.event.Event.TheVariants.{Deliver, Cut, Tick, Alarm, Crash, Restart}
use Rattle.nz_machine.specs.declared.event.Parcel.{Parcel}
use Rattle.nz_machine.specs.declared.event.Record.{Record}
use Rattle.nz_machine.specs.rules.State.{Group, Out}
use Rattle.nz_machine.specs.rules.Step.{is_sized, message_vector, accepted_envelope, event_step, parcel}
use Rattle.nz_machine.specs.runs.World.{state_after, sent_in, Has, MayHappen, World}
use Rattle.nz_machine.specs.runs.History.{source}
use Rattle.nz_machine.specs.runs.Hearing.{heard_as, heard_at}
use Rattle.nz_machine.specs.runs.Incarnations.{replica_at}
use Rattle.nz_machine.specs.runs.Shows.{Shows, ShowsRejoinTell, ShowsStateTell}
use Rattle.nz_machine.proofs.runs.Runs.{FitsOut, sent_from, received_is, sent_by, sends_have, all_has}
use Rattle.nz_machine.proofs.runs.Moments.{at_world}
use Rattle.nz_machine.proofs.runs.Sources.{has_source, source_is}
use Rattle.nz_machine.proofs.shows.Snapshots.{IsRead, is_read}
use Rattle.nz_machine.proofs.runs.FitRuns.{Fitted, FittedState, fits_keep, all_fit}
use Rattle.nz_machine.proofs.shows.SentMessages.{shown}

-- ---- records that send

-- what a message shows of its sender, when the record r after the run K sends it
abbrev pub ShowsAt : Group → Actor → Record → List Record → Actor → Message → Type 0
ShowsAt g a r K to message = Shows g a (heard_at g a r.event) (state_after g a K) (state_after g a (r ∷ K)) to message

-- what a record sends fits
pub fits_here : (g : Group) (r : Record) (K : List Record) (o : Out) → World g (r ∷ K) → Has (event_step g r.actor (state_after g r.actor K) r.event).1 o
    → FitsOut r.actor o
fits_here g r K o w among =
    let outs = (event_step g r.actor (state_after g r.actor K) r.event).1 in
    all_has (FitsOut r.actor) outs o (sends_have g (Fitted g) (FittedState g) (fits_keep g) K r w) among

same_ok : (x y : Envelope) (a b : Result Envelope DecodeRefusal) → a ≡ Ok x → b ≡ Ok y → a ≡ b → x ≡ y
same_ok x y a b p q h = cc

-- two messages that fit and have one parcel
pub record AreOne (a b : Actor) (o q : Out) : Type 0 where
  pub actor : a ≡ b
  pub out : o ≡ q

pub same_out : (a b : Actor) (o q : Out) → FitsOut a o → FitsOut b q → parcel a o ≡ parcel b q → AreOne a b o q
same_out a b o q fo fq e =
    let same : record { from = a; to = o.0; message = o.1 } ≡ record { from = b; to = q.0; message = q.1 } =
    same_ok _ _ _ _ (decode-encode a o.0 o.1 fo.sender fo.receiver fo.message) (decode-encode b q.0 q.1 fq.sender fq.receiver fq.message)
    (ap (λ (p : Parcel). decode_of p.frame) e) in
    record { actor = ap (λ (x : Envelope). x.from) same; out = λ i. ((same i).to, (same i).message) }

-- the record is of the actor, and the message shows it
pub record IsShown (g : Group) (a : Actor) (r : Record) (K : List Record) (to : Actor) (message : Message) : Type 0 where
  pub sender : r.actor ≡ a
  pub among : Has (event_step g a (state_after g a K) r.event).1 (to, message)
  pub shows : ShowsAt g a r K to message

shown_here : (g : Group) (a b : Actor) (r : Record) (K : List Record) (o q : Out) → World g (r ∷ K) → r.actor ≡ b → AreOne b a o q
    → Has (event_step g b (state_after g b K) r.event).1 o → ShowsAt g b r K o.0 o.1 → IsShown g a r K q.0 q.1
shown_here g a b r K o q w actor one among shows =
    let Among = λ (x : Actor) (y : Out). Has (event_step g x (state_after g x K) r.event).1 y in
    record {
      sender = actor ∙ one.actor;
      among = subst (λ (x : Actor). Among x q) one.actor (subst (λ (y : Out). Among b y) one.out among);
      shows = subst (λ (x : Actor). ShowsAt g x r K q.0 q.1) one.actor (subst (λ (y : Out). ShowsAt g b r K y.0 y.1) one.out shows);
    }

-- any record that sends the parcel of a message that fits is its sender's, and the message shows it
pub shown_by : (g : Group) (J : List Record) → World g J → (a : Actor) (r : Record) (K : List Record) (to : Actor) (message : Message) → At J (r ∷ K)
    → FitsOut a (to, message) → Has r.sends (parcel a (to, message)) → IsShown g a r K to message
shown_by g J w a r K to message at fits has =
    let now = at_world g J (r ∷ K) w at in
    let t = sent_by g r K (parcel a (to, message)) now has in
    let one = same_out r.actor a t.out (to, message) (fits_here g r K t.out now t.among) fits (sym t.is) in
    shown_here g a r.actor r K t.out (to, message) now refl one t.among (shown g r K t.out now t.among)

-- ---- what is read

-- what is read of a parcel that was sent is its message, which fits
pub record IsReadRight (a : Actor) (p : Parcel) (e : Envelope) : Type 0 where
  pub is : p ≡ parcel e.from (a, e.message)
  pub fits : FitsOut e.from (a, e.message)

right_by : (f : ℕ) (a by : Actor) (o : Out) (e : Envelope) → FitsOut by o → accepted_envelope f a (parcel by o) ≡ Some e → IsReadRight a (parcel by o) e
right_by f a by o e fit heard = elim (received_is f a by o fit) [
  | inl none ↦ absurd (none-some e (sym none ∙ heard))
  | inr y ↦
      let own : Envelope = record { from = by; to = o.0; message = o.1 } in
      let same : own ≡ e = same_Some own e (sym y.is ∙ heard) in
      let read = is_read f a (parcel by o) e heard in
      let mine : e.to ≡ a = same_actor e.to a read.to_me in
      let to : o.0 ≡ a = ap (λ (x : Envelope). x.to) same ∙ mine in
      let from = ap (λ (x : Envelope). x.from) same in
      let message = ap (λ (x : Envelope). x.message) same in
      let fits : FitsOut e.from (e.to, e.message) = subst (λ (x : Envelope). FitsOut x.from (x.to, x.message)) same fit in
      record {
        is = λ i. parcel (from i) (to i, message i);
        fits = subst (λ (x : Actor). FitsOut e.from (x, e.message)) mine fits;
      }
]

pub read_right : (g : Group) (J : List Record) → World g J → (a : Actor) (p : Parcel) (e : Envelope) → Has (sent_in J) p → accepted_envelope g.f a p ≡ Some e
    → IsReadRight a p e
read_right g J w a p e has heard =
    let s = sent_from (Fitted g J) J p (all_fit g J w).sends has in
    subst (λ (q : Parcel). IsReadRight a q e) (sym s.is) (right_by g.f a s.by s.out e s.has (ap (accepted_envelope g.f a) (sym s.is) ∙ heard))

-- what is read of a parcel that was sent shows its sender at the record that first sent it
pub record HasSenderShown (g : Group) (J : List Record) (p : Parcel) (a : Actor) (e : Envelope) : Type 0 where
  pub newest : Record
  pub older : List Record
  pub first : source p J ≡ Some (newest ∷ older)
  pub at : At J (newest ∷ older)
  pub sender_shows : IsShown g e.from newest older a e.message

-- each parcel that is read shows its sender
pub sender_is_shown : (g : Group) (J : List Record) → World g J → (a : Actor) (p : Parcel) (e : Envelope) → Has (sent_in J) p
    → accepted_envelope g.f a p ≡ Some e → HasSenderShown g J p a e
sender_is_shown g J w a p e has heard =
    let right = read_right g J w a p e has heard in
    let k = has_source p J has in
    let s = source_is p J k.0 k.1 in
    let sends = subst (λ (q : Parcel). Has s.newest.sends q) right.is s.sends in
    record {
      newest = s.newest;
      older = s.older;
      first = k.1 ∙ ap Some s.is;
      at = s.at;
      sender_shows = shown_by g J w e.from s.newest s.older a e.message s.at right.fits sends;
    }

-- ---- what is heard in a record

-- the event delivers a parcel that is read as the message from the actor
pub record Delivers (g : Group) (a : Actor) (e : Event) (from : Actor) (message : Message) : Type 0 where
  pub parcel : Parcel
  pub is : e ≡ Deliver parcel
  pub envelope : Envelope
  pub read : accepted_envelope g.f a parcel ≡ Some envelope
  pub from_is : envelope.from ≡ from
  pub message_is : envelope.message ≡ message
  pub counts : IsRead g.f a parcel envelope

delivers_by : (g : Group) (a : Actor) (p : Parcel) (x : Option Envelope) (from : Actor) (message : Message) → accepted_envelope g.f a p ≡ x
    → heard_as x ≡ Some (from, message) → Delivers g a (Deliver p) from message
delivers_by g a p None from message is h = absurd (none-some (from, message) h)
delivers_by g a p (Some e) from message is h =
    let t = same_Some (e.from, e.message) (from, message) h in
    record {
      parcel = p;
      is = refl;
      envelope = e;
      read = is;
      from_is = ap (λ (x : Actor × Message). x.0) t;
      message_is = ap (λ (x : Actor × Message). x.1) t;
      counts = is_read g.f a p e is;
    }

-- a message that is heard was in a parcel
pub delivers : (g : Group) (a : Actor) (e : Event) (from : Actor) (message : Message) → heard_at g a e ≡ Some (from, message) → Delivers g a e from message
delivers g a (Deliver p) from message h = delivers_by g a p (accepted_envelope g.f a p) from message refl h
delivers g a (Cut kept p) from message h = absurd (none-some (from, message) h)
delivers g a (Tick clock) from message h = absurd (none-some (from, message) h)
delivers g a Alarm from message h = absurd (none-some (from, message) h)
delivers g a Crash from message h = absurd (none-some (from, message) h)
delivers g a (Restart nonce) from message h = absurd (none-some (from, message) h)

-- what an actor hears in a record was sent before, and fits
pub record WasSent (J : List Record) (a from : Actor) (message : Message) : Type 0 where
  pub sent : Has (sent_in J) (parcel from (a, message))
  pub fits : FitsOut from (a, message)

pub was_sent : (g : Group) (r : Record) (K : List Record) → World g (r ∷ K) → (a from : Actor) (message : Message) → r.actor ≡ a
    → heard_at g a r.event ≡ Some (from, message) → WasSent K a from message
was_sent g r K w a from message actor heard =
    let d = delivers g a r.event from message heard in
    let may : MayHappen K a (Deliver d.parcel) = subst (MayHappen K a) d.is (subst (λ (x : Actor). MayHappen K x r.event) actor w.0.event) in
    let right = read_right g K w.1 a d.parcel d.envelope may.1 d.read in
    record {
      sent = subst (λ (q : Parcel). Has (sent_in K) q) (right.is ∙ (λ i. parcel (d.from_is i) (a, d.message_is i))) may.1;
      fits = subst (λ (x : Actor). FitsOut x (a, message)) d.from_is (subst (λ (y : Message). FitsOut d.envelope.from (a, y)) d.message_is right.fits);
    }

-- ---- what a tell has taken in

past_none : (xs : List ℕ) (k : ℕ) → length xs ≤ k → slice_index xs k ≡ 0
past_none [] k le = refl
past_none (x ∷ xs) zero le = absurd (omega (arith, le))
past_none (x ∷ xs) (suc k) le = past_none xs k (omega (arith, le))

takes_in : (u v : List ℕ) (own k : ℕ) → length u ≡ length v → k ≢ own → slice_index v k ≤ slice_index (merged_vector u v own) k
takes_in u v own k same other = elim (within k) [
  | inl lt ↦ let e = merged-elsewhere u v own k same lt other in omega (arith, e)
  | inr le ↦ let e = past_none v k (omega (arith, le, same)) in omega (arith, e)
]
  where
    within : (k : ℕ) → (k < length u) ⊎ (length u ≤ k)
    within k = grind arith

size_of : (f : ℕ) (o : Option (List ℕ)) (u : List ℕ) → o ≡ Some u → is_sized f o ≡ true → length u ≡ replica_count f
size_of f None u e h = absurd (none-some u e)
size_of f (Some v) u e h = ap length (sym (same_Some v u e)) ∙ eqb-true (length v) (replica_count f) h

-- the vector of an ask whose vector was merged, off the own place
ask_is_merged : (g : Group) (m : ℕ) (r : Record) (K : List Record) (from : Actor) (message : Message) (u : List ℕ) → World g K
    → heard_at g (Replica m) r.event ≡ Some (from, message) → message_vector message ≡ Some u
    → (replica_at g m (r ∷ K)).vector ≡ merged_vector (replica_at g m K).vector u m
    → (k : ℕ) → k ≢ m → slice_index u k ≤ slice_index (replica_at g m (r ∷ K)).vector k
ask_is_merged g m r K from message u w heard carries taken k other =
    let d = delivers g (Replica m) r.event from message heard in
    let size = size_of g.f (message_vector message) u carries (ap (λ (x : Message). is_sized g.f (message_vector x)) (sym d.message_is) ∙ d.counts.sized) in
    let own = ((all_fit g K w).states (Replica m)).tables.vector.size in
    subst (λ (v : List ℕ). slice_index u k ≤ slice_index v k) (sym taken) (takes_in (replica_at g m K).vector u m k (own ∙ sym size) other)

pub rejoin_tell_takes : (g : Group) (m : ℕ) (r : Record) (K : List Record) (to : Actor) (b : RejoinTellBody) → World g K
    → (w : ShowsRejoinTell g.f m (heard_at g (Replica m) r.event) (replica_at g m K) (replica_at g m (r ∷ K)) to b)
    → (k : ℕ) → k ≢ m → slice_index w.ask.vector k ≤ slice_index (replica_at g m (r ∷ K)).vector k
rejoin_tell_takes g m r K to b world w k other =
    ask_is_merged g m r K (Replica w.asker) (messages.RejoinAsk w.ask) w.ask.vector world w.hears refl w.taken k other

pub state_tell_takes : (g : Group) (m : ℕ) (r : Record) (K : List Record) (to : Actor) (b : StateTellBody) → World g K
    → (w : ShowsStateTell g.f m (heard_at g (Replica m) r.event) (replica_at g m K) (replica_at g m (r ∷ K)) to b)
    → (k : ℕ) → k ≢ m → slice_index w.ask.vector k ≤ slice_index (replica_at g m (r ∷ K)).vector k
state_tell_takes g m r K to b world w k other =
    ask_is_merged g m r K (Replica w.asker) (messages.StateAsk w.ask) w.ask.vector world w.hears refl w.taken k other
