-- What a record does to the states, and the theorem that what each step keeps holds of every run.
use Rattle.std.proofs.Common.{◌≡◌, ℕ, ◌≤◌, ◌<◌, ◌^◌, Bool, true, false, cond, ◌&&◌, not, List, [], ◌∷◌, ◌++◌}
use Rattle.std.proofs.Common.{map, Option, Some, None, Ok, refl, sym, ap, subst, ◌∙◌, inl, inr, ◌⊎◌}
use Rattle.std.proofs.lemmas.Bool.{and_parts, cond_both}
use Rattle.std.specs.List.{AllByRecursion}
use Rattle.nz_base.specs.declared.actor.Actor.{Actor}
use Rattle.nz_base.specs.Actor.{actor_eq, HasAddress}
use Rattle.nz_base.proofs.Names.{actor_eq_self, same_actor}
use Rattle.nz_base.specs.declared.limits.TheConstants.{MAX_CLOCK}
use Rattle.nz_msg.specs.declared.message.Message.{Message}
use Rattle.nz_msg.specs.declared.envelope.Envelope.{Envelope}
use Rattle.nz_msg.specs.Messages.{Fits}
use Rattle.nz_msg.specs.Envelope.{encode_of, decode_of}
use Rattle.nz_msg.proofs.Envelopes.{decode-encode}
use Rattle.nz_machine.specs.declared.event.Parcel.{Parcel}
use Rattle.nz_machine.specs.declared.event.Event.{Event}
use Rattle.nz_machine.specs.declared.event.Event.TheVariants.{Deliver, Cut, Tick, Alarm, Crash, Restart}
use Rattle.nz_machine.specs.declared.event.Record.{Record}
use Rattle.nz_machine.specs.rules.State.{ReplicaData, State, Group, Out}
use Rattle.nz_machine.specs.rules.Replicas.{is_down}
use Rattle.nz_machine.specs.rules.Step.{first, is_in_cluster, is_sized, message_vector, is_for, envelope_if_for, envelope_for, if_from_cluster}
use Rattle.nz_machine.specs.rules.Step.{accepted_envelope, message_step, envelope_step, tick_step, alarm_step, crash_step, restart_step, event_step, parcel}
use Rattle.nz_machine.specs.runs.World.{state_after, sent_in, Has, IsGroup, MayHappen, World}
use Rattle.nz_machine.proofs.lists.EachItem.{all_imply}

-- ---- states

-- The actor of a record has the state of the record's step.
pub acts : (g : Group) (a : Actor) (r : Record) (J : List Record) → actor_eq r.actor a ≡ true
    → state_after g a (r ∷ J) ≡ (event_step g a (state_after g a J) r.event).0
unfolding state_after
acts g a r J e = ap (λ b. cond b (event_step g a (state_after g a J) r.event).0 (state_after g a J)) e

-- Any other actor stays as it was.
pub stays : (g : Group) (a : Actor) (r : Record) (J : List Record) → actor_eq r.actor a ≡ false → state_after g a (r ∷ J) ≡ state_after g a J
unfolding state_after
stays g a r J e = ap (λ b. cond b (event_step g a (state_after g a J) r.event).0 (state_after g a J)) e

-- the actor of a record acts
pub acts_itself : (g : Group) (a : Actor) (r : Record) (J : List Record) → r.actor ≡ a
    → state_after g a (r ∷ J) ≡ (event_step g a (state_after g a J) r.event).0
acts_itself g a r J e = acts g a r J (ap (λ (x : Actor). actor_eq x a) e ∙ actor_eq_self a)

-- a record is of the actor, or leaves its state
pub record MayAct (g : Group) (a : Actor) (r : Record) (J : List Record) : Type 0 where
  pub cases : ((r.actor ≡ a) × (state_after g a (r ∷ J) ≡ (event_step g a (state_after g a J) r.event).0)) ⊎ (state_after g a (r ∷ J) ≡ state_after g a J)

may_act_by : (g : Group) (a : Actor) (r : Record) (J : List Record) (b : Bool) → actor_eq r.actor a ≡ b → MayAct g a r J
may_act_by g a r J true e = record { cases = inl (same_actor r.actor a e, acts g a r J e) }
may_act_by g a r J false e = record { cases = inr (stays g a r J e) }

pub may_act : (g : Group) (a : Actor) (r : Record) (J : List Record) → MayAct g a r J
may_act g a r J = may_act_by g a r J (actor_eq r.actor a) refl

pub group_of : (g : Group) (J : List Record) → World g J → IsGroup g
group_of g [] w = w
group_of g (r ∷ J) w = group_of g J w.1

-- ---- elements of lists

pub has_left : {X : Type 0} (xs ys : List X) (x : X) → Has xs x → Has (xs ++ ys) x
has_left [] ys x h = absurd h
has_left (z ∷ xs) ys x (inl e) = inl e
has_left (z ∷ xs) ys x (inr h) = inr (has_left xs ys x h)

pub has_right : {X : Type 0} (xs ys : List X) (y : X) → Has ys y → Has (xs ++ ys) y
has_right [] ys y h = h
has_right (z ∷ xs) ys y h = inr (has_right xs ys y h)

pub has_split : {X : Type 0} (xs ys : List X) (x : X) → Has (xs ++ ys) x → Has xs x ⊎ Has ys x
has_split [] ys x h = inr h
has_split (z ∷ xs) ys x (inl e) = inl (inl e)
has_split (z ∷ xs) ys x (inr h) = elim (has_split xs ys x h) [ inl a ↦ inl (inr a) | inr b ↦ inr b ]

pub all_has : {X : Type 0} (P : X → Type 0) (xs : List X) (x : X) → AllByRecursion P xs → Has xs x → P x
all_has P [] x all h = absurd h
all_has P (z ∷ xs) x all (inl e) = subst P e all.0
all_has P (z ∷ xs) x all (inr h) = all_has P xs x all.1 h

-- what holds of each member of a list holds of each item
pub all_if_has : {X : Type 0} (P : X → Type 0) (xs : List X) → ((x : X) → Has xs x → P x) → AllByRecursion P xs
all_if_has P [] h = tt
all_if_has P (x ∷ xs) h = (h x (inl refl), all_if_has P xs (λ y k. h y (inr k)))

-- ---- choices

-- what is down does nothing
pub unless_down : (P : ReplicaData × List Out → Type 0) (s : ReplicaData) (t : ReplicaData × List Out) → P (s, []) → P t → P (cond (is_down s.status) (s, []) t)
unless_down P s t h k = cond_both (is_down s.status) (s, []) t P (λ _. h) (λ _. k)

-- ---- sends

among_outs : (a : Actor) (os : List Out) (p : Parcel) → Has (map (parcel a) os) p → (o : Out) × ((p ≡ parcel a o) × Has os o)
among_outs a [] p h = absurd h
among_outs a (o ∷ os) p (inl e) = (o, (sym e, inl refl))
among_outs a (o ∷ os) p (inr h) = let t = among_outs a os p h in (t.0, (t.1.0, inr t.1.1))

-- the parcel is of a message that the record's step sends
pub record SentBy (g : Group) (r : Record) (J : List Record) (p : Parcel) : Type 0 where
  pub out : Out
  pub is : p ≡ parcel r.actor out
  pub among : Has (event_step g r.actor (state_after g r.actor J) r.event).1 out

pub sent_by : (g : Group) (r : Record) (J : List Record) (p : Parcel) → World g (r ∷ J) → Has r.sends p → SentBy g r J p
sent_by g r J p w h =
    let outs = (event_step g r.actor (state_after g r.actor J) r.event).1 in
    let t = among_outs r.actor outs p (subst (λ (ps : List Parcel). Has ps p) w.0.sends h) in
    record { out = t.0; is = t.1.0; among = t.1.1 }

-- the parcels are those of some messages, each of which has P
abbrev pub AreOf : (Out → Type 0) → Actor → List Parcel → Type 0
AreOf P a ps = (os : List Out) × (ps ≡ map (parcel a) os) × AllByRecursion P os

-- a parcel that was sent: by whom, and the message
pub record Sent (P : Actor → Out → Type 0) (p : Parcel) : Type 0 where
  pub by : Actor
  pub out : Out
  pub is : p ≡ parcel by out
  pub has : P by out

pub sent_from : (P : Actor → Out → Type 0) (J : List Record) (p : Parcel)
    → AllByRecursion (λ (r : Record). AreOf (P r.actor) r.actor r.sends) J → Has (sent_in J) p → Sent P p
sent_from P [] p all h = absurd h
sent_from P (r ∷ J) p all h = elim (has_split r.sends (sent_in J) p h) [
  | inl now ↦
      let t = among_outs r.actor all.0.0 p (subst (λ (ps : List Parcel). Has ps p) all.0.1 now) in
      record { by = r.actor; out = t.0; is = t.1.0; has = all_has (P r.actor) all.0.0 t.0 all.0.2 t.1.1 }
  | inr old ↦ sent_from P J p all.1 old
]

-- ---- what is read

-- a message that a frame can carry, from one actor to another
pub record FitsOut (a : Actor) (o : Out) : Type 0 where
  pub sender : HasAddress a
  pub receiver : HasAddress o.0
  pub message : Fits o.1

abbrev pub AllFit : Actor → List Out → Type 0
AllFit a os = AllByRecursion (FitsOut a) os

-- an actor takes the message: it is another's, and it counts in a cluster of this size
pub record Hears (f : ℕ) (me from : Actor) (m : Message) : Type 0 where
  pub other : not (actor_eq from me) ≡ true
  pub counts : (is_in_cluster f from && is_sized f (message_vector m)) ≡ true

pub record IsHeard (f : ℕ) (me : Actor) (e : Envelope) (x : Option Envelope) : Type 0 where
  pub is : x ≡ Some e
  pub hears : Hears f me e.from e.message

counted_is : (f : ℕ) (a : Actor) (p : Parcel) (e : Envelope) (b c : Bool) → is_for a p e ≡ b
    → (is_in_cluster f e.from && is_sized f (message_vector e.message)) ≡ c
    → (if_from_cluster f (envelope_if_for a p (Ok e)) ≡ None) ⊎ IsHeard f a e (if_from_cluster f (envelope_if_for a p (Ok e)))
counted_is f a p e false c h k = inl (ap (λ b. if_from_cluster f (cond b (Some e) None)) h)
counted_is f a p e true false h k = inl (ap (λ b. if_from_cluster f (cond b (Some e) None)) h ∙ ap (λ c. cond c (Some e) None) k)
counted_is f a p e true true h k = inr (record {
  is = ap (λ b. if_from_cluster f (cond b (Some e) None)) h ∙ ap (λ c. cond c (Some e) None) k;
  hears = record {
    other =
        (and_parts (actor_eq e.to a) (not (actor_eq e.from a))
        (and_parts (actor_eq e.to p.to) (actor_eq e.to a && not (actor_eq e.from a))
        (and_parts (actor_eq e.from p.from) (actor_eq e.to p.to && (actor_eq e.to a && not (actor_eq e.from a))) h).1).1).1;
    counts = k;
  };
})

-- a parcel of a message that fits is read as that message, if it is read at all
pub received_is : (f : ℕ) (a by : Actor) (o : Out) → FitsOut by o
    → (accepted_envelope f a (parcel by o) ≡ None) ⊎ IsHeard f a (record { from = by; to = o.0; message = o.1 }) (accepted_envelope f a (parcel by o))
unfolding envelope_for
received_is f a by o fit =
    let e : Envelope = record { from = by; to = o.0; message = o.1 } in
    let d : decode_of (encode_of by o.0 o.1) ≡ Ok e = decode-encode by o.0 o.1 fit.sender fit.receiver fit.message in
    let same : accepted_envelope f a (parcel by o) ≡ if_from_cluster f (envelope_if_for a (parcel by o) (Ok e)) =
    ap (λ x. if_from_cluster f (envelope_if_for a (parcel by o) x)) d in
    elim (counted_is f a (parcel by o) e (is_for a (parcel by o) e) (is_in_cluster f by && is_sized f (message_vector o.1)) refl refl) [
      | inl n ↦ inl (same ∙ n)
      | inr y ↦ inr (record { is = same ∙ y.is; hears = y.hears })
    ]

-- ---- runs

module _ (g : Group) (P : List Record → Actor → Out → Type 0) (Q : List Record → (a : Actor) → State a → Type 0) where
  -- each message that was sent has P, and each actor's state has Q
  pub record Holds (J : List Record) : Type 0 where
    pub sends : AllByRecursion (λ (r : Record). AreOf (P J r.actor) r.actor r.sends) J
    pub states : (a : Actor) → Q J a (state_after g a J)

  abbrev pub StepHas : List Record → (a : Actor) → State a × List Out → Type 0
  StepHas J a t = Q J a t.0 × AllByRecursion (P J a) t.1

  -- what is to be shown of the machine's rules
  pub record Keeps : Type 0 where
    pub fits : (J : List Record) (a : Actor) (o : Out) → P J a o → FitsOut a o
    pub start : (a : Actor) → Q [] a (first g a)
    pub sent_stays : (J : List Record) (r : Record) → World g (r ∷ J) → (a : Actor) (o : Out) → P J a o → P (r ∷ J) a o
    pub state_stays : (J : List Record) (r : Record) → World g (r ∷ J) → (a : Actor) (s : State a) → Q J a s → Q (r ∷ J) a s
    pub message : (J : List Record) (r : Record) → World g (r ∷ J) → (from : Actor) (m : Message)
        → Hears g.f r.actor from m → P J from (r.actor, m) → Q J r.actor (state_after g r.actor J)
        → state_after g r.actor (r ∷ J) ≡ (message_step g r.actor (state_after g r.actor J) from m).0
        → StepHas (r ∷ J) r.actor (message_step g r.actor (state_after g r.actor J) from m)
    pub tick : (J : List Record) (r : Record) → World g (r ∷ J) → (c : ℕ) → c ≤ MAX_CLOCK → Q J r.actor (state_after g r.actor J)
        → state_after g r.actor (r ∷ J) ≡ (tick_step g r.actor (state_after g r.actor J) c).0
        → StepHas (r ∷ J) r.actor (tick_step g r.actor (state_after g r.actor J) c)
    pub alarm : (J : List Record) (r : Record) → World g (r ∷ J) → Q J r.actor (state_after g r.actor J)
        → state_after g r.actor (r ∷ J) ≡ (alarm_step g r.actor (state_after g r.actor J)).0
        → StepHas (r ∷ J) r.actor (alarm_step g r.actor (state_after g r.actor J))
    pub crash : (J : List Record) (r : Record) → World g (r ∷ J) → Q J r.actor (state_after g r.actor J)
        → state_after g r.actor (r ∷ J) ≡ (crash_step g r.actor (state_after g r.actor J)).0
        → StepHas (r ∷ J) r.actor (crash_step g r.actor (state_after g r.actor J))
    pub restart : (J : List Record) (r : Record) → World g (r ∷ J) → (nonce : ℕ) → nonce < 2 ^ 64 → Q J r.actor (state_after g r.actor J)
        → state_after g r.actor (r ∷ J) ≡ (restart_step g r.actor (state_after g r.actor J) nonce).0
        → StepHas (r ∷ J) r.actor (restart_step g r.actor (state_after g r.actor J) nonce)

  -- a message that was sent to the actor
  pub record ReadsMessage (J : List Record) (a : Actor) (x : Option Envelope) : Type 0 where
    pub from : Actor
    pub message : Message
    pub is : x ≡ Some (record { from = from; to = a; message = message })
    pub hears : Hears g.f a from message
    pub has : P J from (a, message)

  -- what an actor reads of a parcel that was sent
  abbrev pub Reads : List Record → Actor → Option Envelope → Type 0
  Reads J a x = (x ≡ None) ⊎ ReadsMessage J a x

  reads_sent : (J : List Record) (a : Actor) (q : Parcel) → q.to ≡ a → (s : Sent (P J) q) → FitsOut s.by s.out → Reads J a (accepted_envelope g.f a q)
  reads_sent J a q e s fit =
      let to : s.out.0 ≡ a = sym (ap (λ (x : Parcel). x.to) s.is) ∙ e in
      let same = ap (accepted_envelope g.f a) s.is in
      elim (received_is g.f a s.by s.out fit) [
        | inl n ↦ inl (same ∙ n)
        | inr y ↦ inr (record {
          from = s.by;
          message = s.out.1;
          is = same ∙ y.is ∙ ap (λ (t : Actor). Some (record { from = s.by; to = t; message = s.out.1 })) to;
          hears = y.hears;
          has = subst (λ (t : Actor). P J s.by (t, s.out.1)) to s.has;
        })
      ]

  -- What is read of a parcel that may come has the fact of what was sent.
  pub delivered : Keeps → (J : List Record) → Holds J → (a : Actor) (q : Parcel) → MayHappen J a (Deliver q) → Reads J a (accepted_envelope g.f a q)
  delivered k J h a q may = let s = sent_from (P J) J q h.sends may.1 in reads_sent J a q may.0 s (k.fits J s.by s.out s.has)

  envelope_keeps : Keeps → (J : List Record) (r : Record) → World g (r ∷ J) → Q J r.actor (state_after g r.actor J) → (x : Option Envelope) → Reads J r.actor x
      → state_after g r.actor (r ∷ J) ≡ (envelope_step g r.actor (state_after g r.actor J) x).0
      → StepHas (r ∷ J) r.actor (envelope_step g r.actor (state_after g r.actor J) x)
  envelope_keeps k J r w q x (inl e) now =
      subst (λ y. StepHas (r ∷ J) r.actor (envelope_step g r.actor (state_after g r.actor J) y)) (sym e) (k.state_stays J r w r.actor _ q, tt)
  envelope_keeps k J r w q x (inr y) now =
      subst (λ y. StepHas (r ∷ J) r.actor (envelope_step g r.actor (state_after g r.actor J) y)) (sym y.is)
      (k.message J r w y.from y.message y.hears y.has q (now ∙ ap (λ y. (envelope_step g r.actor (state_after g r.actor J) y).0) y.is))

  event_keeps : Keeps → (J : List Record) (r : Record) → World g (r ∷ J) → Holds J → (e : Event) → MayHappen J r.actor e
      → state_after g r.actor (r ∷ J) ≡ (event_step g r.actor (state_after g r.actor J) e).0
      → StepHas (r ∷ J) r.actor (event_step g r.actor (state_after g r.actor J) e)
  event_keeps k J r w h (Deliver q) may now = envelope_keeps k J r w (h.states r.actor) (accepted_envelope g.f r.actor q) (delivered k J h r.actor q may) now
  event_keeps k J r w h (Cut kept q) may now = (k.state_stays J r w r.actor _ (h.states r.actor), tt)
  event_keeps k J r w h (Tick c) may now = k.tick J r w c may (h.states r.actor) now
  event_keeps k J r w h Alarm may now = k.alarm J r w (h.states r.actor) now
  event_keeps k J r w h Crash may now = k.crash J r w (h.states r.actor) now
  event_keeps k J r w h (Restart n) may now = k.restart J r w n may.0 (h.states r.actor) now

  state_keeps : Keeps → (J : List Record) (r : Record) → World g (r ∷ J) → Holds J
      → Q (r ∷ J) r.actor (event_step g r.actor (state_after g r.actor J) r.event).0
      → (a : Actor) (b : Bool) → actor_eq r.actor a ≡ b → Q (r ∷ J) a (state_after g a (r ∷ J))
  state_keeps k J r w h q a true e =
      let at_actor : Q (r ∷ J) r.actor (state_after g r.actor (r ∷ J)) =
      subst (λ s. Q (r ∷ J) r.actor s) (sym (acts g r.actor r J (actor_eq_self r.actor))) q in
      subst (λ (x : Actor). Q (r ∷ J) x (state_after g x (r ∷ J))) (same_actor r.actor a e) at_actor
  state_keeps k J r w h q a false e = subst (λ s. Q (r ∷ J) a s) (sym (stays g a r J e)) (k.state_stays J r w a _ (h.states a))

  -- Facts that each step keeps hold in every run.
  pub holds : Keeps → (J : List Record) → World g J → Holds J
  unfolding state_after
  holds k [] w = record { sends = tt; states = k.start }
  holds k (r ∷ J) w =
      let h = holds k J w.1 in
      let step = event_keeps k J r w h r.event w.0.event (acts g r.actor r J (actor_eq_self r.actor)) in
      record {
        sends = (
          ((event_step g r.actor (state_after g r.actor J) r.event).1, w.0.sends, step.1),
          all_imply (λ (q : Record). AreOf (P J q.actor) q.actor q.sends) (λ (q : Record). AreOf (P (r ∷ J) q.actor) q.actor q.sends)
              (λ q all. (all.0, all.1, all_imply (P J q.actor) (P (r ∷ J) q.actor) (λ o p. k.sent_stays J r w q.actor o p) all.0 all.2)) J h.sends,
        );
        states = λ a. state_keeps k J r w h step.0 a (actor_eq r.actor a) refl;
      }

  -- what a record sends
  pub sends_have : Keeps → (J : List Record) (r : Record) → World g (r ∷ J)
      → AllByRecursion (P (r ∷ J) r.actor) (event_step g r.actor (state_after g r.actor J) r.event).1
  sends_have k J r w = (event_keeps k J r w (holds k J w.1) r.event w.0.event (acts g r.actor r J (actor_eq_self r.actor))).1

-- ---- a second law over a first

module _ (g : Group) (P : List Record → Actor → Out → Type 0) (Q : List Record → (a : Actor) → State a → Type 0)
    (F : List Record → Actor → Out → Type 0) (R : List Record → (a : Actor) → State a → Type 0) where
  pub record KeepsMore : Type 0 where
    pub start : (a : Actor) → R [] a (first g a)
    pub sent_stays : (J : List Record) (r : Record) → World g (r ∷ J) → (a : Actor) (o : Out) → F J a o → F (r ∷ J) a o
    pub state_stays : (J : List Record) (r : Record) → World g (r ∷ J) → (a : Actor) (s : State a) → R J a s → R (r ∷ J) a s
    pub message : (J : List Record) (r : Record) → World g (r ∷ J) → (from : Actor) (m : Message)
        → Hears g.f r.actor from m → P J from (r.actor, m) → F J from (r.actor, m)
        → Q J r.actor (state_after g r.actor J) → R J r.actor (state_after g r.actor J)
        → state_after g r.actor (r ∷ J) ≡ (message_step g r.actor (state_after g r.actor J) from m).0
        → StepHas g F R (r ∷ J) r.actor (message_step g r.actor (state_after g r.actor J) from m)
    pub tick : (J : List Record) (r : Record) → World g (r ∷ J) → (c : ℕ) → c ≤ MAX_CLOCK
        → Q J r.actor (state_after g r.actor J) → R J r.actor (state_after g r.actor J)
        → state_after g r.actor (r ∷ J) ≡ (tick_step g r.actor (state_after g r.actor J) c).0
        → StepHas g F R (r ∷ J) r.actor (tick_step g r.actor (state_after g r.actor J) c)
    pub alarm : (J : List Record) (r : Record) → World g (r ∷ J) → Q J r.actor (state_after g r.actor J) → R J r.actor (state_after g r.actor J)
        → state_after g r.actor (r ∷ J) ≡ (alarm_step g r.actor (state_after g r.actor J)).0
        → StepHas g F R (r ∷ J) r.actor (alarm_step g r.actor (state_after g r.actor J))
    pub crash : (J : List Record) (r : Record) → World g (r ∷ J) → Q J r.actor (state_after g r.actor J) → R J r.actor (state_after g r.actor J)
        → state_after g r.actor (r ∷ J) ≡ (crash_step g r.actor (state_after g r.actor J)).0
        → StepHas g F R (r ∷ J) r.actor (crash_step g r.actor (state_after g r.actor J))
    pub restart : (J : List Record) (r : Record) → World g (r ∷ J) → (nonce : ℕ) → nonce < 2 ^ 64
        → Q J r.actor (state_after g r.actor J) → R J r.actor (state_after g r.actor J)
        → state_after g r.actor (r ∷ J) ≡ (restart_step g r.actor (state_after g r.actor J) nonce).0
        → StepHas g F R (r ∷ J) r.actor (restart_step g r.actor (state_after g r.actor J) nonce)

  abbrev pub BothSent : List Record → Actor → Out → Type 0
  BothSent J a o = P J a o × F J a o

  abbrev pub BothStates : List Record → (a : Actor) → State a → Type 0
  BothStates J a s = Q J a s × R J a s

  both_sends : (J : List Record) (a : Actor) (os : List Out) → AllByRecursion (P J a) os → AllByRecursion (F J a) os → AllByRecursion (BothSent J a) os
  both_sends J a [] p q = tt
  both_sends J a (o ∷ os) p q = ((p.0, q.0), both_sends J a os p.1 q.1)

  both_steps : (J : List Record) (a : Actor) (t : State a × List Out) → StepHas g P Q J a t → StepHas g F R J a t → StepHas g BothSent BothStates J a t
  both_steps J a t p q = ((p.0, q.0), both_sends J a t.1 p.1 q.1)

  pub keeps_both : Keeps g P Q → KeepsMore → Keeps g BothSent BothStates
  keeps_both k m = record {
    fits = λ J a o p. k.fits J a o p.0;
    start = λ a. (k.start a, m.start a);
    sent_stays = λ J r w a o p. (k.sent_stays J r w a o p.0, m.sent_stays J r w a o p.1);
    state_stays = λ J r w a s q. (k.state_stays J r w a s q.0, m.state_stays J r w a s q.1);
    message =
        λ J r w from msg hears p q now. both_steps (r ∷ J) r.actor _ (k.message J r w from msg hears p.0 q.0 now)
        (m.message J r w from msg hears p.0 p.1 q.0 q.1 now);
    tick = λ J r w c le q now. both_steps (r ∷ J) r.actor _ (k.tick J r w c le q.0 now) (m.tick J r w c le q.0 q.1 now);
    alarm = λ J r w q now. both_steps (r ∷ J) r.actor _ (k.alarm J r w q.0 now) (m.alarm J r w q.0 q.1 now);
    crash = λ J r w q now. both_steps (r ∷ J) r.actor _ (k.crash J r w q.0 now) (m.crash J r w q.0 q.1 now);
    restart = λ J r w n small q now. both_steps (r ∷ J) r.actor _ (k.restart J r w n small q.0 now) (m.restart J r w n small q.0 q.1 now);
  }
