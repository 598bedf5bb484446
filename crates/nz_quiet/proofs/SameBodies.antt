-- The requests in flight to one replica are those in flight to another.
use Rattle.std.proofs.Common.{◌≡◌, ℕ, zero, suc, ◌<◌, ◌≤◌, Bool, false, cond, eqb, List, [], ◌∷◌, ◌++◌, map, Option, Some, None}
use Rattle.std.proofs.Common.{append_assoc, refl, sym, ap, subst, ◌∙◌, inl, inr, arith}
use Rattle.std.specs.List.{AllByRecursion}
use Rattle.std.proofs.lemmas.Bool.{cases_Bool, cond_both, eqb-true}
use Rattle.std.proofs.lemmas.Bool.Decides.{nat_tests}
use Rattle.std.proofs.lemmas.List.{map-append, append-nil}
use Rattle.nz_base.specs.Actor.{actor_eq}
use Rattle.nz_base.specs.Cluster.{replica_count}
use Rattle.nz_base.specs.declared.actor.Actor.{Actor}
use Rattle.nz_base.specs.declared.actor.Actor.TheVariants.{Replica, Proxy, Client}
use Rattle.nz_base.specs.declared.key.Id.{Id}
use Rattle.nz_store.specs.declared.command.Answer.{Answer}
use Rattle.nz_msg.specs.declared.envelope.Envelope.{Envelope}
use Rattle.nz_msg.specs.declared.message.Path.{Path}
use Rattle.nz_msg.specs.declared.message.TimedBody.{TimedBody}
use Rattle.nz_msg.specs.declared.message.Message.{Message}
use Rattle.nz_msg.specs.declared.message.Message.TheVariants as messages
use Rattle.nz_machine.specs.declared.event.Event.{Event}
use Rattle.nz_machine.specs.declared.event.Event.TheVariants.{Deliver, Cut, Tick, Alarm, Crash, Restart}
use Rattle.nz_machine.specs.declared.event.Record.{Record}
use Rattle.nz_machine.specs.declared.reply.Reply.{Reply}
use Rattle.nz_machine.specs.rules.State.{ReplicaData, ProxyData, ClientData, State, Standing, Open, Decided, Group, Out}
use Rattle.nz_machine.specs.rules.Replicas.{numbers_below}
use Rattle.nz_machine.specs.runs.Hearing.{Heard}
use Rattle.nz_machine.specs.rules.Proxies.{standing_of, timed_to, after_stamp, stamp_rule}
use Rattle.nz_machine.specs.rules.Proxies.{after_chosen_answer, after_choice, after_replica_reply, reply_rule, of_fast, of_slow, clock_rule}
use Rattle.nz_machine.specs.rules.Quorums.{Chosen, decision, answer_in, with_note}
use Rattle.nz_machine.specs.runs.Shows.{Shows}
use Rattle.nz_machine.specs.rules.Step.{proxy_message, accepted_envelope, envelope_step, event_step}
use Rattle.nz_machine.specs.runs.World.{state_after, World}
use Rattle.nz_machine.proofs.shows.SentMessages.{shown}
use Rattle.nz_quiet.specs.Folds.{flight_of, heard_by}
use Rattle.nz_quiet.specs.Replicas.{bodies_of}
use Rattle.nz_quiet.proofs.Elements.{all_of_each}
use Rattle.nz_quiet.proofs.Flight.{outs_in}

-- the requests in flight to a replica
abbrev bodies_to : ℕ → List (Actor × Out) → List TimedBody
bodies_to r xs = bodies_of (heard_by (Replica r) xs)

-- what one message is of them
abbrev pub body_in : Message → List TimedBody
body_in (messages.Timed b) = b ∷ []
body_in _ = []

pub bodies_more : (from : Actor) (m : Message) (hs : List (Actor × Message)) → bodies_of ((from, m) ∷ hs) ≡ body_in m ++ bodies_of hs
bodies_more from (messages.Timed b) hs = refl
bodies_more from m hs = refl

bodies_first : (r : ℕ) (x : Actor × Out) (xs : List (Actor × Out))
    → bodies_to r (x ∷ xs) ≡ cond (actor_eq x.1.0 (Replica r)) (body_in x.1.1) [] ++ bodies_to r xs
bodies_first r x xs = elim (cases_Bool (actor_eq x.1.0 (Replica r))) [
  | inl mine ↦ rw mine (bodies_more x.0 x.1.1 (heard_by (Replica r) xs))
  | inr other ↦ rw other refl
]

bodies_join : (r : ℕ) (xs ys : List (Actor × Out)) → bodies_to r (xs ++ ys) ≡ bodies_to r xs ++ bodies_to r ys
bodies_join r [] ys = refl
bodies_join r (x ∷ xs) ys =
    let first = cond (actor_eq x.1.0 (Replica r)) (body_in x.1.1) [] in
    bodies_first r x (xs ++ ys) ∙ ap (λ (bs : List TimedBody). first ++ bs) (bodies_join r xs ys)
    ∙ sym (append_assoc first (bodies_to r xs) (bodies_to r ys))
    ∙ ap (λ (bs : List TimedBody). bs ++ bodies_to r ys) (sym (bodies_first r x xs))

-- what an actor sends
abbrev from_actor : Actor → List Out → List (Actor × Out)
from_actor a os = map (λ (o : Out). (a, o)) os

-- ---- no request

abbrev NoRequest : Message → Type 0
NoRequest (messages.Timed b) = ⊥
NoRequest _ = Unit {0}

no_body : (m : Message) → NoRequest m → body_in m ≡ []
no_body (messages.Timed b) none = absurd none
no_body m none = refl

no_bodies : (r : ℕ) (a : Actor) (os : List Out) → AllByRecursion (λ (o : Out). NoRequest o.1) os → bodies_to r (from_actor a os) ≡ []
no_bodies r a [] none = refl
no_bodies r a (o ∷ os) none =
    bodies_first r (a, o) (from_actor a os)
    ∙ ap (λ (bs : List TimedBody). cond (actor_eq o.0 (Replica r)) bs [] ++ bodies_to r (from_actor a os)) (no_body o.1 none.0)
    ∙ cond_both (actor_eq o.0 (Replica r)) [] [] (λ (bs : List TimedBody). bs ++ bodies_to r (from_actor a os) ≡ []) (λ _. no_bodies r a os none.1)
    (λ _. no_bodies r a os none.1)

-- ---- a proxy

module _ (f : ℕ) (s : ProxyData) (id : Id) (command : List ℕ) (r : ℕ) (a : Actor) where
  -- the request as it goes to the first replicas
  abbrev stamped_to : ℕ → List (Actor × Out)
  stamped_to n = from_actor a (map (timed_to s id command) (numbers_below n))

  abbrev body_of : ℕ → List TimedBody
  body_of k = body_in (timed_to s id command k).1

  one_more : (n : ℕ) → bodies_to r (stamped_to (suc n)) ≡ bodies_to r (stamped_to n) ++ cond (eqb n r) (body_of r) []
  one_more n =
      ap (λ (os : List Out). bodies_to r (from_actor a os)) (map-append (timed_to s id command) (numbers_below n) (n ∷ []))
      ∙ ap (bodies_to r) (map-append (λ (o : Out). (a, o)) (map (timed_to s id command) (numbers_below n)) (timed_to s id command n ∷ []))
      ∙ bodies_join r (stamped_to n) (from_actor a (timed_to s id command n ∷ []))
      ∙ ap (λ (bs : List TimedBody). bodies_to r (stamped_to n) ++ bs)
      (cond_both (eqb n r) (body_of r) [] (λ (bs : List TimedBody). bodies_to r ((a, timed_to s id command n) ∷ []) ≡ bs)
      (λ e. ap (λ (b : Bool). bodies_of (cond b ((a, (timed_to s id command n).1) ∷ []) [])) e)
      (λ e. ap (λ (b : Bool). bodies_of (cond b ((a, (timed_to s id command n).1) ∷ []) [])) e))

  none_yet : (n : ℕ) → n ≤ r → bodies_to r (stamped_to n) ≡ []
  none_yet zero le = refl
  none_yet (suc n) le =
      let away : eqb n r ≡ false = grind (arith, nat_tests, le) in
      one_more n ∙ ap (λ (b : Bool). bodies_to r (stamped_to n) ++ cond b (body_of r) []) away
      ∙ append-nil (bodies_to r (stamped_to n)) ∙ none_yet n (omega (arith, le))

  once : (n : ℕ) → r < n → bodies_to r (stamped_to n) ≡ body_of r
  once zero lt = absurd (omega (arith, lt))
  once (suc n) lt = elim (cases_Bool (eqb n r)) [
    | inl here ↦
        let same : n ≡ r = eqb-true n r here in
        one_more n ∙ ap (λ (b : Bool). bodies_to r (stamped_to n) ++ cond b (body_of r) []) here
        ∙ ap (λ (bs : List TimedBody). bs ++ body_of r) (none_yet n (omega (arith, same)))
    | inr away ↦
        one_more n ∙ ap (λ (b : Bool). bodies_to r (stamped_to n) ++ cond b (body_of r) []) away
        ∙ append-nil (bodies_to r (stamped_to n)) ∙ once n (grind (arith, nat_tests, lt, away))
  ]

module _ (g : Group) (p r q : ℕ) (first : r < replica_count g.f) (second : q < replica_count g.f) where
  -- both replicas get the same requests
  abbrev AreSame : List Out → Type 0
  AreSame os = bodies_to r (from_actor (Proxy p) os) ≡ bodies_to q (from_actor (Proxy p) os)

  none_same : (os : List Out) → AllByRecursion (λ (o : Out). NoRequest o.1) os → AreSame os
  none_same os none = no_bodies r (Proxy p) os none ∙ sym (no_bodies q (Proxy p) os none)

  stamp_same : (s : ProxyData) (id : Id) (command : List ℕ) (o : Option Standing) → AreSame (after_stamp g.f s id command o).1
  stamp_same s id command None =
      once g.f s id command r (Proxy p) (replica_count g.f) first ∙ sym (once g.f s id command q (Proxy p) (replica_count g.f) second)
  stamp_same s id command (Some (Open replies)) =
      once g.f s id command r (Proxy p) (replica_count g.f) first ∙ sym (once g.f s id command q (Proxy p) (replica_count g.f) second)
  stamp_same s id command (Some (Decided answer path)) = refl

  answer_same : (s : ProxyData) (id : Id) (rs : List Reply) (path : Path) (o : Option Answer) → AreSame (after_chosen_answer s id rs path o).1
  answer_same s id rs path None = refl
  answer_same s id rs path (Some answer) = refl

  choice_same : (s : ProxyData) (id : Id) (rs : List Reply) (o : Option Chosen) → AreSame (after_choice s id rs o).1
  choice_same s id rs None = refl
  choice_same s id rs (Some chosen) = answer_same s id rs chosen.path (answer_in chosen.reply)

  reply_same : (s : ProxyData) (id : Id) (reply : Reply) (o : Option Standing) → AreSame (after_replica_reply g.f s id reply o).1
  reply_same s id reply None = refl
  reply_same s id reply (Some (Decided answer path)) = refl
  reply_same s id reply (Some (Open replies)) = choice_same s id (with_note replies reply) (decision g.f (with_note replies reply))

  message_same : (s : ProxyData) (from : Actor) (m : Message) → AreSame (proxy_message g.f s from m).1
  unfolding stamp_rule reply_rule
  message_same s (Client c) (messages.Request b) =
      let id : Id = record { client = c; num = b.num } in stamp_same s id b.command (standing_of s id)
  message_same s (Replica k) (messages.FastReply b) = reply_same _ b.id (of_fast k b) (standing_of s b.id)
  message_same s (Replica k) (messages.SlowReply b) = reply_same _ b.id (of_slow k b) (standing_of s b.id)
  message_same s from m = refl

  envelope_same : (s : ProxyData) (o : Option Envelope) → AreSame (envelope_step g (Proxy p) s o).1
  envelope_same s None = refl
  envelope_same s (Some e) =
      cond_both s.is_down (s, []) (proxy_message g.f s e.from e.message) (λ (t : ProxyData × List Out). AreSame t.1) (λ _. refl)
      (λ _. message_same s e.from e.message)

  event_same : (s : ProxyData) (e : Event) → AreSame (event_step g (Proxy p) s e).1
  event_same s (Deliver x) = envelope_same s (accepted_envelope g.f (Proxy p) x)
  event_same s (Cut kept x) = refl
  event_same s (Tick clock) = cond_both s.is_down (s, []) (clock_rule s clock, []) (λ (t : ProxyData × List Out). AreSame t.1) (λ _. refl) (λ _. refl)
  event_same s Alarm = refl
  event_same s Crash = refl
  event_same s (Restart nonce) = refl

-- ---- replicas and clients send none

shows_none : (g : Group) (r : ℕ) (heard : Heard) (before s : ReplicaData) (to : Actor) (m : Message) → Shows g (Replica r) heard before s to m → NoRequest m
shows_none g r heard before s to (messages.Timed b) shows = absurd shows
shows_none g r heard before s to m shows = tt

asks_none : (g : Group) (c : ℕ) (heard : Heard) (before s : ClientData) (to : Actor) (m : Message) → Shows g (Client c) heard before s to m → NoRequest m
asks_none g c heard before s to (messages.Timed b) shows = absurd shows
asks_none g c heard before s to m shows = tt

-- ---- records

record_same : (g : Group) (x : Record) (J : List Record) (r q : ℕ) → World g (x ∷ J) → r < replica_count g.f → q < replica_count g.f
    → bodies_to r (from_actor x.actor (outs_in g x J)) ≡ bodies_to q (from_actor x.actor (outs_in g x J))
record_same g x J r q w first second = by_actor x.actor refl
  where
    none : AllByRecursion (λ (o : Out). NoRequest o.1) (outs_in g x J)
        → bodies_to r (from_actor x.actor (outs_in g x J)) ≡ bodies_to q (from_actor x.actor (outs_in g x J))
    none all = no_bodies r x.actor (outs_in g x J) all ∙ sym (no_bodies q x.actor (outs_in g x J) all)

    replica_sends : (a : Actor) (k : ℕ) → a ≡ Replica k → (to : Actor) (m : Message) (heard : Heard) (before s : State a) → Shows g a heard before s to m
        → NoRequest m
    replica_sends (Replica j) k is to m heard before s shows = shows_none g j heard before s to m shows
    replica_sends (Proxy p) k is to m heard before s shows = absurd cc
    replica_sends (Client c) k is to m heard before s shows = absurd cc

    client_sends : (a : Actor) (k : ℕ) → a ≡ Client k → (to : Actor) (m : Message) (heard : Heard) (before s : State a) → Shows g a heard before s to m
        → NoRequest m
    client_sends (Replica j) k is to m heard before s shows = absurd cc
    client_sends (Proxy p) k is to m heard before s shows = absurd cc
    client_sends (Client c) k is to m heard before s shows = asks_none g c heard before s to m shows

    by_actor : (a : Actor) → x.actor ≡ a → bodies_to r (from_actor x.actor (outs_in g x J)) ≡ bodies_to q (from_actor x.actor (outs_in g x J))
    by_actor (Replica k) is = none (all_of_each (λ (o : Out). NoRequest o.1) (outs_in g x J)
        (λ o among. replica_sends x.actor k is o.0 o.1 _ _ _ (shown g x J o w among)))
    by_actor (Proxy p) is =
        subst (λ (a : Actor). (s : State a) → bodies_to r (from_actor a (event_step g a s x.event).1) ≡ bodies_to q
        (from_actor a (event_step g a s x.event).1))
        (sym is) (λ s. event_same g p r q first second s x.event) (state_after g x.actor J)
    by_actor (Client c) is = none (all_of_each (λ (o : Out). NoRequest o.1) (outs_in g x J)
        (λ o among. client_sends x.actor c is o.0 o.1 _ _ _ (shown g x J o w among)))

pub same_bodies : (g : Group) (now older : List Record) (r q : ℕ) → World g (now ++ older) → r < replica_count g.f → q < replica_count g.f
    → bodies_of (heard_by (Replica r) (flight_of g now older)) ≡ bodies_of (heard_by (Replica q) (flight_of g now older))
same_bodies g [] older r q w first second = refl
same_bodies g (x ∷ now) older r q w first second =
    let here = from_actor x.actor (outs_in g x (now ++ older)) in
    bodies_join r (flight_of g now older) here
    ∙ ap (λ (bs : List TimedBody). bs ++ bodies_to r here) (same_bodies g now older r q w.1 first second)
    ∙ ap (λ (bs : List TimedBody). bodies_to q (flight_of g now older) ++ bs) (record_same g x (now ++ older) r q w first second)
    ∙ sym (bodies_join q (flight_of g now older) here)
