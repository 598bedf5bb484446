-- Each request is sent once, and accepted at most once and after that.
use Rattle.std.proofs.Common.{◌≡◌, ℕ, zero, suc, ◌+◌, ◌-◌, ◌<◌, ◌≤◌, Bool, true, false, cond, nat_lt, List, []}
use Rattle.std.proofs.Common.{◌∷◌, ◌++◌, Option, Some, None, refl, sym, ap, subst, ◌∙◌, arith, inl, inr, ◌⊎◌}
use Rattle.std.proofs.lemmas.Bool.{false≢true}
use Rattle.std.proofs.lemmas.Option.{none-some}
use Rattle.nz_base.specs.declared.actor.Actor.{Actor}
use Rattle.nz_base.specs.declared.actor.Actor.TheVariants.{Replica, Proxy, Client}
use Rattle.nz_base.specs.declared.key.Id.{Id}
use Rattle.nz_base.specs.declared.scenario.Request.{Request}
use Rattle.nz_store.specs.declared.command.Answer.{Answer}
use Rattle.nz_msg.specs.declared.message.AnswerBody.{AnswerBody}
use Rattle.nz_msg.specs.declared.message.Path.{Path}
use Rattle.nz_msg.specs.declared.message.Message.{Message}
use Rattle.nz_msg.specs.declared.message.Message.TheVariants as messages
use Rattle.nz_msg.specs.declared.envelope.Envelope.{Envelope}
use Rattle.nz_machine.specs.declared.event.Event.{Event}
use Rattle.nz_machine.specs.declared.event.Event.TheVariants.{Deliver, Cut, Tick, Alarm, Crash, Restart}
use Rattle.nz_machine.specs.declared.event.Record.{Record}
use Rattle.nz_machine.specs.rules.State.{ClientData, Group}
use Rattle.nz_machine.specs.rules.Clients.{is_open}
use Rattle.nz_machine.specs.rules.Step.{script_of, client_message, envelope_step, event_step}
use Rattle.nz_machine.specs.runs.World.{state_after, Has}
use Rattle.nz_machine.specs.declared.client_event.ClientEvent.{ClientEvent}
use Rattle.nz_machine.specs.declared.client_event.ClientEvent.TheVariants.{Sent, Accepted}
use Rattle.nz_machine.specs.runs.Events.{id_at, script_command, read_in, accepted_in}
use Rattle.nz_machine.specs.runs.Events.{accepted_by, sent_after, sent_by, client_events, events}
use Rattle.nz_machine.specs.runs.OneHistory.{Precedes}
use Rattle.nz_machine.proofs.runs.Runs.{acts_itself, has_left, has_right, has_split}
use Rattle.nz_machine.proofs.journals.InTurn.{InTurn, open_within, answer_takes}
use Rattle.nz_laws_commit.specs.Once.{AreOnce}
use Rattle.nz_laws_commit.proofs.ClientEvents.{AcceptsAnswer, event_sent, event_accepted, same_sent, not_sent, not_accepted}
use Rattle.nz_laws_commit.proofs.ClientEvents.{is_after, not_sent_before, has_sent, in_turn, turns}
use Rattle.nz_laws_commit.proofs.Opened.{few_open}

-- ---- lists of events

pub precedes_has : {X : Type 0} (xs : List X) (x y : X) → Precedes xs x y → Has xs x × Has xs y
precedes_has [] x y h = absurd h
precedes_has (z ∷ zs) x y (inl h) = (inl h.0, inr h.1)
precedes_has (z ∷ zs) x y (inr h) = let t = precedes_has zs x y h in (inr t.0, inr t.1)

-- both in the first list, both in the second, or one in each
pub precedes_three : {X : Type 0} (xs ys : List X) (x y : X) → Precedes (xs ++ ys) x y → Precedes xs x y ⊎ ((Has xs x × Has ys y) ⊎ Precedes ys x y)
precedes_three [] ys x y h = inr (inr h)
precedes_three (z ∷ xs) ys x y (inl h) = elim (has_split xs ys y h.1) [ inl a ↦ inl (inl (h.0, a)) | inr b ↦ inr (inl (inl h.0, b)) ]
precedes_three (z ∷ xs) ys x y (inr h) =
    elim (precedes_three xs ys x y h) [ inl a ↦ inl (inr a) | inr (inl b) ↦ inr (inl (inr b.0, b.1)) | inr (inr c) ↦ inr (inr c) ]

precedes_left : {X : Type 0} (xs ys : List X) (x y : X) → Precedes xs x y → Precedes (xs ++ ys) x y
precedes_left [] ys x y h = absurd h
precedes_left (z ∷ xs) ys x y (inl h) = inl (h.0, has_left xs ys y h.1)
precedes_left (z ∷ xs) ys x y (inr h) = inr (precedes_left xs ys x y h)

precedes_across : {X : Type 0} (xs ys : List X) (x y : X) → Has xs x → Has ys y → Precedes (xs ++ ys) x y
precedes_across [] ys x y h k = absurd h
precedes_across (z ∷ xs) ys x y (inl e) k = inl (e, has_right xs ys y k)
precedes_across (z ∷ xs) ys x y (inr h) k = inr (precedes_across xs ys x y h k)

-- ---- an accepted request was open, and is closed

record Shuts (before after : ClientData) (num : ℕ) : Type 0 where
  was_open : is_open num before.attempts ≡ true
  closed : is_open num after.attempts ≡ false

message_shuts : (window proxies me : ℕ) (script : List Request) (s : ClientData) (from : Actor) (b : AnswerBody) → InTurn window script s
    → s.accepted < (client_message window proxies me script s from (messages.Answer b)).0.accepted
    → Shuts s (client_message window proxies me script s from (messages.Answer b)).0 b.num
message_shuts window proxies me script s (Proxy p) b h lt = let t = answer_takes window proxies me script s b h in
    record { was_open = t.held lt; closed = t.shut lt }
message_shuts window proxies me script s (Replica r) b h lt = absurd (omega (arith, lt))
message_shuts window proxies me script s (Client c) b h lt = absurd (omega (arith, lt))

envelope_shuts : (g : Group) (c : ℕ) (s : ClientData) (e : Envelope) (b : AnswerBody) → e.message ≡ messages.Answer b → InTurn g.window (script_of g c) s
    → s.accepted < (envelope_step g (Client c) s (Some e)).0.accepted → Shuts s (envelope_step g (Client c) s (Some e)).0 b.num
envelope_shuts g c s e b is h =
    let step = λ (m : Message). client_message g.window g.proxies c (script_of g c) s e.from m in
    subst (λ (m : Message). s.accepted < (step m).0.accepted → Shuts s (step m).0 b.num) (sym is)
    (message_shuts g.window g.proxies c (script_of g c) s e.from b h)

event_shuts : (g : Group) (c : ℕ) (s : ClientData) (event : Event) (e : Envelope) (b : AnswerBody)
    → read_in g (Client c) event ≡ Some e → e.message ≡ messages.Answer b
    → InTurn g.window (script_of g c) s → s.accepted < (event_step g (Client c) s event).0.accepted → Shuts s (event_step g (Client c) s event).0 b.num
event_shuts g c s (Deliver p) e b read is h =
    subst (λ (o : Option Envelope). s.accepted < (envelope_step g (Client c) s o).0.accepted → Shuts s (envelope_step g (Client c) s o).0 b.num) (sym read)
    (envelope_shuts g c s e b is h)
event_shuts g c s (Cut kept p) e b read is h = absurd (none-some e read)
event_shuts g c s (Tick clock) e b read is h = absurd (none-some e read)
event_shuts g c s Alarm e b read is h = absurd (none-some e read)
event_shuts g c s Crash e b read is h = absurd (none-some e read)
event_shuts g c s (Restart nonce) e b read is h = absurd (none-some e read)

accept_shuts : (g : Group) (r : Record) (J : List Record) (id : Id) (a : Answer) (p : Path) → (t : AcceptsAnswer g r J id a p)
    → Shuts (state_after g (Client t.client) J) (state_after g (Client t.client) (r ∷ J)) t.body.num
accept_shuts g r J id a p t =
    let c = t.client in
    let before = state_after g (Client c) J in
    subst (λ (s : ClientData). before.accepted < s.accepted → Shuts before s t.body.num) (sym (acts_itself g (Client c) r J t.by))
    (event_shuts g c before r.event t.envelope t.body t.read t.message (in_turn g c J)) t.more

-- its number is one of those that were sent
accept_within : (g : Group) (r : Record) (J : List Record) (id : Id) (a : Answer) (p : Path) → (t : AcceptsAnswer g r J id a p)
    → (0 < t.body.num) × (t.body.num ≤ (state_after g (Client t.client) J).sent)
accept_within g r J id a p t =
    let s = state_after g (Client t.client) J in
    open_within t.body.num 0 s.attempts s.sent (in_turn g t.client J).rising (accept_shuts g r J id a p t).was_open

-- ---- what was accepted stays closed

record IsClosed (num : ℕ) (s : ClientData) : Type 0 where
  sent : num ≤ s.sent
  closed : is_open num s.attempts ≡ false

accepted_closed : (g : Group) (J : List Record) (id : Id) (a : Answer) (p : Path) → Has (events g J) (Accepted id a p)
    → IsClosed id.num (state_after g (Client id.client) J)
accepted_closed g [] id a p h = absurd h
accepted_closed g (r ∷ J) id a p h = elim (has_split (events g J) (client_events g r.actor r J) (Accepted id a p) h) [
  | inl x ↦
      let old = accepted_closed g J id a p x in
      let k = turns g id.client r J in
      let before = old.sent in
      let more = k.more in
      record { sent = omega (arith, before, more); closed = k.closed id.num old.sent old.closed }
  | inr x ↦
      let t = event_accepted g r J id a p x in
      let within = (accept_within g r J id a p t).1 in
      let more = (turns g t.client r J).more in
      subst (λ (i : Id). IsClosed i.num (state_after g (Client i.client) (r ∷ J))) (sym t.id_is)
      (record { sent = omega (arith, within, more); closed = (accept_shuts g r J id a p t).closed })
]

not_accepted_before : (g : Group) (r : Record) (J : List Record) (id : Id) (a b : Answer) (p q : Path) → AcceptsAnswer g r J id b q
    → Has (events g J) (Accepted id a p) → ⊥
not_accepted_before g r J id a b p q t h =
    let old = subst (λ (i : Id). IsClosed i.num (state_after g (Client i.client) J)) t.id_is (accepted_closed g J id a p h) in
    false≢true (sym old.closed ∙ (accept_shuts g r J id b q t).was_open)

-- ---- the events of one record

alone : (b : Bool) (z x y : ClientEvent) → Precedes (cond b (z ∷ []) []) x y → ⊥
alone true z x y (inl h) = h.1
alone true z x y (inr h) = h
alone false z x y h = h

accepted_alone : (c : ℕ) (before after : ClientData) (m : Message) (x y : ClientEvent) → Precedes (accepted_in c before after m) x y → ⊥
accepted_alone c before after (messages.Answer b) x y h = alone (nat_lt before.accepted after.accepted) (Accepted (id_at c b.num) b.answer b.path) x y h
accepted_alone c before after _ x y h = h

one_accepted : (c : ℕ) (before after : ClientData) (o : Option Envelope) (x y : ClientEvent) → Precedes (accepted_by c before after o) x y → ⊥
one_accepted c before after None x y h = h
one_accepted c before after (Some e) x y h = accepted_alone c before after e.message x y h

-- a record has an acceptance, and then a request
record IsPair (g : Group) (a : Actor) (r : Record) (J : List Record) (x y : ClientEvent) : Type 0 where
  client : ℕ
  by : a ≡ Client client
  first : Has (accepted_by client (state_after g (Client client) J) (state_after g (Client client) (r ∷ J)) (read_in g (Client client) r.event)) x
  second : Has (sent_by client (script_of g client) (state_after g (Client client) J) (state_after g (Client client) (r ∷ J))) y

-- or one request after another
record AreSent (g : Group) (a : Actor) (r : Record) (J : List Record) (x y : ClientEvent) : Type 0 where
  client : ℕ
  by : a ≡ Client client
  both : Precedes (sent_by client (script_of g client) (state_after g (Client client) J) (state_after g (Client client) (r ∷ J))) x y

pair_of_events : (g : Group) (a : Actor) (r : Record) (J : List Record) (x y : ClientEvent)
    → Precedes (client_events g a r J) x y → IsPair g a r J x y ⊎ AreSent g a r J x y
pair_of_events g (Client c) r J x y h =
    let before = state_after g (Client c) J in
    let after = state_after g (Client c) (r ∷ J) in
    elim (precedes_three (accepted_by c before after (read_in g (Client c) r.event)) (sent_by c (script_of g c) before after) x y h) [
      | inl k ↦ absurd (one_accepted c before after (read_in g (Client c) r.event) x y k)
      | inr (inl k) ↦ inl (record { client = c; by = refl; first = k.0; second = k.1 })
      | inr (inr k) ↦ inr (record { client = c; by = refl; both = k })
    ]
pair_of_events g (Replica m) r J x y h = absurd h
pair_of_events g (Proxy p) r J x y h = absurd h

-- the requests of one record have rising numbers
sent_rising : (c : ℕ) (script : List Request) (n more : ℕ) (a b : Id) (x y : List ℕ)
    → Precedes (sent_after c script n more) (Sent a x) (Sent b y) → a.num < b.num
sent_rising c script n zero a b x y h = absurd h
sent_rising c script n (suc more) a b x y (inl h) =
    let t = is_after c script (n + 1) more (Sent b y) h.1 in
    let first = ap (λ (i : Id). i.num) (same_sent (id_at c (n + 1)) a (script_command script (n + 1)) x h.0) in
    let second = ap (λ (i : Id). i.num) (same_sent (id_at c t.num) b (script_command script t.num) y t.is) in
    let above = t.above in
    omega (arith, first, second, above)
sent_rising c script n (suc more) a b x y (inr h) = sent_rising c script (n + 1) more a b x y h

-- ---- runs

sent_twice : (g : Group) (r : Record) (J : List Record) (id : Id) (x y : List ℕ) → AreOnce g.window (events g J)
    → Precedes (events g (r ∷ J)) (Sent id x) (Sent id y) → ⊥
sent_twice g r J id x y old h = elim (precedes_three (events g J) (client_events g r.actor r J) (Sent id x) (Sent id y) h) [
  | inl k ↦ old.sent id x y k
  | inr (inl k) ↦ not_sent_before g r J id x (event_sent g r J id y k.1) k.0
  | inr (inr k) ↦ elim (pair_of_events g r.actor r J (Sent id x) (Sent id y) k) [
    | inl t ↦ not_sent t.client (state_after g (Client t.client) J) (state_after g (Client t.client) (r ∷ J)) (read_in g (Client t.client) r.event) id x t.first
    | inr t ↦
        let s = state_after g (Client t.client) J in
        let more = (state_after g (Client t.client) (r ∷ J)).sent - s.sent in
        let lt = sent_rising t.client (script_of g t.client) s.sent more id id x y t.both in
        absurd (omega (arith, lt))
  ]
]

accepted_twice : (g : Group) (r : Record) (J : List Record) (id : Id) (a b : Answer) (p q : Path) → AreOnce g.window (events g J)
    → Precedes (events g (r ∷ J)) (Accepted id a p) (Accepted id b q) → ⊥
accepted_twice g r J id a b p q old h = elim (precedes_three (events g J) (client_events g r.actor r J) (Accepted id a p) (Accepted id b q) h) [
  | inl k ↦ old.accepted id a b p q k
  | inr (inl k) ↦ not_accepted_before g r J id a b p q (event_accepted g r J id b q k.1) k.0
  | inr (inr k) ↦ elim (pair_of_events g r.actor r J (Accepted id a p) (Accepted id b q) k) [
    | inl t ↦ not_accepted g t.client (state_after g (Client t.client) J) (state_after g (Client t.client) (r ∷ J)) id b q t.second
    | inr t ↦
        let s = state_after g (Client t.client) J in
        let u = state_after g (Client t.client) (r ∷ J) in
        not_accepted g t.client s u id b q (precedes_has (sent_by t.client (script_of g t.client) s u) (Accepted id a p) (Accepted id b q) t.both).1
  ]
]

sent_first : (g : Group) (r : Record) (J : List Record) (id : Id) (a : Answer) (p : Path) → AcceptsAnswer g r J id a p
    → (command : List ℕ) × Has (events g J) (Sent id command)
sent_first g r J id a p t =
    let c = t.client in
    let within = accept_within g r J id a p t in
    let n = t.body.num in
    let sent = (has_sent g c J).each n within.0 within.1 in
    (script_command (script_of g c) n, subst (λ (i : Id). Has (events g J) (Sent i (script_command (script_of g c) n))) (sym t.id_is) sent)

accepted_after : (g : Group) (r : Record) (J : List Record) (id : Id) (a : Answer) (p : Path) → AreOnce g.window (events g J)
    → Has (events g (r ∷ J)) (Accepted id a p) → (command : List ℕ) × Precedes (events g (r ∷ J)) (Sent id command) (Accepted id a p)
accepted_after g r J id a p old h =
    let more = client_events g r.actor r J in
    elim (has_split (events g J) more (Accepted id a p) h) [
      | inl k ↦ let t = old.in_order id a p k in (t.0, precedes_left (events g J) more (Sent id t.0) (Accepted id a p) t.1)
      | inr k ↦
          let t = sent_first g r J id a p (event_accepted g r J id a p k) in
          (t.0, precedes_across (events g J) more (Sent id t.0) (Accepted id a p) t.1 k)
    ]

pub are_once : (g : Group) (J : List Record) → AreOnce g.window (events g J)
are_once g [] = record { sent = λ id x y h. h; accepted = λ id a b p q h. h; in_order = λ id a p h. absurd h; few_open = few_open g [] }
are_once g (r ∷ J) =
    let old = are_once g J in
    record {
      sent = λ id x y h. sent_twice g r J id x y old h;
      accepted = λ id a b p q h. accepted_twice g r J id a b p q old h;
      in_order = λ id a p h. accepted_after g r J id a p old h;
      few_open = few_open g (r ∷ J);
    }
