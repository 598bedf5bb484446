-- What the records of clients say: each request is sent once, and what is accepted is a proxy's answer.
use Rattle.std.proofs.Common.{◌≡◌, ℕ, zero, suc, ◌+◌, ◌-◌, ◌<◌, ◌≤◌, Bool, true, false, cond, nat_lt, List, [], ◌∷◌}
use Rattle.std.proofs.Common.{◌++◌, Option, Some, None, refl, sym, ap, subst, ◌∙◌, arith, inl, inr, ltb-true}
use Rattle.std.proofs.lemmas.Bool.{cases_lt}
use Rattle.nz_base.specs.declared.actor.Actor.{Actor}
use Rattle.nz_base.specs.declared.actor.Actor.TheVariants.{Replica, Proxy, Client}
use Rattle.nz_base.specs.declared.key.Id.{Id}
use Rattle.nz_base.specs.declared.scenario.Request.{Request}
use Rattle.nz_store.specs.declared.command.Answer.{Answer}
use Rattle.nz_msg.specs.declared.message.AnswerBody.{AnswerBody}
use Rattle.nz_msg.specs.declared.message.Path.{Path}
use Rattle.nz_msg.specs.declared.message.Message.{Message}
use Rattle.nz_msg.specs.declared.message.Message.TheVariants as messages
use Rattle.nz_msg.specs.declared.envelope.Envelope.{Envelope}
use Rattle.nz_machine.specs.declared.event.Record.{Record}
use Rattle.nz_machine.specs.rules.State.{ClientData, Group}
use Rattle.nz_machine.specs.rules.Step.{script_of}
use Rattle.nz_machine.specs.runs.World.{state_after, Has}
use Rattle.nz_machine.specs.declared.client_event.ClientEvent.{ClientEvent}
use Rattle.nz_machine.specs.declared.client_event.ClientEvent.TheVariants.{Sent, Accepted}
use Rattle.nz_machine.specs.runs.Events.{id_at, script_command, read_in, accepted_in}
use Rattle.nz_machine.specs.runs.Events.{accepted_by, sent_after, sent_by, client_events, events}
use Rattle.nz_machine.proofs.runs.Runs.{may_act, has_left, has_right, has_split}
use Rattle.nz_machine.proofs.journals.InTurn.{InTurn, Turns, first_in_turn, event_turns, none_turns}

pub same_sent : (a b : Id) (x y : List ℕ) → Sent a x ≡ Sent b y → a ≡ b
same_sent a b x y e = cc

same_accepted : (a b : Id) (x y : Answer) (p q : Path) → Accepted a x p ≡ Accepted b y q → (a ≡ b) × (x ≡ y)
same_accepted a b x y p q e = (cc, cc)

-- ---- a record's own

-- a request was sent for the first time
pub record Sends (g : Group) (r : Record) (J : List Record) (id : Id) : Type 0 where
  pub client : ℕ
  pub by : r.actor ≡ Client client
  pub num : ℕ
  pub above : (state_after g (Client client) J).sent < num
  pub most : num ≤ (state_after g (Client client) (r ∷ J)).sent
  pub id_is : id ≡ id_at client num

-- an answer was accepted
pub record AcceptsAnswer (g : Group) (r : Record) (J : List Record) (id : Id) (answer : Answer) (path : Path) : Type 0 where
  pub client : ℕ
  pub by : r.actor ≡ Client client
  pub envelope : Envelope
  pub read : read_in g (Client client) r.event ≡ Some envelope
  pub body : AnswerBody
  pub message : envelope.message ≡ messages.Answer body
  pub more : (state_after g (Client client) J).accepted < (state_after g (Client client) (r ∷ J)).accepted
  pub id_is : id ≡ id_at client body.num
  pub answer_is : answer ≡ body.answer
  pub rest : List ClientEvent
  pub events_are : client_events g r.actor r J ≡ Accepted id answer path ∷ rest

only_event : (b : Bool) (x y : ClientEvent) → Has (cond b (x ∷ []) []) y → (b ≡ true) × (x ≡ y)
only_event true x y (inl e) = (refl, e)
only_event true x y (inr h) = absurd h
only_event false x y h = absurd h

record IsAcceptance (c : ℕ) (before after : ClientData) (o : Option Envelope) (x : ClientEvent) : Type 0 where
  envelope : Envelope
  read : o ≡ Some envelope
  body : AnswerBody
  message : envelope.message ≡ messages.Answer body
  more : before.accepted < after.accepted
  is : Accepted (id_at c body.num) body.answer body.path ≡ x
  alone : accepted_by c before after o ≡ x ∷ []

in_message : (c : ℕ) (before after : ClientData) (m : Message) (x : ClientEvent) → Has (accepted_in c before after m) x
    → (b : AnswerBody) × ((m ≡ messages.Answer b) × ((nat_lt before.accepted after.accepted ≡ true) × (Accepted (id_at c b.num) b.answer b.path ≡ x)))
in_message c before after (messages.Answer b) x h = let t = only_event (nat_lt before.accepted after.accepted) (Accepted (id_at c b.num) b.answer b.path) x h in
    (b, (refl, (t.0, t.1)))
in_message c before after _ x h = absurd h

acceptance : (c : ℕ) (before after : ClientData) (o : Option Envelope) (x : ClientEvent) → Has (accepted_by c before after o) x
    → IsAcceptance c before after o x
acceptance c before after (Some e) x h =
    let t = in_message c before after e.message x h in
    record {
      envelope = e;
      read = refl;
      body = t.0;
      message = t.1.0;
      more = ltb-true before.accepted after.accepted t.1.1.0;
      is = t.1.1.1;
      alone = ap (accepted_in c before after) t.1.0 ∙ ap (λ b. cond b (Accepted (id_at c t.0.num) t.0.answer t.0.path ∷ []) []) t.1.1.0
          ∙ ap (λ (y : ClientEvent). y ∷ []) t.1.1.1;
    }
acceptance c before after None x h = absurd h

pub not_sent : (c : ℕ) (before after : ClientData) (o : Option Envelope) (id : Id) (command : List ℕ)
    → Has (accepted_by c before after o) (Sent id command) → ⊥
not_sent c before after o id command h = let t = acceptance c before after o (Sent id command) h in let k = t.is in absurd cc

-- a request among those after the one number
pub record IsAfter (c : ℕ) (script : List Request) (n more : ℕ) (x : ClientEvent) : Type 0 where
  pub num : ℕ
  pub above : n < num
  pub most : num ≤ n + more
  pub is : Sent (id_at c num) (script_command script num) ≡ x

pub is_after : (c : ℕ) (script : List Request) (n more : ℕ) (x : ClientEvent) → Has (sent_after c script n more) x → IsAfter c script n more x
is_after c script n zero x h = absurd h
is_after c script n (suc more) x (inl e) = record { num = n + 1; above = omega arith; most = omega arith; is = e }
is_after c script n (suc more) x (inr h) =
    let t = is_after c script (n + 1) more x h in
    let above = t.above in
    let most = t.most in
    record { num = t.num; above = omega (arith, above); most = omega (arith, most); is = t.is }

pub has_after : (c : ℕ) (script : List Request) (n more num : ℕ) → n < num → num ≤ n + more
    → Has (sent_after c script n more) (Sent (id_at c num) (script_command script num))
has_after c script n zero num above most = absurd (omega (arith, above, most))
has_after c script n (suc more) num above most = elim (cases_lt (n + 1) num) [
  | inl lt ↦ inr (has_after c script (n + 1) more num lt (omega (arith, most)))
  | inr le ↦
      let same : n + 1 ≡ num = omega (arith, above, le) in
      inl (ap (λ (m : ℕ). Sent (id_at c m) (script_command script m)) same)
]

pub not_accepted : (g : Group) (c : ℕ) (before after : ClientData) (id : Id) (answer : Answer) (path : Path)
    → Has (sent_by c (script_of g c) before after) (Accepted id answer path) → ⊥
not_accepted g c before after id answer path h =
    let t = is_after c (script_of g c) before.sent (after.sent - before.sent) (Accepted id answer path) h in let k = t.is in absurd cc

event_sent_by : (g : Group) (a : Actor) (r : Record) (J : List Record) (id : Id) (command : List ℕ) → r.actor ≡ a
    → Has (client_events g a r J) (Sent id command) → Sends g r J id
event_sent_by g (Client c) r J id command by h =
    let before = state_after g (Client c) J in
    let after = state_after g (Client c) (r ∷ J) in
    elim (has_split (accepted_by c before after (read_in g (Client c) r.event)) (sent_by c (script_of g c) before after) (Sent id command) h) [
      | inl x ↦ absurd (not_sent c before after (read_in g (Client c) r.event) id command x)
      | inr x ↦
          let t = is_after c (script_of g c) before.sent (after.sent - before.sent) (Sent id command) x in
          let above = t.above in
          let most = t.most in
          record {
            client = c;
            by = by;
            num = t.num;
            above = above;
            most = omega (arith, above, most);
            id_is = sym (same_sent (id_at c t.num) id (script_command (script_of g c) t.num) command t.is);
          }
    ]
event_sent_by g (Replica m) r J id command by h = absurd h
event_sent_by g (Proxy p) r J id command by h = absurd h

pub event_sent : (g : Group) (r : Record) (J : List Record) (id : Id) (command : List ℕ) → Has (client_events g r.actor r J) (Sent id command)
    → Sends g r J id
event_sent g r J id command h = event_sent_by g r.actor r J id command refl h

event_accepted_by : (g : Group) (a : Actor) (r : Record) (J : List Record) (id : Id) (answer : Answer) (path : Path) → r.actor ≡ a
    → Has (client_events g a r J) (Accepted id answer path) → AcceptsAnswer g r J id answer path
event_accepted_by g (Client c) r J id answer path by h =
    let before = state_after g (Client c) J in
    let after = state_after g (Client c) (r ∷ J) in
    let read = read_in g (Client c) r.event in
    elim (has_split (accepted_by c before after read) (sent_by c (script_of g c) before after) (Accepted id answer path) h) [
      | inl x ↦
          let t = acceptance c before after read (Accepted id answer path) x in
          let same = same_accepted (id_at c t.body.num) id t.body.answer answer t.body.path path t.is in
          record {
            client = c;
            by = by;
            envelope = t.envelope;
            read = t.read;
            body = t.body;
            message = t.message;
            more = t.more;
            id_is = sym same.0;
            answer_is = sym same.1;
            rest = sent_by c (script_of g c) before after;
            events_are = ap (λ (y : Actor). client_events g y r J) by ∙ ap (λ (l : List ClientEvent). l ++ sent_by c (script_of g c) before after) t.alone;
          }
      | inr x ↦ absurd (not_accepted g c before after id answer path x)
    ]
event_accepted_by g (Replica m) r J id answer path by h = absurd h
event_accepted_by g (Proxy p) r J id answer path by h = absurd h

pub event_accepted : (g : Group) (r : Record) (J : List Record) (id : Id) (answer : Answer) (path : Path)
    → Has (client_events g r.actor r J) (Accepted id answer path) → AcceptsAnswer g r J id answer path
event_accepted g r J id answer path h = event_accepted_by g r.actor r J id answer path refl h

-- ---- a client's count of requests

-- its open requests are in turn
pub in_turn : (g : Group) (c : ℕ) (J : List Record) → InTurn g.window (script_of g c) (state_after g (Client c) J)
unfolding state_after
in_turn g c [] = first_in_turn g.window (script_of g c)
in_turn g c (r ∷ J) = elim (may_act g (Client c) r J).cases [
  | inl a ↦ subst (InTurn g.window (script_of g c)) (sym a.1) (event_turns g c (state_after g (Client c) J) r.event (in_turn g c J)).in_turn
  | inr s ↦ subst (InTurn g.window (script_of g c)) (sym s) (in_turn g c J)
]

-- what a record does to it
pub turns : (g : Group) (c : ℕ) (r : Record) (J : List Record) → Turns g.window (script_of g c) (state_after g (Client c) J) (state_after g (Client c) (r ∷ J))
turns g c r J =
    let before = state_after g (Client c) J in
    elim (may_act g (Client c) r J).cases [
      | inl a ↦ subst (Turns g.window (script_of g c) before) (sym a.1) (event_turns g c before r.event (in_turn g c J))
      | inr s ↦ subst (Turns g.window (script_of g c) before) (sym s) (none_turns g.window (script_of g c) before (in_turn g c J))
    ]

-- ---- runs

pub sent_once : (g : Group) (J : List Record) (id : Id) (command : List ℕ) → Has (events g J) (Sent id command)
    → id.num ≤ (state_after g (Client id.client) J).sent
sent_once g [] id command h = absurd h
sent_once g (r ∷ J) id command h = elim (has_split (events g J) (client_events g r.actor r J) (Sent id command) h) [
  | inl x ↦ let old = sent_once g J id command x in let more = (turns g id.client r J).more in omega (arith, old, more)
  | inr x ↦ let t = event_sent g r J id command x in subst (λ (i : Id). i.num ≤ (state_after g (Client i.client) (r ∷ J)).sent) (sym t.id_is) t.most
]

-- a request that is sent for the first time was not sent before
pub not_sent_before : (g : Group) (r : Record) (J : List Record) (id : Id) (command : List ℕ) → Sends g r J id → Has (events g J) (Sent id command)
    → ⊥
not_sent_before g r J id command t h =
    let old : id.num ≤ (state_after g (Client id.client) J).sent = sent_once g J id command h in
    let at = subst (λ (i : Id). i.num ≤ (state_after g (Client i.client) J).sent) t.id_is old in
    let above = t.above in absurd (omega (arith, at, above))

-- the requests that a client has sent
pub record HasSent (c : ℕ) (g : Group) (sent : ℕ) (E : List ClientEvent) : Type 0 where
  pub each : (n : ℕ) → 0 < n → n ≤ sent → Has E (Sent (id_at c n) (script_command (script_of g c) n))

newly_sent : (g : Group) (c : ℕ) (r : Record) (J : List Record) (n : ℕ) → r.actor ≡ Client c → (state_after g (Client c) J).sent < n
    → n ≤ (state_after g (Client c) (r ∷ J)).sent → Has (client_events g r.actor r J) (Sent (id_at c n) (script_command (script_of g c) n))
newly_sent g c r J n by lt le =
    let before = state_after g (Client c) J in
    let after = state_after g (Client c) (r ∷ J) in
    let x : ClientEvent = Sent (id_at c n) (script_command (script_of g c) n) in
    let here : Has (sent_by c (script_of g c) before after) x =
    has_after c (script_of g c) before.sent (after.sent - before.sent) n lt (omega (arith, lt, le)) in
    subst (λ (y : Actor). Has (client_events g y r J) x) (sym by)
    (has_right (accepted_by c before after (read_in g (Client c) r.event)) (sent_by c (script_of g c) before after) x here)

last_sent : (g : Group) (c : ℕ) (r : Record) (J : List Record) (n : ℕ) → n ≤ (state_after g (Client c) (r ∷ J)).sent → (state_after g (Client c) J).sent < n
    → Has (client_events g r.actor r J) (Sent (id_at c n) (script_command (script_of g c) n))
last_sent g c r J n le lt = elim (may_act g (Client c) r J).cases [
  | inl a ↦ newly_sent g c r J n a.0 lt le
  | inr s ↦ let k : (state_after g (Client c) (r ∷ J)).sent ≡ (state_after g (Client c) J).sent = ap (λ (x : ClientData). x.sent) s in absurd
      (omega (arith, k, le, lt))
]

pub has_sent : (g : Group) (c : ℕ) (J : List Record) → HasSent c g (state_after g (Client c) J).sent (events g J)
unfolding state_after
has_sent g c [] = record { each = λ n some le. absurd (omega (arith, some, le)) }
has_sent g c (r ∷ J) = record {
  each = λ n some le. elim (cases_lt (state_after g (Client c) J).sent n) [
    | inl lt ↦ has_right (events g J) (client_events g r.actor r J) (Sent (id_at c n) (script_command (script_of g c) n))
        (last_sent g c r J n le lt)
    | inr old ↦ has_left (events g J) (client_events g r.actor r J) (Sent (id_at c n) (script_command (script_of g c) n)) ((has_sent g c J).each n some old)
  ];
}
