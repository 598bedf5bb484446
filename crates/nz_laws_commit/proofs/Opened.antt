-- At each moment a client has at most as many requests open as its window has places.
use Rattle.std.proofs.Common.{◌≡◌, ℕ, zero, suc, ◌+◌, ◌-◌, ◌<◌, ◌≤◌, eqb, eqb-true, Bool, true, false, cond, nat_lt, List}
use Rattle.std.proofs.Common.{[], ◌∷◌, ◌++◌, Option, Some, None, refl, sym, ap, subst, ◌∙◌, arith, inl, inr, ◌⊎◌, lt-ltb}
use Rattle.std.proofs.lemmas.Bool.{cases_lt, eq-eqb, cond_both}
use Rattle.nz_base.specs.Actor.{actor_eq}
use Rattle.nz_base.specs.declared.actor.Actor.{Actor}
use Rattle.nz_base.specs.declared.actor.Actor.TheVariants.{Replica, Proxy, Client}
use Rattle.nz_base.specs.declared.scenario.Request.{Request}
use Rattle.nz_msg.specs.declared.message.AnswerBody.{AnswerBody}
use Rattle.nz_msg.specs.declared.message.Message.{Message}
use Rattle.nz_msg.specs.declared.message.Message.TheVariants.{Answer}
use Rattle.nz_msg.specs.declared.envelope.Envelope.{Envelope}
use Rattle.nz_machine.specs.declared.event.Event.{Event}
use Rattle.nz_machine.specs.declared.event.Event.TheVariants.{Deliver, Tick}
use Rattle.nz_machine.specs.declared.event.Record.{Record}
use Rattle.nz_machine.specs.rules.State.{ClientData, Group}
use Rattle.nz_machine.specs.rules.Step.{script_of, accepted_envelope, envelope_step, event_step}
use Rattle.nz_machine.specs.runs.World.{state_after}
use Rattle.nz_machine.specs.declared.client_event.ClientEvent.{ClientEvent}
use Rattle.nz_machine.specs.declared.client_event.ClientEvent.TheVariants.{Sent, Accepted}
use Rattle.nz_machine.specs.runs.Events.{id_at, read_in, accepted_in, accepted_by, sent_after, sent_by, client_events, events}
use Rattle.nz_machine.proofs.runs.Runs.{acts_itself, stays}
use Rattle.nz_machine.proofs.journals.InTurn.{InTurn, tick_fills}
use Rattle.nz_machine.proofs.journals.Accepting.{client_accepts}
use Rattle.nz_laws_commit.specs.Once.{count_sent, count_accepted}
use Rattle.nz_laws_commit.proofs.ClientEvents.{in_turn, turns}

-- ---- counts

plus_one : (b : Bool) (m n : ℕ) → cond b (suc (m + n)) (m + n) ≡ cond b (suc m) m + n
plus_one true m n = omega arith
plus_one false m n = refl

sent_append : (c : ℕ) (E F : List ClientEvent) → count_sent c (E ++ F) ≡ count_sent c E + count_sent c F
sent_append c [] F = omega arith
sent_append c (Sent id command ∷ E) F =
    ap (λ (n : ℕ). cond (eqb id.client c) (suc n) n) (sent_append c E F) ∙ plus_one (eqb id.client c) (count_sent c E) (count_sent c F)
sent_append c (Accepted id answer path ∷ E) F = sent_append c E F

accepted_append : (c : ℕ) (E F : List ClientEvent) → count_accepted c (E ++ F) ≡ count_accepted c E + count_accepted c F
accepted_append c [] F = omega arith
accepted_append c (Sent id command ∷ E) F = accepted_append c E F
accepted_append c (Accepted id answer path ∷ E) F =
    ap (λ (n : ℕ). cond (eqb id.client c) (suc n) n) (accepted_append c E F) ∙ plus_one (eqb id.client c) (count_accepted c E) (count_accepted c F)

-- this many are sent after a number, at most all by the client
few_after : (c k : ℕ) (script : List Request) (n more : ℕ) → count_sent c (sent_after k script n more) ≤ more
few_after c k script n zero = omega arith
few_after c k script n (suc more) =
    let rest = few_after c k script (n + 1) more in
    cond_both (eqb k c) (suc (count_sent c (sent_after k script (n + 1) more))) (count_sent c (sent_after k script (n + 1) more)) (λ (m : ℕ). m ≤ suc more)
    (λ _. omega (arith, rest)) (λ _. omega (arith, rest))

-- and none by another one
none_after : (c k : ℕ) (script : List Request) (n more : ℕ) → eqb k c ≡ false → count_sent c (sent_after k script n more) ≡ 0
none_after c k script n zero e = refl
none_after c k script n (suc more) e =
    let rest = count_sent c (sent_after k script (n + 1) more) in
    ap (λ (b : Bool). cond b (suc rest) rest) e ∙ none_after c k script (n + 1) more e

none_sent_in : (c k : ℕ) (before after : ClientData) (m : Message) → count_sent c (accepted_in k before after m) ≡ 0
none_sent_in c k before after (Answer b) =
    cond_both (nat_lt before.accepted after.accepted)
    (Accepted (id_at k b.num) b.answer b.path ∷ []) [] (λ (E : List ClientEvent). count_sent c E ≡ 0) (λ _. refl) (λ _. refl)
none_sent_in c k before after _ = refl

none_sent : (c k : ℕ) (before after : ClientData) (o : Option Envelope) → count_sent c (accepted_by k before after o) ≡ 0
none_sent c k before after None = refl
none_sent c k before after (Some e) = none_sent_in c k before after e.message

-- ---- where the count of acceptances rises, an answer was read

record ReadsAnswer (o : Option Envelope) : Type 0 where
  envelope : Envelope
  read : o ≡ Some envelope
  body : AnswerBody
  message : envelope.message ≡ Answer body

envelope_answer : (g : Group) (c : ℕ) (s : ClientData) (o : Option Envelope) → s.accepted < (envelope_step g (Client c) s o).0.accepted → ReadsAnswer o
envelope_answer g c s None lt = absurd (omega (arith, lt))
envelope_answer g c s (Some e) lt = let t = client_accepts g c s e lt in record { envelope = e; read = refl; body = t.body; message = t.message }

event_answer : (g : Group) (c : ℕ) (s : ClientData) (e : Event) → InTurn g.window (script_of g c) s → s.accepted < (event_step g (Client c) s e).0.accepted
    → ReadsAnswer (read_in g (Client c) e)
event_answer g c s (Deliver p) h lt = envelope_answer g c s (accepted_envelope g.f (Client c) p) lt
event_answer g c s (Tick clock) h lt =
    let same = (tick_fills g.window g.proxies c (script_of g c) s h).same in
    absurd (omega (arith, lt, same))
event_answer g c s _ h lt = absurd (omega (arith, lt))

one_accepted : (c : ℕ) (before after : ClientData) (o : Option Envelope) → before.accepted < after.accepted → ReadsAnswer o
    → count_accepted c (accepted_by c before after o) ≡ 1
one_accepted c before after o lt h =
    let b = h.body in
    let x : ClientEvent = Accepted (id_at c b.num) b.answer b.path in
    ap (λ (y : Option Envelope). count_accepted c (accepted_by c before after y)) h.read
    ∙ ap (λ (m : Message). count_accepted c (accepted_in c before after m)) h.message
    ∙ ap (λ (t : Bool). count_accepted c (cond t (x ∷ []) [])) (lt-ltb before.accepted after.accepted lt) ∙ ap (λ (t : Bool). cond t 1 0) (eq-eqb c c refl)

-- ---- what a record says of a client: an acceptance, and then requests

record Parts (g : Group) (c : ℕ) (r : Record) (J : List Record) : Type 0 where
  first : List ClientEvent
  second : List ClientEvent
  joined : client_events g r.actor r J ≡ first ++ second
  none : count_sent c first ≡ 0
  sends : count_sent c second + (state_after g (Client c) J).sent ≤ (state_after g (Client c) (r ∷ J)).sent
  takes : (state_after g (Client c) (r ∷ J)).accepted ≤ count_accepted c first + (state_after g (Client c) J).accepted

-- of another actor's record
other_parts : (g : Group) (c : ℕ) (r : Record) (J : List Record) (first second : List ClientEvent)
    → client_events g r.actor r J ≡ first ++ second → actor_eq r.actor (Client c) ≡ false
    → count_sent c first ≡ 0 → count_sent c second ≡ 0 → Parts g c r J
other_parts g c r J first second joined other none nothing =
    let same = stays g (Client c) r J other in
    let sent = ap (λ (s : ClientData). s.sent) same in
    let accepted = ap (λ (s : ClientData). s.accepted) same in
    record { first = first; second = second; joined = joined; none = none; sends = omega (arith, nothing, sent); takes = omega (arith, accepted) }

own_parts : (g : Group) (c : ℕ) (r : Record) (J : List Record) → r.actor ≡ Client c → Parts g c r J
own_parts g c r J by =
    let before = state_after g (Client c) J in
    let after = state_after g (Client c) (r ∷ J) in
    let read = read_in g (Client c) r.event in
    let first = accepted_by c before after read in
    let second = sent_by c (script_of g c) before after in
    let few = few_after c c (script_of g c) before.sent (after.sent - before.sent) in
    let k = turns g c r J in
    let more = k.more in
    let one = k.one in
    record {
      first = first;
      second = second;
      joined = ap (λ (a : Actor). client_events g a r J) by;
      none = none_sent c c before after read;
      sends = omega (arith, few, more);
      takes = elim (cases_lt before.accepted after.accepted) [
        | inl lt ↦
            let step = acts_itself g (Client c) r J by in
            let answer = event_answer g c before r.event (in_turn g c J) (subst (λ (s : ClientData). before.accepted < s.accepted) step lt) in
            let count = one_accepted c before after read lt answer in
            omega (arith, count, one)
        | inr le ↦ omega (arith, le)
      ];
    }

client_parts : (g : Group) (c k : ℕ) (r : Record) (J : List Record) (b : Bool) → eqb k c ≡ b → r.actor ≡ Client k → Parts g c r J
client_parts g c k r J true e by = own_parts g c r J (by ∙ ap Client (eqb-true k c e))
client_parts g c k r J false e by =
    let before = state_after g (Client k) J in
    let after = state_after g (Client k) (r ∷ J) in
    let read = read_in g (Client k) r.event in
    other_parts g c r J (accepted_by k before after read) (sent_by k (script_of g k) before after) (ap (λ (a : Actor). client_events g a r J) by)
    (ap (λ (a : Actor). actor_eq a (Client c)) by ∙ e) (none_sent c k before after read)
    (none_after c k (script_of g k) before.sent (after.sent - before.sent) e)

parts_by : (g : Group) (c : ℕ) (r : Record) (J : List Record) (a : Actor) → r.actor ≡ a → Parts g c r J
parts_by g c r J (Client k) by = client_parts g c k r J (eqb k c) refl by
parts_by g c r J (Replica m) by =
    other_parts g c r J [] [] (ap (λ (a : Actor). client_events g a r J) by) (ap (λ (a : Actor). actor_eq a (Client c)) by) refl refl
parts_by g c r J (Proxy p) by =
    other_parts g c r J [] [] (ap (λ (a : Actor). client_events g a r J) by) (ap (λ (a : Actor). actor_eq a (Client c)) by) refl refl

-- ---- prefixes of a list

same_cons : {X : Type 0} (x y : X) (xs ys : List X) → (x ∷ xs) ≡ (y ∷ ys) → (x ≡ y) × (xs ≡ ys)
same_cons x y xs ys e = (cc, cc)

-- a prefix of two lists ends in the first, or has all of it
record EndsIn {X : Type 0} (xs before : List X) : Type 0 where
  rest : List X
  whole : xs ≡ before ++ rest

record EndsAfter {X : Type 0} (xs ys before after : List X) : Type 0 where
  part : List X
  is : before ≡ xs ++ part
  whole : ys ≡ part ++ after

split : {X : Type 0} (xs ys before after : List X) → xs ++ ys ≡ before ++ after → EndsIn xs before ⊎ EndsAfter xs ys before after
split [] ys before after e = inr (record { part = before; is = refl; whole = e })
split (x ∷ xs) ys [] after e = inl (record { rest = x ∷ xs; whole = refl })
split {X} (x ∷ xs) ys (b ∷ before) after e =
    let t = same_cons x b (xs ++ ys) (before ++ after) e in
    elim (split xs ys before after t.1) [
      | inl h ↦ inl (record { rest = h.rest; whole = ap (λ (l : List X). x ∷ l) h.whole ∙ ap (λ (y : X). y ∷ (before ++ h.rest)) t.0 })
      | inr h ↦ inr (record { part = h.part; is = ap (λ (l : List X). b ∷ l) h.is ∙ ap (λ (y : X). y ∷ (xs ++ h.part)) (sym t.0); whole = h.whole })
    ]

-- ---- runs

record Few (g : Group) (c : ℕ) (J : List Record) : Type 0 where
  sent : count_sent c (events g J) ≤ (state_after g (Client c) J).sent
  taken : (state_after g (Client c) J).accepted ≤ count_accepted c (events g J)
  prefixes : (before after : List ClientEvent) → events g J ≡ before ++ after → count_sent c before ≤ count_accepted c before + g.window

few_in_all : (g : Group) (c : ℕ) (J : List Record) → Few g c J → (state_after g (Client c) J).sent ≤ count_accepted c (events g J) + g.window
few_in_all g c J h =
    let k = in_turn g c J in
    let counted = k.counted in
    let few = k.few in
    let taken = h.taken in
    omega (arith, counted, few, taken)

-- a prefix that ends in the record
few_now : (g : Group) (c : ℕ) (r : Record) (J : List Record) (part after : List ClientEvent) → Few g c J → client_events g r.actor r J ≡ part ++ after
    → count_sent c (events g J ++ part) ≤ count_accepted c (events g J ++ part) + g.window
few_now g c r J part after h whole =
    let p = parts_by g c r J r.actor refl in
    let old = few_in_all g c J h in
    let sent = h.sent in
    let none = p.none in
    let all_sent = sent_append c (events g J) part in
    let all_accepted = accepted_append c (events g J) part in
    elim (split p.first p.second part after (sym p.joined ∙ whole)) [
      | inl t ↦
          let less = ap (count_sent c) t.whole ∙ sent_append c part t.rest in
          omega (arith, old, sent, none, less, all_sent, all_accepted)
      | inr t ↦
          let k = in_turn g c (r ∷ J) in
          let counted = k.counted in
          let few = k.few in
          let taken = h.taken in
          let sends = p.sends in
          let takes = p.takes in
          let part_sent = ap (count_sent c) t.is ∙ sent_append c p.first t.part in
          let part_accepted = ap (count_accepted c) t.is ∙ accepted_append c p.first t.part in
          let less = ap (count_sent c) t.whole ∙ sent_append c t.part after in
          omega (arith, sent, none, counted, few, taken, sends, takes, part_sent, part_accepted, less, all_sent, all_accepted)
    ]

few : (g : Group) (c : ℕ) (J : List Record) → Few g c J
unfolding state_after
few g c [] = record { sent = omega arith; taken = omega arith; prefixes = λ before after e. few_none before after e }
  where
    few_none : (before after : List ClientEvent) → [] ≡ before ++ after → count_sent c before ≤ count_accepted c before + g.window
    few_none [] after e = omega arith
    few_none (x ∷ before) after e = absurd cc
few g c (r ∷ J) =
    let h = few g c J in
    let p = parts_by g c r J r.actor refl in
    let old_sent = h.sent in
    let old_taken = h.taken in
    let none = p.none in
    let sends = p.sends in
    let takes = p.takes in
    let here_sent = ap (count_sent c) p.joined ∙ sent_append c p.first p.second in
    let here_taken = ap (count_accepted c) p.joined ∙ accepted_append c p.first p.second in
    let all_sent = sent_append c (events g J) (client_events g r.actor r J) in
    let all_taken = accepted_append c (events g J) (client_events g r.actor r J) in
    record {
      sent = omega (arith, old_sent, none, sends, here_sent, all_sent);
      taken = omega (arith, old_taken, takes, here_taken, all_taken);
      prefixes = λ before after e. elim (split (events g J) (client_events g r.actor r J) before after e) [
        | inl t ↦ h.prefixes before t.rest t.whole
        | inr t ↦
            subst (λ (l : List ClientEvent). count_sent c l ≤ count_accepted c l + g.window) (sym t.is) (few_now g c r J t.part after h t.whole)
      ];
    }

pub few_open : (g : Group) (J : List Record) (c : ℕ) (before after : List ClientEvent) → events g J ≡ before ++ after
    → count_sent c before ≤ count_accepted c before + g.window
few_open g J c before after e = (few g c J).prefixes before after e
