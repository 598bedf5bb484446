-- Each command in a message or with a replica was sent by its client before, under its id.
use Rattle.std.proofs.Common.{◌≡◌, ℕ, List, [], ◌∷◌, ◌++◌, Some, None, sym, subst}
use Rattle.std.specs.List.{AllByRecursion}
use Rattle.std.proofs.lemmas.Bool.{cond_both}
use Rattle.nz_base.specs.declared.actor.Actor.{Actor}
use Rattle.nz_base.specs.declared.actor.Actor.TheVariants.{Replica, Proxy, Client}
use Rattle.nz_base.specs.declared.key.Id.{Id}
use Rattle.nz_base.specs.declared.key.Entry.{Entry}
use Rattle.nz_base.specs.Key.{id_of}
use Rattle.nz_base.proofs.Names.{same_id}
use Rattle.nz_msg.specs.declared.message.RequestBody.{RequestBody}
use Rattle.nz_msg.specs.declared.message.ViewChangeBody.{ViewChangeBody}
use Rattle.nz_msg.specs.declared.message.StartViewBody.{StartViewBody}
use Rattle.nz_msg.specs.declared.message.StateTellBody.{StateTellBody}
use Rattle.nz_msg.specs.declared.message.Message.{Message}
use Rattle.nz_msg.specs.declared.message.Message.TheVariants as messages
use Rattle.nz_machine.specs.declared.data.CollectedReport.{CollectedReport}
use Rattle.nz_machine.specs.declared.event.Record.{Record}
use Rattle.nz_machine.specs.rules.State.{ReplicaData, ProxyData, ClientData, State, Group, Out}
use Rattle.nz_machine.specs.rules.Replicas.{is_down}
use Rattle.nz_machine.specs.rules.LogMods.{is_asked}
use Rattle.nz_machine.specs.runs.Hearing.{Heard}
use Rattle.nz_machine.specs.runs.Shows.{ReplicaShows, ProxyShows}
use Rattle.nz_machine.specs.rules.Step.{first, script_of, replica_message, message_step, tick_rule, tick_step, alarm_step, crash_step, restart_step}
use Rattle.nz_machine.specs.runs.World.{state_after, Has, World}
use Rattle.nz_machine.specs.declared.client_event.ClientEvent.{ClientEvent}
use Rattle.nz_machine.specs.declared.client_event.ClientEvent.TheVariants.{Sent}
use Rattle.nz_machine.specs.runs.Events.{id_at, client_events, events}
use Rattle.nz_machine.proofs.runs.Runs.{group_of, KeepsMore, holds, keeps_both, all_has, has_left}
use Rattle.nz_machine.proofs.lists.EachItem.{all_filter, all_imply}
use Rattle.nz_machine.proofs.moves.Moves.{Brings}
use Rattle.nz_machine.proofs.facts.EachEntry.{IsOwn, EachEntry, message_each, tick_each, alarm_each, none_each, crash_each, restart_each}
use Rattle.nz_machine.proofs.shows.Snapshots.{IsFairTo, fair_to, MayShow, StepShows, message_step_shows, tick_step_shows}
use Rattle.nz_machine.proofs.shows.Snapshots.{alarm_step_shows, crash_step_shows, restart_step_shows}
use Rattle.nz_machine.proofs.shows.SentMessages.{may_show}
use Rattle.nz_machine.proofs.runs.FitRuns.{Fitted, FittedState, fits_keep}
use Rattle.nz_laws_commit.proofs.Clients.{AskedFrom, AllAsked, message_asked, tick_asked}
use Rattle.nz_laws_commit.proofs.ClientEvents.{HasSent, has_sent, in_turn}
use Rattle.nz_machine.proofs.journals.InTurn.{InTurn}

-- the request of the entry was sent
abbrev pub WasSent : List ClientEvent → Entry → Type 0
WasSent E e = Has E (Sent (id_of e.key) e.command)

abbrev RequestSent : List ClientEvent → Actor → RequestBody → Type 0
RequestSent E (Client c) b = Has E (Sent (id_at c b.num) b.command)
RequestSent E (Replica r) b = Unit {0}
RequestSent E (Proxy p) b = Unit {0}

-- the commands of a message were sent
abbrev pub MessageSent : List ClientEvent → Actor → Message → Type 0
MessageSent E from (messages.Request b) = RequestSent E from b
MessageSent E from (messages.Timed b) = Has E (Sent b.id b.command)
MessageSent E from (messages.FetchReply b) = AllByRecursion (WasSent E) b.entries
MessageSent E from (messages.ViewChange b) = AllByRecursion (WasSent E) b.entries
MessageSent E from (messages.StartView b) = AllByRecursion (WasSent E) b.entries
MessageSent E from (messages.StateTell b) = AllByRecursion (WasSent E) b.entries
MessageSent E from _ = Unit {0}

abbrev pub StateSent : List ClientEvent → (a : Actor) → State a → Type 0
StateSent E (Replica r) s = EachEntry (WasSent E) s
StateSent E (Proxy p) s = Unit {0}
StateSent E (Client c) s = Unit {0}

abbrev AllSent : List ClientEvent → Actor → List Out → Type 0
AllSent E a os = AllByRecursion (λ (o : Out). MessageSent E a o.1) os

-- ---- later events

request_later : (E more : List ClientEvent) (from : Actor) (b : RequestBody) → RequestSent E from b → RequestSent (E ++ more) from b
request_later E more (Client c) b h = has_left E more (Sent (id_at c b.num) b.command) h
request_later E more (Replica r) b h = tt
request_later E more (Proxy p) b h = tt

entries_later : (E more : List ClientEvent) (es : List Entry) → AllByRecursion (WasSent E) es → AllByRecursion (WasSent (E ++ more)) es
entries_later E more es h = all_imply (WasSent E) (WasSent (E ++ more)) (λ e q. has_left E more (Sent (id_of e.key) e.command) q) es h

message_later : (E more : List ClientEvent) (from : Actor) (m : Message) → MessageSent E from m → MessageSent (E ++ more) from m
message_later E more from (messages.Request b) h = request_later E more from b h
message_later E more from (messages.Timed b) h = has_left E more (Sent b.id b.command) h
message_later E more from (messages.FetchReply b) h = entries_later E more b.entries h
message_later E more from (messages.FastReply b) h = tt
message_later E more from (messages.SlowReply b) h = tt
message_later E more from (messages.Answer b) h = tt
message_later E more from (messages.LogMod b) h = tt
message_later E more from (messages.Fetch b) h = tt
message_later E more from (messages.SyncReport b) h = tt
message_later E more from (messages.ViewAsk b) h = tt
message_later E more from (messages.ViewChange b) h = entries_later E more b.entries h
message_later E more from (messages.StartView b) h = entries_later E more b.entries h
message_later E more from (messages.VectorAsk b) h = tt
message_later E more from (messages.VectorTell b) h = tt
message_later E more from (messages.RejoinAsk b) h = tt
message_later E more from (messages.RejoinTell b) h = tt
message_later E more from (messages.StateAsk b) h = tt
message_later E more from (messages.StateTell b) h = entries_later E more b.entries h

state_later : (E more : List ClientEvent) (a : Actor) (s : State a) → StateSent E a s → StateSent (E ++ more) a s
state_later E more (Replica r) s h = record {
  log = entries_later E more s.log.entries h.log;
  early = entries_later E more s.early h.early;
  late = entries_later E more s.late h.late;
  reports = all_imply (λ (x : CollectedReport). AllByRecursion (WasSent E) x.report.log)
      (λ (x : CollectedReport). AllByRecursion (WasSent (E ++ more)) x.report.log)
      (λ x q. entries_later E more x.report.log q) s.reports h.reports;
}
state_later E more (Proxy p) s h = tt
state_later E more (Client c) s h = tt

-- ---- replicas

brought_sent : (E : List ClientEvent) (from : Actor) (m : Message) → MessageSent E from m → (e : Entry) → Brings (Some (from, m)) e → WasSent E e
brought_sent E (Proxy p) (messages.Timed b) sent e own = subst (WasSent E) (sym own.is) sent
brought_sent E (Replica r) (messages.FetchReply b) sent e has = all_has (WasSent E) b.entries e sent has
brought_sent E (Replica r) (messages.ViewChange b) sent e has = all_has (WasSent E) b.entries e sent has
brought_sent E (Replica r) (messages.StartView b) sent e has = all_has (WasSent E) b.entries e sent has
brought_sent E (Replica r) (messages.StateTell b) sent e has = all_has (WasSent E) b.entries e sent has
brought_sent E _ _ sent e none = absurd none

own_sent : (E : List ClientEvent) (f me : ℕ) (heard : Heard) → ((e : Entry) → Brings heard e → WasSent E e) → IsOwn f me heard (WasSent E)
own_sent E f me heard brought = record {
  brought = brought;
  renamed = λ s e m old same.
      let under = subst (λ (i : Id). Has E (Sent i m.old.command)) (sym (same_id (id_of e.key) (id_of m.old.key) same)) old in
      subst (λ (c : List ℕ). Has E (Sent (id_of e.key) c)) (sym m.same) under;
}

replica_sent : (E : List ClientEvent) (f me : ℕ) (s : ReplicaData) (from : Actor) (m : Message) → MessageSent E from m → EachEntry (WasSent E) s
    → EachEntry (WasSent E) (replica_message f me s from m).0
replica_sent E f me s from m sent h = message_each (WasSent E) f me s from m (own_sent E f me (Some (from, m)) (brought_sent E from m sent)) h

-- ---- what each kind of message brings

-- the commands of what is heard were sent
abbrev HeardSent : List ClientEvent → Heard → Type 0
HeardSent E None = Unit {0}
HeardSent E (Some (from, m)) = MessageSent E from m

replica_shown : (E : List ClientEvent) (f me : ℕ) (heard : Heard) (before s : ReplicaData) (to : Actor) (m : Message) → EachEntry (WasSent E) s
    → ReplicaShows f me heard before s to m → MessageSent E (Replica me) m
replica_shown E f me heard before s to (messages.FetchReply b) h w =
    subst (AllByRecursion (WasSent E)) (sym w.read) (all_filter (WasSent E) (is_asked w.ask.ids) s.log.entries h.log)
replica_shown E f me heard before s to (messages.FastReply b) h w = tt
replica_shown E f me heard before s to (messages.SlowReply b) h w = tt
replica_shown E f me heard before s to (messages.LogMod b) h w = tt
replica_shown E f me heard before s to (messages.Fetch b) h w = tt
replica_shown E f me heard before s to (messages.SyncReport b) h w = tt
replica_shown E f me heard before s to (messages.ViewAsk b) h w = tt
replica_shown E f me heard before s to (messages.ViewChange b) h w = subst (λ (x : ViewChangeBody). AllByRecursion (WasSent E) x.entries) (sym w.read) h.log
replica_shown E f me heard before s to (messages.StartView b) h w = subst (λ (x : StartViewBody). AllByRecursion (WasSent E) x.entries) (sym w.read) h.log
replica_shown E f me heard before s to (messages.VectorAsk b) h w = tt
replica_shown E f me heard before s to (messages.VectorTell b) h w = tt
replica_shown E f me heard before s to (messages.RejoinAsk b) h w = tt
replica_shown E f me heard before s to (messages.RejoinTell b) h w = tt
replica_shown E f me heard before s to (messages.StateAsk b) h w = tt
replica_shown E f me heard before s to (messages.StateTell b) h w = subst (λ (x : StateTellBody). AllByRecursion (WasSent E) x.entries) (sym w.read) h.log
replica_shown E f me heard before s to _ h w = absurd w

proxy_shown : (E : List ClientEvent) (f p : ℕ) (heard : Heard) (s : ProxyData) (to : Actor) (m : Message) → HeardSent E heard → ProxyShows f heard s to m
    → MessageSent E (Proxy p) m
proxy_shown E f p heard s to (messages.Timed b) sent w = subst (HeardSent E) w.hears sent
proxy_shown E f p heard s to (messages.Answer b) sent w = tt
proxy_shown E f p heard s to _ sent w = absurd w

-- ---- clients

asked_sent : (E : List ClientEvent) (g : Group) (c sent : ℕ) (m : Message) → HasSent c g sent E → AskedFrom (script_of g c) sent m → MessageSent E (Client c) m
asked_sent E g c sent (messages.Request b) h q = subst (λ (k : List ℕ). Has E (Sent (id_at c b.num) k)) (sym q.own) (h.each b.num q.some q.sent_before)
asked_sent E g c sent _ h q = absurd q

asks_sent : (E : List ClientEvent) (g : Group) (c : ℕ) (t : ClientData × List Out) → HasSent c g t.0.sent E → AllAsked (script_of g c) t.0.sent t.1
    → AllSent E (Client c) t.1
asks_sent E g c t h asked =
    all_imply (λ (o : Out). AskedFrom (script_of g c) t.0.sent o.1) (λ (o : Out). MessageSent E (Client c) o.1)
    (λ o q. asked_sent E g c t.0.sent o.1 h q) t.1 asked

-- ---- steps

record StepSent (E : List ClientEvent) (a : Actor) (t : State a × List Out) : Type 0 where
  state : StateSent E a t.0
  sends : AllSent E a t.1

-- what is known of a client's requests at the client's step
abbrev Known : Group → List ClientEvent → (a : Actor) → State a → State a → Type 0
Known g E (Replica r) s t = Unit {0}
Known g E (Proxy p) s t = Unit {0}
Known g E (Client c) s t = HasSent c g t.sent E × InTurn g.window (script_of g c) s

-- what is sent is known by its kind
replica_step_sent : (g : Group) (E : List ClientEvent) (r : ℕ) (heard : Heard) (s : ReplicaData) (t : ReplicaData × List Out)
    → StepShows g (Replica r) heard s t
    → EachEntry (WasSent E) t.0 → StepSent E (Replica r) t
replica_step_sent g E r heard s t w h =
    let Shows = λ (o : Out). ReplicaShows g.f r heard s t.0 o.0 o.1 in
    record {
      state = h;
      sends = all_imply Shows (λ (o : Out). MessageSent E (Replica r) o.1)
          (λ o shows. replica_shown E g.f r heard s t.0 o.0 o.1 h shows) t.1 w.shows;
    }

proxy_step_sent : (g : Group) (E : List ClientEvent) (p : ℕ) (heard : Heard) (s : ProxyData) (t : ProxyData × List Out) → HeardSent E heard
    → StepShows g (Proxy p) heard s t → StepSent E (Proxy p) t
proxy_step_sent g E p heard s t sent w =
    let Shows = λ (o : Out). ProxyShows g.f heard t.0 o.0 o.1 in
    record {
      state = tt;
      sends = all_imply Shows (λ (o : Out). MessageSent E (Proxy p) o.1)
          (λ o shows. proxy_shown E g.f p heard t.0 o.0 o.1 sent shows) t.1 w.shows;
    }

message_step_sent : (g : Group) (E : List ClientEvent) (a : Actor) (s : State a) (from : Actor) (m : Message) → IsFairTo g a from → MayShow g a s
    → Known g E a s (message_step g a s from m).0 → MessageSent E from m → StateSent E a s → StepSent E a (message_step g a s from m)
message_step_sent g E (Replica r) s from m fair may known sent h =
    replica_step_sent g E r (Some (from, m)) s (message_step g (Replica r) s from m) (message_step_shows g (Replica r) s from m fair may)
    (cond_both (is_down s.status) (s, []) (replica_message g.f r s from m) (λ (t : ReplicaData × List Out). EachEntry (WasSent E) t.0) (λ _. h)
    (λ _. replica_sent E g.f r s from m sent h))
message_step_sent g E (Proxy p) s from m fair may known sent h =
    proxy_step_sent g E p (Some (from, m)) s (message_step g (Proxy p) s from m) sent (message_step_shows g (Proxy p) s from m fair may)
message_step_sent g E (Client c) s from m fair may known sent h = record {
  state = tt;
  sends = asks_sent E g c (message_step g (Client c) s from m) known.0 (message_asked g.window g.proxies c (script_of g c) s from m);
}

tick_step_sent : (g : Group) (E : List ClientEvent) (a : Actor) (s : State a) (clock : ℕ) → MayShow g a s
    → Known g E a s (tick_step g a s clock).0 → StateSent E a s
    → StepSent E a (tick_step g a s clock)
tick_step_sent g E (Replica r) s clock may known h =
    replica_step_sent g E r None s (tick_step g (Replica r) s clock) (tick_step_shows g (Replica r) s clock may)
    (cond_both (is_down s.status) (s, []) (tick_rule g.f r s clock) (λ (t : ReplicaData × List Out). EachEntry (WasSent E) t.0) (λ _. h)
    (λ _. tick_each (WasSent E) g.f r s clock (own_sent E g.f r None (λ e none. absurd none)) h))
tick_step_sent g E (Proxy p) s clock may known h = proxy_step_sent g E p None s (tick_step g (Proxy p) s clock) tt (tick_step_shows g (Proxy p) s clock may)
tick_step_sent g E (Client c) s clock may known h =
    record { state = tt; sends = asks_sent E g c (tick_step g (Client c) s clock) known.0 (tick_asked g.window g.proxies c (script_of g c) s known.1) }

known_at : (g : Group) (r : Record) (J : List Record) (a : Actor) (t : State a) → World g J → state_after g a (r ∷ J) ≡ t
    → Known g (events g (r ∷ J)) a (state_after g a J) t
known_at g r J (Replica m) t w now = tt
known_at g r J (Proxy p) t w now = tt
known_at g r J (Client c) t w now = (subst (λ (s : ClientData). HasSent c g s.sent (events g (r ∷ J))) now (has_sent g c (r ∷ J)), in_turn g c J)

alarm_sent : (g : Group) (E : List ClientEvent) (a : Actor) (s : State a) → StateSent E a s → StepSent E a (alarm_step g a s)
alarm_sent g E (Replica r) s h =
    replica_step_sent g E r None s (alarm_step g (Replica r) s) (alarm_step_shows g (Replica r) s)
    (alarm_each (WasSent E) g.f r s (own_sent E g.f r None (λ e none. absurd none)) h)
alarm_sent g E (Proxy p) s h = record { state = tt; sends = tt }
alarm_sent g E (Client c) s h = record { state = tt; sends = tt }

crash_sent : (g : Group) (E : List ClientEvent) (a : Actor) (s : State a) → StateSent E a s → StepSent E a (crash_step g a s)
crash_sent g E (Replica r) s h =
    replica_step_sent g E r None s (crash_step g (Replica r) s) (crash_step_shows g (Replica r) s) (crash_each (WasSent E) g.f s)
crash_sent g E (Proxy p) s h = record { state = tt; sends = tt }
crash_sent g E (Client c) s h = record { state = tt; sends = tt }

restart_sent : (g : Group) (E : List ClientEvent) (a : Actor) (s : State a) (nonce : ℕ) → StateSent E a s → StepSent E a (restart_step g a s nonce)
restart_sent g E (Replica r) s nonce h =
    replica_step_sent g E r None s (restart_step g (Replica r) s nonce) (restart_step_shows g (Replica r) s nonce) (restart_each (WasSent E) g.f r s nonce h)
restart_sent g E (Proxy p) s nonce h = record { state = tt; sends = tt }
restart_sent g E (Client c) s nonce h = record { state = tt; sends = tt }

start_sent : (g : Group) (a : Actor) → StateSent [] a (first g a)
start_sent g (Replica r) = none_each (WasSent []) g.f
start_sent g (Proxy p) = tt
start_sent g (Client c) = tt

-- ---- runs

abbrev pub SentOut : Group → List Record → Actor → Out → Type 0
SentOut g J a o = MessageSent (events g J) a o.1

abbrev pub SentState : Group → List Record → (a : Actor) → State a → Type 0
SentState g J a s = StateSent (events g J) a s

sent_keep : (g : Group) → KeepsMore g (Fitted g) (FittedState g) (SentOut g) (SentState g)
sent_keep g = record {
  start = λ a. start_sent g a;
  sent_stays = λ J r w a o h. message_later (events g J) (client_events g r.actor r J) a o.1 h;
  state_stays = λ J r w a s h. state_later (events g J) (client_events g r.actor r J) a s h;
  message = λ J r w from m hears fit sent q h now.
      let more = client_events g r.actor r J in
      let s = state_after g r.actor J in
      let may = may_show g r.actor s (group_of g J w.1) q in
      let known = known_at g r J r.actor (message_step g r.actor s from m).0 w.1 now in
      let t = message_step_sent g (events g (r ∷ J)) r.actor s from m (fair_to g r.actor from m hears) may known
      (message_later (events g J) more from m sent) (state_later (events g J) more r.actor s h) in
      (t.state, t.sends);
  tick = λ J r w c le q h now.
      let s = state_after g r.actor J in
      let may = may_show g r.actor s (group_of g J w.1) q in
      let known = known_at g r J r.actor (tick_step g r.actor s c).0 w.1 now in
      let t = tick_step_sent g (events g (r ∷ J)) r.actor s c may known (state_later (events g J) (client_events g r.actor r J) r.actor s h) in
      (t.state, t.sends);
  alarm = λ J r w q h now.
      let s = state_after g r.actor J in
      let t = alarm_sent g (events g (r ∷ J)) r.actor s (state_later (events g J) (client_events g r.actor r J) r.actor s h) in
      (t.state, t.sends);
  crash = λ J r w q h now.
      let s = state_after g r.actor J in
      let t = crash_sent g (events g (r ∷ J)) r.actor s (state_later (events g J) (client_events g r.actor r J) r.actor s h) in
      (t.state, t.sends);
  restart = λ J r w nonce small q h now.
      let s = state_after g r.actor J in
      let t = restart_sent g (events g (r ∷ J)) r.actor s nonce (state_later (events g J) (client_events g r.actor r J) r.actor s h) in
      (t.state, t.sends);
}

-- each entry of a replica was sent
pub entries_sent : (g : Group) (J : List Record) → World g J → (m : ℕ) → EachEntry (WasSent (events g J)) (state_after g (Replica m) J)
entries_sent g J w m =
    let both = keeps_both g (Fitted g) (FittedState g) (SentOut g) (SentState g) (fits_keep g) (sent_keep g) in
    ((holds g _ _ both J w).states (Replica m)).1

pub own_command : (g : Group) (J : List Record) (m : ℕ) (e : Entry) → World g J → Has (state_after g (Replica m) J).log.entries e → WasSent (events g J) e
own_command g J m e w h = all_has (WasSent (events g J)) (state_after g (Replica m) J).log.entries e (entries_sent g J w m).log h
