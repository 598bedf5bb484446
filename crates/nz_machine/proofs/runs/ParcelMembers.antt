-- In every run each parcel is from an actor of the group, and for one.
use Rattle.std.proofs.Common.{◌≡◌, ℕ, ◌<◌, List, [], ◌∷◌, length, Option, Some, None, sym, ap, subst}
use Rattle.std.specs.Prelude.{IfSome}
use Rattle.std.specs.List.{AllByRecursion}
use Rattle.std.specs.Map.{lookup}
use Rattle.std.proofs.lemmas.Bool.{cond_both}
use Rattle.nz_base.specs.Key.{id_eq}
use Rattle.nz_base.specs.declared.actor.Actor.{Actor}
use Rattle.nz_base.specs.declared.actor.Actor.TheVariants.{Replica, Proxy, Client}
use Rattle.nz_base.specs.declared.key.Id.{Id}
use Rattle.nz_window.specs.Samples.{with_sample}
use Rattle.nz_store.specs.declared.command.Answer.{Answer}
use Rattle.nz_msg.specs.declared.message.Path.{Path}
use Rattle.nz_msg.specs.declared.message.RequestBody.{RequestBody}
use Rattle.nz_msg.specs.declared.message.Message.{Message}
use Rattle.nz_msg.specs.declared.message.Message.TheVariants as messages
use Rattle.nz_machine.specs.declared.data.Origin.{Origin}
use Rattle.nz_machine.specs.declared.reply.Reply.{Reply}
use Rattle.nz_machine.specs.declared.event.Parcel.{Parcel}
use Rattle.nz_machine.specs.declared.event.Record.{Record}
use Rattle.nz_machine.specs.rules.State.{ReplicaData, ProxyData, State, Standing, Open, Decided, Group, Out}
use Rattle.nz_machine.specs.rules.Replicas.{is_down}
use Rattle.nz_machine.specs.rules.Quorums.{Chosen, decision, answer_in, with_note}
use Rattle.nz_machine.specs.rules.Proxies.{with_standing, standing_of, after_stamp, stamp_rule, after_chosen_answer, after_choice}
use Rattle.nz_machine.specs.rules.Proxies.{after_replica_reply, reply_rule, first_proxy, clock_rule, of_fast, of_slow}
use Rattle.nz_machine.specs.rules.Views.{alarm_rule}
use Rattle.nz_machine.specs.rules.Rejoining.{crash_rule, restart_rule}
use Rattle.nz_machine.specs.rules.Step.{first, replica_message, proxy_message, message_step, tick_rule, tick_step, alarm_step, crash_step, restart_step}
use Rattle.nz_machine.specs.runs.World.{state_after, sent_in, Has, IsMember, World}
use Rattle.nz_machine.specs.runs.Hearing.{Heard}
use Rattle.nz_machine.specs.runs.Shows.{ReplicaShows, ProxyShows, ClientShows, Shows}
use Rattle.nz_machine.proofs.runs.Runs.{sent_from, KeepsMore, keeps_both, holds, group_of}
use Rattle.nz_machine.proofs.lists.EachItem.{all_imply}
use Rattle.nz_machine.proofs.lists.ListParts.{lookup_each, insert_each}
use Rattle.nz_machine.proofs.moves.Moves.{Interval, Move, NoteOrigin, Closed}
use Rattle.nz_machine.proofs.moves.MoveRules.{message_moves, tick_moves, alarm_moves}
use Rattle.nz_machine.proofs.shows.Snapshots.{StepShows, fair_to, message_step_shows, tick_step_shows, alarm_step_shows, crash_step_shows, restart_step_shows}
use Rattle.nz_machine.proofs.runs.FitRuns.{Fitted, FittedState, fits_keep}
use Rattle.nz_machine.proofs.shows.SentMessages.{may_show}

-- ---- what an actor knows of the group

abbrev IsProxyOf : Group → Id × Origin → Type 0
IsProxyOf g o = o.1.proxy < g.proxies

abbrev IsClientOf : Group → Id × Standing → Type 0
IsClientOf g e = e.0.client < length g.scripts

record KnowsProxies (g : Group) (s : ReplicaData) : Type 0 where
  origins : AllByRecursion (IsProxyOf g) s.origin

record KnowsClients (g : Group) (s : ProxyData) : Type 0 where
  standings : AllByRecursion (IsClientOf g) s.standings

abbrev Knows : Group → (a : Actor) → State a → Type 0
Knows g (Replica r) s = KnowsProxies g s
Knows g (Proxy p) s = KnowsClients g s
Knows g (Client c) s = Unit {0}

-- what is heard is from the group
abbrev HearsMember : Group → Heard → Type 0
HearsMember g None = Unit {0}
HearsMember g (Some (from, m)) = IsMember g from

-- ---- whom each kind of message is for

origin_in : (g : Group) (s : ReplicaData) (i : Id) (origin : Origin) → KnowsProxies g s → lookup (id_eq i) s.origin ≡ Some origin → origin.proxy < g.proxies
origin_in g s i origin h known = subst (λ (o : Option Origin). IfSome o (λ v. v.proxy < g.proxies)) known (lookup_each (IsProxyOf g) s.origin i h.origins)

client_in : (g : Group) (s : ProxyData) (i : Id) (v : Standing) → KnowsClients g s → standing_of s i ≡ Some v → i.client < length g.scripts
client_in g s i v h known =
    subst (λ (o : Option Standing). IfSome o (λ _. i.client < length g.scripts)) known (lookup_each (IsClientOf g) s.standings i h.standings)

replica_for : (g : Group) (me : ℕ) (heard : Heard) (before s : ReplicaData) (to : Actor) (m : Message) → HearsMember g heard → KnowsProxies g s
    → ReplicaShows g.f me heard before s to m → IsMember g to
replica_for g me heard before s to (messages.FastReply b) k h w = subst (IsMember g) (sym w.receiver) (origin_in g s b.id w.origin h w.known)
replica_for g me heard before s to (messages.SlowReply b) k h w = subst (IsMember g) (sym w.receiver) (origin_in g s b.id w.origin h w.known)
replica_for g me heard before s to (messages.LogMod b) k h w = subst (IsMember g) (sym w.receiver.is) w.receiver.member
replica_for g me heard before s to (messages.Fetch b) k h w = subst (IsMember g) (sym w.receiver.is) w.receiver.member
replica_for g me heard before s to (messages.FetchReply b) k h w = subst (IsMember g) (sym w.receiver) (subst (HearsMember g) w.hears k)
replica_for g me heard before s to (messages.SyncReport b) k h w = subst (IsMember g) (sym w.receiver.is) w.receiver.member
replica_for g me heard before s to (messages.ViewAsk b) k h w = subst (IsMember g) (sym w.receiver.is) w.receiver.member
replica_for g me heard before s to (messages.ViewChange b) k h w = subst (IsMember g) (sym w.receiver.is) w.receiver.member
replica_for g me heard before s to (messages.StartView b) k h w = subst (IsMember g) (sym w.receiver.is) w.receiver.member
replica_for g me heard before s to (messages.VectorAsk b) k h w = subst (IsMember g) (sym w.receiver.is) w.receiver.member
replica_for g me heard before s to (messages.VectorTell b) k h w = subst (IsMember g) (sym w.receiver) (subst (HearsMember g) w.hears k)
replica_for g me heard before s to (messages.RejoinAsk b) k h w = subst (IsMember g) (sym w.receiver.is) w.receiver.member
replica_for g me heard before s to (messages.RejoinTell b) k h w = subst (IsMember g) (sym w.receiver) (subst (HearsMember g) w.hears k)
replica_for g me heard before s to (messages.StateAsk b) k h w = subst (IsMember g) (sym w.receiver.is) w.receiver.member
replica_for g me heard before s to (messages.StateTell b) k h w = subst (IsMember g) (sym w.receiver) (subst (HearsMember g) w.hears k)
replica_for g me heard before s to _ k h w = absurd w

proxy_for : (g : Group) (heard : Heard) (s : ProxyData) (to : Actor) (m : Message) → KnowsClients g s → ProxyShows g.f heard s to m → IsMember g to
proxy_for g heard s to (messages.Timed b) h w = subst (IsMember g) (sym w.receiver) w.member
proxy_for g heard s to (messages.Answer b) h w = subst (IsMember g) (sym w.to_client) (client_in g s _ _ h w.decided)
proxy_for g heard s to _ h w = absurd w

client_for : (g : Group) (script : List _) (s : _) (to : Actor) (m : Message) → ClientShows g.proxies script s to m → IsMember g to
client_for g script s to (messages.Request b) w = subst (IsMember g) (sym w.receiver) w.member
client_for g script s to _ w = absurd w

shown_for : (g : Group) (a : Actor) (heard : Heard) (before s : State a) (to : Actor) (m : Message) → HearsMember g heard → Knows g a s
    → Shows g a heard before s to m → IsMember g to
shown_for g (Replica r) heard before s to m k h w = replica_for g r heard before s to m k h w
shown_for g (Proxy p) heard before s to m k h w = proxy_for g heard s to m h w
shown_for g (Client c) heard before s to m k h w = client_for g _ s to m w

-- ---- replicas: only a request notes where it came from

origins_kept : (g : Group) (me : ℕ) (heard : Heard) → HearsMember g heard → (s t : ReplicaData) (p q : Interval) → Move g.f me heard s p q t → KnowsProxies g s
    → KnowsProxies g t
origins_kept g me heard k s _ _ _ (NoteOrigin proxy b is) h =
    record { origins = insert_each (IsProxyOf g) s.origin b.id _ h.origins (subst (HearsMember g) is k) }
origins_kept g me heard k s _ _ _ _ h = record { origins = h.origins }

replica_takes : (g : Group) (me : ℕ) (s : ReplicaData) (from : Actor) (m : Message) → IsMember g from → KnowsProxies g s
    → KnowsProxies g (replica_message g.f me s from m).0
replica_takes g me s from m member h = message_moves (λ p t. KnowsProxies g t) g.f me s from m (record { kept = origins_kept g me _ member }) h

nothing_heard : (g : Group) (me : ℕ) → Closed g.f me None (λ p t. KnowsProxies g t)
nothing_heard g me = record { kept = origins_kept g me None tt }

replica_ticks : (g : Group) (me : ℕ) (s : ReplicaData) (clock : ℕ) → KnowsProxies g s → KnowsProxies g (tick_rule g.f me s clock).0
replica_ticks g me s clock h = tick_moves (λ p t. KnowsProxies g t) g.f me None (nothing_heard g me) s clock h

replica_alarms : (g : Group) (me : ℕ) (s : ReplicaData) → KnowsProxies g s → KnowsProxies g (alarm_rule g.f me s).0
replica_alarms g me s h = alarm_moves (λ p t. KnowsProxies g t) g.f me None (nothing_heard g me) s h

replica_crashes : (g : Group) (s : ReplicaData) → KnowsProxies g (crash_rule g.f s).0
unfolding crash_rule
replica_crashes g s = record { origins = tt }

replica_restarts : (g : Group) (me : ℕ) (s : ReplicaData) (nonce : ℕ) → KnowsProxies g s → KnowsProxies g (restart_rule g.f me s nonce).0
unfolding restart_rule
replica_restarts g me s nonce h =
    cond_both (is_down s.status) _ (s, []) (λ (t : ReplicaData × List Out). KnowsProxies g t.0) (λ _. record { origins = tt }) (λ _. h)

-- ---- proxies: only a request makes a standing

standing_known : (g : Group) (s : ProxyData) (i : Id) (v : Standing) → i.client < length g.scripts → KnowsClients g s → KnowsClients g (with_standing s i v)
standing_known g s i v below h = record { standings = insert_each (IsClientOf g) s.standings i v h.standings below }

stamped_knows : (g : Group) (s : ProxyData) (i : Id) (bytes : List ℕ) (o : Option Standing) → i.client < length g.scripts → KnowsClients g s
    → KnowsClients g (after_stamp g.f s i bytes o).0
stamped_knows g s i bytes None below h = standing_known g s i (Open []) below h
stamped_knows g s i bytes (Some (Open replies)) below h = h
stamped_knows g s i bytes (Some (Decided a p)) below h = h

answered_knows : (g : Group) (s : ProxyData) (i : Id) (replies : List Reply) (p : Path) (o : Option Answer) → i.client < length g.scripts → KnowsClients g s
    → KnowsClients g (after_chosen_answer s i replies p o).0
answered_knows g s i replies p None below h = standing_known g s i (Open replies) below h
answered_knows g s i replies p (Some a) below h = standing_known g s i (Decided a p) below h

decided_knows : (g : Group) (s : ProxyData) (i : Id) (replies : List Reply) (o : Option Chosen) → i.client < length g.scripts → KnowsClients g s
    → KnowsClients g (after_choice s i replies o).0
decided_knows g s i replies None below h = standing_known g s i (Open replies) below h
decided_knows g s i replies (Some chosen) below h = answered_knows g s i replies chosen.path (answer_in chosen.reply) below h

noted_knows : (g : Group) (s : ProxyData) (i : Id) (r : Reply) (o : Option Standing) → KnowsClients g s → IfSome o (λ _. i.client < length g.scripts)
    → KnowsClients g (after_replica_reply g.f s i r o).0
noted_knows g s i r None h own = h
noted_knows g s i r (Some (Decided a p)) h own = h
noted_knows g s i r (Some (Open replies)) h own = decided_knows g s i (with_note replies r) (decision g.f (with_note replies r)) own h

stamp_knows : (g : Group) (s : ProxyData) (client : ℕ) (b : RequestBody) → client < length g.scripts → KnowsClients g s
    → KnowsClients g (stamp_rule g.f s client b).0
unfolding stamp_rule
stamp_knows g s client b below h = let i : Id = record { client = client; num = b.num } in stamped_knows g s i b.command (standing_of s i) below h

reply_knows : (g : Group) (s : ProxyData) (replica : ℕ) (i : Id) (delay : ℕ) (r : Reply) → KnowsClients g s
    → KnowsClients g (reply_rule g.f s replica i delay r).0
unfolding reply_rule
reply_knows g s replica i delay r h =
    let own = lookup_each (IsClientOf g) s.standings i h.standings in
    noted_knows g (record s { samples = with_sample s.samples replica delay }) i r (standing_of s i) (record { standings = h.standings }) own

proxy_takes : (g : Group) (s : ProxyData) (from : Actor) (m : Message) → IsMember g from → KnowsClients g s → KnowsClients g (proxy_message g.f s from m).0
proxy_takes g s (Client c) (messages.Request b) member h = stamp_knows g s c b member h
proxy_takes g s (Replica r) (messages.FastReply b) member h = reply_knows g s r b.id b.delay (of_fast r b) h
proxy_takes g s (Replica r) (messages.SlowReply b) member h = reply_knows g s r b.id b.delay (of_slow r b) h
proxy_takes g s from m member h = h

proxy_ticks : (g : Group) (s : ProxyData) (clock : ℕ) → KnowsClients g s → KnowsClients g (clock_rule s clock)
unfolding clock_rule
proxy_ticks g s clock h = record { standings = h.standings }

-- ---- every actor

takes : (g : Group) (a : Actor) (s : State a) (from : Actor) (m : Message) → IsMember g from → Knows g a s → Knows g a (message_step g a s from m).0
takes g (Replica r) s from m member h =
    cond_both (is_down s.status) (s, []) (replica_message g.f r s from m) (λ (t : ReplicaData × List Out). KnowsProxies g t.0) (λ _. h)
    (λ _. replica_takes g r s from m member h)
takes g (Proxy p) s from m member h =
    cond_both s.is_down (s, []) (proxy_message g.f s from m) (λ (t : ProxyData × List Out). KnowsClients g t.0) (λ _. h) (λ _. proxy_takes g s from m member h)
takes g (Client c) s from m member h = tt

ticks : (g : Group) (a : Actor) (s : State a) (clock : ℕ) → Knows g a s → Knows g a (tick_step g a s clock).0
ticks g (Replica r) s clock h =
    cond_both (is_down s.status) (s, []) (tick_rule g.f r s clock) (λ (t : ReplicaData × List Out). KnowsProxies g t.0) (λ _. h)
    (λ _. replica_ticks g r s clock h)
ticks g (Proxy p) s clock h =
    cond_both s.is_down (s, []) (clock_rule s clock, []) (λ (t : ProxyData × List Out). KnowsClients g t.0) (λ _. h) (λ _. proxy_ticks g s clock h)
ticks g (Client c) s clock h = tt

alarms : (g : Group) (a : Actor) (s : State a) → Knows g a s → Knows g a (alarm_step g a s).0
alarms g (Replica r) s h = replica_alarms g r s h
alarms g (Proxy p) s h = h
alarms g (Client c) s h = tt

crashes : (g : Group) (a : Actor) (s : State a) → Knows g a s → Knows g a (crash_step g a s).0
crashes g (Replica r) s h = replica_crashes g s
crashes g (Proxy p) s h = record { standings = tt }
crashes g (Client c) s h = tt

restarts : (g : Group) (a : Actor) (s : State a) (nonce : ℕ) → Knows g a s → Knows g a (restart_step g a s nonce).0
restarts g (Replica r) s nonce h = replica_restarts g r s nonce h
restarts g (Proxy p) s nonce h = cond_both s.is_down (first_proxy g.f) s (KnowsClients g) (λ _. record { standings = tt }) (λ _. h)
restarts g (Client c) s nonce h = tt

starts : (g : Group) (a : Actor) → Knows g a (first g a)
starts g (Replica r) = record { origins = tt }
starts g (Proxy p) = record { standings = tt }
starts g (Client c) = tt

-- ---- every run

-- the sender and the receiver take part
abbrev AmongMembers : Group → List Record → Actor → Out → Type 0
AmongMembers g J a o = IsMember g a × IsMember g o.0

abbrev KnownState : Group → List Record → (a : Actor) → State a → Type 0
KnownState g J a s = Knows g a s

-- a step whose sends show its states is of members
all_among : (g : Group) (J : List Record) (a : Actor) (heard : Heard) (s : State a) (t : State a × List Out) → IsMember g a → HearsMember g heard
    → Knows g a t.0 → StepShows g a heard s t
    → Knows g a t.0 × AllByRecursion (AmongMembers g J a) t.1
all_among g J a heard s t member k h w =
    let among : (o : Out) → Shows g a heard s t.0 o.0 o.1 → AmongMembers g J a o = λ o shows. (member, shown_for g a heard s t.0 o.0 o.1 k h shows) in
    (h, all_imply (λ (o : Out). Shows g a heard s t.0 o.0 o.1) (AmongMembers g J a) among t.1 w.shows)

members_keep : (g : Group) → KeepsMore g (Fitted g) (FittedState g) (AmongMembers g) (KnownState g)
members_keep g = record {
  start = λ a. starts g a;
  sent_stays = λ J r w a o p. p;
  state_stays = λ J r w a s q. q;
  message = λ J r w from m hears p f q h now.
      let s = state_after g r.actor J in
      let may = may_show g r.actor s (group_of g J w.1) q in
      all_among g (r ∷ J) r.actor (Some (from, m)) s (message_step g r.actor s from m) w.0.member f.0 (takes g r.actor s from m f.0 h)
      (message_step_shows g r.actor s from m (fair_to g r.actor from m hears) may);
  tick = λ J r w c le q h now.
      let s = state_after g r.actor J in
      let may = may_show g r.actor s (group_of g J w.1) q in
      all_among g (r ∷ J) r.actor None s (tick_step g r.actor s c) w.0.member tt (ticks g r.actor s c h) (tick_step_shows g r.actor s c may);
  alarm = λ J r w q h now.
      let s = state_after g r.actor J in
      all_among g (r ∷ J) r.actor None s (alarm_step g r.actor s) w.0.member tt (alarms g r.actor s h) (alarm_step_shows g r.actor s);
  crash = λ J r w q h now.
      let s = state_after g r.actor J in
      all_among g (r ∷ J) r.actor None s (crash_step g r.actor s) w.0.member tt (crashes g r.actor s h) (crash_step_shows g r.actor s);
  restart = λ J r w nonce small q h now.
      let s = state_after g r.actor J in
      all_among g (r ∷ J) r.actor None s (restart_step g r.actor s nonce) w.0.member tt (restarts g r.actor s nonce h) (restart_step_shows g r.actor s nonce);
}

-- whoever gets a parcel takes part
pub receiver_is_member : (g : Group) (J : List Record) (p : Parcel) → World g J → Has (sent_in J) p → IsMember g p.to
receiver_is_member g J p w h =
    let all = holds g _ _ (keeps_both g (Fitted g) (FittedState g) (AmongMembers g) (KnownState g) (fits_keep g) (members_keep g)) J w in
    let s = sent_from _ J p all.sends h in
    subst (IsMember g) (sym (ap (λ (q : Parcel). q.to) s.is)) s.has.1.1
