-- What an actor sends in a step is what its states before and after show.
use Rattle.std.proofs.Common.{◌≡◌, ℕ, ◌≤◌, ◌&&◌, not, Bool, true, false, cond, List, [], ◌∷◌, ◌++◌, length, Option, Some}
use Rattle.std.proofs.Common.{None, Result, Ok, Err, refl, sym, ap, subst, ◌∙◌, arith, append_assoc, ltb-true}
use Rattle.std.specs.List.{AllByRecursion}
use Rattle.std.proofs.lemmas.Bool.{not-true, and_parts, cond_both}
use Rattle.nz_base.specs.Actor.{actor_eq}
use Rattle.nz_base.specs.Cluster.{replica_count}
use Rattle.nz_base.specs.declared.actor.Actor.{Actor}
use Rattle.nz_base.specs.declared.actor.Actor.TheVariants.{Replica, Proxy, Client}
use Rattle.nz_base.specs.declared.key.Entry.{Entry}
use Rattle.nz_base.specs.Log.{keys_of, HaveOwnIds}
use Rattle.nz_base.proofs.Logs.{own_in_prefix, keys_append}
use Rattle.nz_store.proofs.Turns.{length-replies_from}
use Rattle.nz_msg.specs.declared.message.Message.{Message}
use Rattle.nz_msg.specs.declared.message.Message.TheVariants as messages
use Rattle.nz_msg.specs.declared.envelope.Envelope.{Envelope}
use Rattle.nz_msg.specs.declared.refusal.DecodeRefusal.{DecodeRefusal}
use Rattle.nz_msg.specs.Envelope.{decode_of}
use Rattle.nz_machine.specs.declared.event.Event.{Event}
use Rattle.nz_machine.specs.declared.event.Event.TheVariants.{Deliver, Cut, Tick, Alarm, Crash, Restart}
use Rattle.nz_machine.specs.declared.event.Parcel.{Parcel}
use Rattle.nz_machine.specs.rules.State.{ReplicaData, State, Group, Out}
use Rattle.nz_machine.specs.rules.Facts.{HasFacts}
use Rattle.nz_machine.specs.rules.Replicas.{is_down, commands}
use Rattle.nz_machine.specs.rules.Proxies.{clock_rule}
use Rattle.nz_machine.specs.rules.Step.{is_in_cluster, is_sized, message_vector, is_for, envelope_if_for, envelope_for, if_from_cluster}
use Rattle.nz_machine.specs.rules.Step.{script_of, replica_message, proxy_message, accepted_envelope, message_step, envelope_step}
use Rattle.nz_machine.specs.rules.Step.{tick_rule, tick_step, alarm_step, crash_step, restart_step, event_step}
use Rattle.nz_machine.specs.runs.Hearing.{Heard, heard_as, heard_at}
use Rattle.nz_machine.specs.runs.Shows.{IsOther, Shows}
use Rattle.nz_machine.proofs.runs.Runs.{Hears}
use Rattle.nz_machine.proofs.shows.Shows.{Shown, silent}
use Rattle.nz_machine.proofs.shows.ViewsShow.{alarm_shows, view_ask_shows, start_view_silent, view_change_shows}
use Rattle.nz_machine.proofs.shows.RejoinsShow.{crash_silent, restart_shows, vector_ask_shows, vector_tell_shows, rejoin_ask_shows}
use Rattle.nz_machine.proofs.shows.RejoinsShow.{rejoin_tell_shows, state_ask_shows, state_tell_silent}
use Rattle.nz_machine.proofs.shows.Replies.{HasAnswers, request_shows, tick_shows}
use Rattle.nz_machine.proofs.shows.Following.{log_mod_shows, fetch_shows, fetch_reply_silent, report_silent}
use Rattle.nz_machine.proofs.shows.OthersShow.{proxy_message_shows, wait_shows, client_message_shows}

-- ---- a replica

commands_long : (es : List Entry) → length (commands es) ≡ length es
commands_long [] = grind arith
commands_long (e ∷ es) = let ih = commands_long es in omega (arith, ih)

-- what its facts give
pub has_answers : (f me : ℕ) (s : ReplicaData) → HasFacts f me s → HasAnswers f me s
has_answers f me s h =
    let apart : HaveOwnIds (keys_of ((s.log.entries ++ s.early) ++ s.late)) = subst
    (λ (l : List Entry). HaveOwnIds (keys_of l)) (sym (append_assoc s.log.entries s.early s.late)) h.entries.arranged.own_ids in
    record {
      last = λ normal. h.mode.normal normal;
      own_ids = own_in_prefix (keys_of (s.log.entries ++ s.early)) (keys_of s.late) (subst HaveOwnIds (keys_append (s.log.entries ++ s.early) s.late) apart);
      count = λ normal lead. ap length (h.executed.led normal lead).results ∙ length-replies_from _ (commands s.log.entries) ∙ commands_long s.log.entries;
    }

-- a replica that is heard is another one of the cluster
abbrev pub IsFair : ℕ → ℕ → Actor → Type 0
IsFair f me (Replica r) = IsOther f me (Replica r)
IsFair f me (Proxy p) = Unit {0}
IsFair f me (Client c) = Unit {0}

pub message_shows : (f me : ℕ) (s : ReplicaData) (from : Actor) (m : Message) → IsFair f me from → HasAnswers f me s
    → Shown f me (Some (from, m)) s (replica_message f me s from m)
message_shows f me s (Proxy p) (messages.Timed b) fair a = request_shows f me (Some (Proxy p, messages.Timed b)) s p b a
message_shows f me s (Replica r) (messages.LogMod b) fair a = log_mod_shows f me s r b
message_shows f me s (Replica r) (messages.Fetch b) fair a = fetch_shows f me s r b
message_shows f me s (Replica r) (messages.FetchReply b) fair a = fetch_reply_silent f me (Some (Replica r, messages.FetchReply b)) s r b
message_shows f me s (Replica r) (messages.SyncReport b) fair a = report_silent f me (Some (Replica r, messages.SyncReport b)) s r b
message_shows f me s (Replica r) (messages.ViewAsk b) fair a = view_ask_shows f me (Some (Replica r, messages.ViewAsk b)) s b
message_shows f me s (Replica r) (messages.ViewChange b) fair a = view_change_shows f me (Some (Replica r, messages.ViewChange b)) s r b fair
message_shows f me s (Replica r) (messages.StartView b) fair a = start_view_silent f me (Some (Replica r, messages.StartView b)) s r b
message_shows f me s (Replica r) (messages.VectorAsk b) fair a = vector_ask_shows f me s r b
message_shows f me s (Replica r) (messages.VectorTell b) fair a = vector_tell_shows f me (Some (Replica r, messages.VectorTell b)) s r b
message_shows f me s (Replica r) (messages.RejoinAsk b) fair a = rejoin_ask_shows f me s r b
message_shows f me s (Replica r) (messages.RejoinTell b) fair a = rejoin_tell_shows f me (Some (Replica r, messages.RejoinTell b)) s r b
message_shows f me s (Replica r) (messages.StateAsk b) fair a = state_ask_shows f me s r b
message_shows f me s (Replica r) (messages.StateTell b) fair a = state_tell_silent f me (Some (Replica r, messages.StateTell b)) s r b
message_shows f me s from m fair a = silent f me (Some (from, m)) s s

-- ---- what is heard

-- what is read of a parcel is for the actor and from another, and of the cluster's size
pub record IsRead (f : ℕ) (me : Actor) (p : Parcel) (e : Envelope) : Type 0 where
  pub decodes : decode_of p.frame ≡ Ok e
  pub same_from : actor_eq e.from p.from ≡ true
  pub to_me : actor_eq e.to me ≡ true
  pub other : actor_eq e.from me ≡ false
  pub member : is_in_cluster f e.from ≡ true
  pub sized : is_sized f (message_vector e.message) ≡ true

some_if : (b : Bool) (d e : Envelope) → cond b (Some d) None ≡ Some e → (b ≡ true) × (d ≡ e)
some_if true d e h = (refl, cc)
some_if false d e h = absurd cc

read_by : (f : ℕ) (me : Actor) (p : Parcel) (d : Result Envelope DecodeRefusal) (e : Envelope) → decode_of p.frame ≡ d
    → if_from_cluster f (envelope_if_for me p d) ≡ Some e → IsRead f me p e
read_by f me p (Err x) e says h = absurd cc
read_by f me p (Ok d) e says h = read_if (is_for me p d) refl h
  where
    read_if : (b : Bool) → is_for me p d ≡ b → if_from_cluster f (cond b (Some d) None) ≡ Some e → IsRead f me p e
    read_if false is h = absurd cc
    read_if true is h =
        let t = some_if (is_in_cluster f d.from && is_sized f (message_vector d.message)) d e h in
        let rest = (and_parts (actor_eq d.to p.to) (actor_eq d.to me && not (actor_eq d.from me))
        (and_parts (actor_eq d.from p.from) (actor_eq d.to p.to && (actor_eq d.to me && not (actor_eq d.from me))) is).1).1 in
        subst (IsRead f me p) t.1 (record {
          decodes = says;
          same_from = (and_parts (actor_eq d.from p.from) (actor_eq d.to p.to && (actor_eq d.to me && not (actor_eq d.from me))) is).0;
          to_me = (and_parts (actor_eq d.to me) (not (actor_eq d.from me)) rest).0;
          other = not-true (actor_eq d.from me) (and_parts (actor_eq d.to me) (not (actor_eq d.from me)) rest).1;
          member = (and_parts (is_in_cluster f d.from) (is_sized f (message_vector d.message)) t.0).0;
          sized = (and_parts (is_in_cluster f d.from) (is_sized f (message_vector d.message)) t.0).1;
        })

pub is_read : (f : ℕ) (me : Actor) (p : Parcel) (e : Envelope) → accepted_envelope f me p ≡ Some e → IsRead f me p e
unfolding envelope_for
is_read f me p e h = read_by f me p (decode_of p.frame) e refl h

fair_sender : (f me : ℕ) (from : Actor) → actor_eq from (Replica me) ≡ false → is_in_cluster f from ≡ true → IsFair f me from
fair_sender f me (Replica r) other member = record { replica = r; is = refl; member = ltb-true r (replica_count f) member; other = other }
fair_sender f me (Proxy p) other member = tt
fair_sender f me (Client c) other member = tt

-- what is taken is from another, and a replica that sends it is of the cluster
pub fair_hears : (f me : ℕ) (from : Actor) (m : Message) → Hears f (Replica me) from m → IsFair f me from
fair_hears f me from m h =
    fair_sender f me from (not-true (actor_eq from (Replica me)) h.other) (and_parts (is_in_cluster f from) (is_sized f (message_vector m)) h.counts).0

-- ---- any actor

-- what is asked of the state before
abbrev pub MayShow : Group → (a : Actor) → State a → Type 0
MayShow g (Replica r) s = HasAnswers g.f r s
MayShow g (Proxy p) s = Unit {0}
MayShow g (Client c) s = 1 ≤ g.proxies

-- what is asked of who is heard
abbrev pub IsFairTo : Group → Actor → Actor → Type 0
IsFairTo g (Replica r) from = IsFair g.f r from
IsFairTo g (Proxy p) from = Unit {0}
IsFairTo g (Client c) from = Unit {0}

pub fair_to : (g : Group) (a from : Actor) (m : Message) → Hears g.f a from m → IsFairTo g a from
fair_to g (Replica r) from m h = fair_hears g.f r from m h
fair_to g (Proxy p) from m h = tt
fair_to g (Client c) from m h = tt

-- what an actor sends in a step shows the states before and after
pub record StepShows (g : Group) (a : Actor) (heard : Heard) (before : State a) (t : State a × List Out) : Type 0 where
  pub shows : AllByRecursion (λ (o : Out). Shows g a heard before t.0 o.0 o.1) t.1

quiet : (g : Group) (a : Actor) (heard : Heard) (before s : State a) → StepShows g a heard before (s, [])
quiet g a heard before s = record { shows = tt }

pub message_step_shows : (g : Group) (a : Actor) (s : State a) (from : Actor) (m : Message) → IsFairTo g a from → MayShow g a s
    → StepShows g a (Some (from, m)) s (message_step g a s from m)
message_step_shows g (Replica r) s from m fair may =
    cond_both (is_down s.status) (s, []) (replica_message g.f r s from m) (StepShows g (Replica r) (Some (from, m)) s)
    (λ _. quiet g (Replica r) (Some (from, m)) s s) (λ _. record { shows = (message_shows g.f r s from m fair may).shows })
message_step_shows g (Proxy p) s from m fair may =
    cond_both s.is_down (s, []) (proxy_message g.f s from m) (StepShows g (Proxy p) (Some (from, m)) s) (λ _. quiet g (Proxy p) (Some (from, m)) s s)
    (λ up. record { shows = (proxy_message_shows g.f s from m up).shows })
message_step_shows g (Client c) s from m fair may = record { shows = (client_message_shows g.window g.proxies c (script_of g c) s from m may).shows }

pub tick_step_shows : (g : Group) (a : Actor) (s : State a) (clock : ℕ) → MayShow g a s → StepShows g a None s (tick_step g a s clock)
tick_step_shows g (Replica r) s clock may =
    cond_both (is_down s.status) (s, []) (tick_rule g.f r s clock) (StepShows g (Replica r) None s) (λ _. quiet g (Replica r) None s s)
    (λ _. record { shows = (tick_shows g.f r None s clock may).shows })
tick_step_shows g (Proxy p) s clock may =
    cond_both s.is_down (s, []) (clock_rule s clock, []) (StepShows g (Proxy p) None s) (λ _. quiet g (Proxy p) None s s)
    (λ _. quiet g (Proxy p) None s (clock_rule s clock))
tick_step_shows g (Client c) s clock may = record { shows = (wait_shows g.window g.proxies c (script_of g c) s may).shows }

pub alarm_step_shows : (g : Group) (a : Actor) (s : State a) → StepShows g a None s (alarm_step g a s)
alarm_step_shows g (Replica r) s = record { shows = (alarm_shows g.f r None s).shows }
alarm_step_shows g (Proxy p) s = quiet g (Proxy p) None s s
alarm_step_shows g (Client c) s = quiet g (Client c) None s s

pub crash_step_shows : (g : Group) (a : Actor) (s : State a) → StepShows g a None s (crash_step g a s)
crash_step_shows g (Replica r) s = record { shows = (crash_silent g.f r None s).shows }
crash_step_shows g (Proxy p) s = record { shows = tt }
crash_step_shows g (Client c) s = record { shows = tt }

pub restart_step_shows : (g : Group) (a : Actor) (s : State a) (nonce : ℕ) → StepShows g a None s (restart_step g a s nonce)
restart_step_shows g (Replica r) s nonce = record { shows = (restart_shows g.f r None s nonce).shows }
restart_step_shows g (Proxy p) s nonce = record { shows = tt }
restart_step_shows g (Client c) s nonce = record { shows = tt }

envelope_shows : (g : Group) (a : Actor) (s : State a) (p : Parcel) (x : Option Envelope) → accepted_envelope g.f a p ≡ x → MayShow g a s
    → StepShows g a (heard_as x) s (envelope_step g a s x)
envelope_shows g a s p None is may = quiet g a None s s
envelope_shows g a s p (Some e) is may = message_step_shows g a s e.from e.message (fair_read a is) may
  where
    fair_read : (a : Actor) → accepted_envelope g.f a p ≡ Some e → IsFairTo g a e.from
    fair_read (Replica r) is = let read = is_read g.f (Replica r) p e is in fair_sender g.f r e.from read.other read.member
    fair_read (Proxy q) is = tt
    fair_read (Client c) is = tt

pub event_shows : (g : Group) (a : Actor) (s : State a) (e : Event) → MayShow g a s → StepShows g a (heard_at g a e) s (event_step g a s e)
event_shows g a s (Deliver p) may = envelope_shows g a s p (accepted_envelope g.f a p) refl may
event_shows g a s (Cut kept p) may = quiet g a None s s
event_shows g a s (Tick clock) may = tick_step_shows g a s clock may
event_shows g a s Alarm may = alarm_step_shows g a s
event_shows g a s Crash may = crash_step_shows g a s
event_shows g a s (Restart nonce) may = restart_step_shows g a s nonce
