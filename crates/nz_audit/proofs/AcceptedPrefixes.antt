-- An acceptance leads to its prefix, and the longest of them to the history.
use Rattle.std.proofs.Common.{◌≡◌, ℕ, suc, ◌+◌, ◌-◌, ◌<◌, List, [], ◌∷◌, ◌++◌, length, append_assoc, append-nil}
use Rattle.std.proofs.Common.{zero, Option, Some, None, refl, sym, ap, subst, ◌∙◌, arith, ltb-true, inl}
use Rattle.std.specs.Prelude.{nat_lt, slice_get}
use Rattle.std.specs.List.{cons_option}
use Rattle.std.specs.Option.{option_map, option_and_then, option_flatten}
use Rattle.std.proofs.lemmas.Bool.{cond_both}
use Rattle.std.proofs.lemmas.List.Elements.{filter_map-append}
use Rattle.std.proofs.lemmas.Option.{same_Some}
use Rattle.nz_base.specs.declared.actor.Actor.{Actor}
use Rattle.nz_base.specs.declared.actor.Actor.TheVariants.{Replica, Proxy, Client}
use Rattle.nz_base.specs.declared.key.Id.{Id}
use Rattle.nz_base.specs.declared.key.Entry.{Entry}
use Rattle.nz_base.specs.declared.scenario.Request.{Request}
use Rattle.nz_base.specs.Moments.{At}
use Rattle.nz_store.specs.declared.command.Answer.{Answer as AnswerModel}
use Rattle.nz_msg.specs.declared.message.Path.{Path}
use Rattle.nz_msg.specs.declared.envelope.Envelope.{Envelope}
use Rattle.nz_msg.specs.declared.message.AnswerBody.{AnswerBody}
use Rattle.nz_msg.specs.declared.message.Message.{Message}
use Rattle.nz_msg.specs.declared.message.Message.TheVariants.{Answer}
use Rattle.nz_machine.specs.declared.event.Event.{Event}
use Rattle.nz_machine.specs.declared.event.Event.TheVariants.{Deliver, Cut, Tick, Alarm, Crash, Restart}
use Rattle.nz_machine.specs.declared.event.Parcel.{Parcel}
use Rattle.nz_machine.specs.declared.event.Record.{Record}
use Rattle.nz_machine.specs.declared.journal.Journal.{Journal}
use Rattle.nz_machine.specs.journals.Journals.{group_in, run_in}
use Rattle.nz_machine.specs.rules.State.{ClientData, Group}
use Rattle.nz_machine.specs.rules.Step.{accepted_envelope, envelope_step, event_step, script_of}
use Rattle.nz_machine.specs.runs.World.{state_after, Has, World, IsMember}
use Rattle.nz_machine.specs.runs.Leading.{lead}
use Rattle.nz_machine.specs.declared.client_event.ClientEvent.{ClientEvent}
use Rattle.nz_machine.specs.declared.client_event.ClientEvent.TheVariants.{Sent, Accepted}
use Rattle.nz_machine.specs.runs.Events.{id_at, read_in, accepted_in, accepted_by, sent_after, sent_by, client_events, events}
use Rattle.nz_machine.specs.journals.EventNotes.{all_at}
use Rattle.nz_machine.specs.declared.client_event.EventAt.{EventAt}
use Rattle.nz_machine.specs.runs.History.{ReplySource, source, log_at, cut_after, source_of_sender, accepted_source}
use Rattle.nz_machine.specs.runs.History.{prefix_at_source, accepted_prefix, entries_or, prefix_in, longer, history}
use Rattle.nz_machine.proofs.lists.EachItem.{all_append}
use Rattle.nz_machine.proofs.runs.Moments.{at_world}
use Rattle.nz_machine.proofs.runs.Runs.{acts_itself}
use Rattle.nz_machine.proofs.journals.Accepting.{client_accepts}
use Rattle.nz_laws_commit.specs.Present.{AreUpWithin}
use Rattle.nz_laws_commit.proofs.Accepted.{same_parcel, gives}
use Rattle.nz_laws_commit.proofs.ClientEvents.{event_accepted}
use Rattle.nz_laws_commit.proofs.Whole.{after_newer}
use Rattle.nz_audit.specs.declared.accepted.answers.Source.{Source}
use Rattle.nz_audit.specs.Sources.{numbers_of, in_numbers, about_message, about, source_sent, stands_for, delivered_source}
use Rattle.nz_replay.specs.Runs.{run_up_to}
use Rattle.nz_audit.specs.Prefixes.{prefix_for, requests_sent, with_accepted, with_source, source_by, traced, all_traced}
use Rattle.nz_audit.specs.Leading.{RepliesIn}
use Rattle.nz_audit.specs.Prefixes.{Brings, IsAccepted, IsWithin, GiveHistory, AreAccepted}
use Rattle.nz_audit.specs.declared.accepted.answers.AcceptedAt.{AcceptedAt}
use Rattle.nz_audit.specs.declared.accepted.answers.Traced.{Traced}
use Rattle.nz_audit.proofs.RunsOfSources.{run_named, run_within, run_length}
use Rattle.nz_audit.proofs.LongestPrefixes.{longer_stays, longest_more, order_later, order_more}
use Rattle.nz_audit.proofs.SentRequests.{prefix_few}
use Rattle.nz_audit.proofs.HeardParcels.{is_received, about_heard}
use Rattle.nz_audit.proofs.SourcesAreMoments.{accepted_reached, at_later}
use Rattle.nz_audit.proofs.LedPrefixes.{prefix_led, prefix_led_first}

-- ---- an accepted answer with its source

-- What is noted gives the prefix: nothing where there is none.
record GivesOne (journal : Journal) (place : ℕ) (P : List Entry) (a : Traced) : Type 0 where
  pub prefix : P ≡ prefix_for journal a
  pub within : IsWithin journal a
  pub at : a.accepted.place ≡ place

abbrev Gives : Journal → ℕ → List Entry → Option Traced → Type 0
Gives journal place P None = P ≡ []
Gives journal place P (Some a) = GivesOne journal place P a

-- the records of a run up to a moment
record IsPart (journal : Journal) (J : List Record) : Type 0 where
  newer : List Record
  whole : run_in journal ≡ newer ++ J

part_at : (journal : Journal) (J : List Record) → IsPart journal J → At (run_in journal) J
part_at journal J part = subst (λ (l : List Record). At l J) (sym part.whole) (after_newer part.newer J)

-- the log that the leader of the last replies' view leads with in the end has the sender's log up to the entry
abbrev IsLed : Journal → Id → Actor → List Record → Type 0
IsLed journal id a K = (v : ℕ) → RepliesIn v K
    → cut_after id (lead (group_in journal) v (run_in journal)) ≡ cut_after id (log_at (group_in journal) a K)

from_sender : (journal : Journal) (J later K : List Record) (x : AcceptedAt) (a : Actor) → IsPart journal J → J ≡ later ++ K
    → World (group_in journal) K → IsMember (group_in journal) a → x.sent ≡ requests_sent (events (group_in journal) J) → IsLed journal x.id a K
    → Gives journal x.place (cut_after x.id (log_at (group_in journal) a K)) (with_source (numbers_of a K) x)
from_sender journal J later K x (Replica m) part split w member count led =
    let g = group_in journal in
    let whole : run_in journal ≡ (part.newer ++ later) ++ K =
    part.whole ∙ ap (λ (l : List Record). part.newer ++ l) split ∙ sym (append_assoc part.newer later K) in
    let run = run_named journal (part.newer ++ later) K (length K) whole refl in
    let few = prefix_few g J later K m x.id w split in
    let long : length (cut_after x.id (log_at g (Replica m) (run_up_to journal (length K)))) ≡ length (cut_after x.id (log_at g (Replica m) K)) =
    ap (λ (l : List Record). length (cut_after x.id (log_at g (Replica m) l))) (sym run) in
    record {
      prefix = ap (λ (l : List Record). cut_after x.id (log_at g (Replica m) l)) run;
      within = record {
        replica = member;
        records = run_within journal (part.newer ++ later) K (length K) whole refl;
        sent = omega (arith, few, long, count);
        led = subst (IsLed journal x.id (Replica m)) run led;
      };
      at = refl;
    }
from_sender journal J later K x (Proxy p) part split w member count led = refl
from_sender journal J later K x (Client c) part split w member count led = refl

from_source : (journal : Journal) (J : List Record) (x : AcceptedAt) (p : Parcel) (o : Option ReplySource) → IsPart journal J
    → World (group_in journal) J → x.sent ≡ requests_sent (events (group_in journal) J) → accepted_source (group_in journal) x.id p J ≡ o
    → ((at : ReplySource) → o ≡ Some at → IsLed journal x.id at.sender at.run)
    → Gives journal x.place (entries_or (option_map (prefix_at_source (group_in journal) x.id) o)) (with_source (in_numbers o) x)
from_source journal J x p None part w count e led = refl
from_source journal J x p (Some at) part w count e led =
    let g = group_in journal in
    let h = accepted_reached g x.id p J at w e in
    let t = at_later J at.run h.moment in
    from_sender journal J t.0 at.run x at.sender part t.1 (at_world g J at.run w h.moment) h.member count (led at refl)

-- ---- which request an accepted answer is to

-- the first event is an acceptance
abbrev Begins : List ClientEvent → Id → Type 0
Begins (Accepted id answer path ∷ rest) own = id ≡ own
Begins _ own = ⊥

sent_after_begins : (c : ℕ) (script : List Request) (num more : ℕ) (id : Id) → Begins (sent_after c script num more) id → ⊥
sent_after_begins c script num zero id h = h
sent_after_begins c script num (suc more) id h = h

sent_begins : (c : ℕ) (script : List Request) (s t : ClientData) (id : Id) → Begins (sent_by c script s t) id → ⊥
sent_begins c script s t id h = sent_after_begins c script s.sent (t.sent - s.sent) id h

record IsAcceptedAs (c : ℕ) (s t : ClientData) (m : Message) (id : Id) : Type 0 where
  risen : s.accepted < t.accepted
  body : AnswerBody
  message : m ≡ Answer body
  own : id_at c body.num ≡ id

answer_begins : (c : ℕ) (script : List Request) (s t : ClientData) (m : Message) (id : Id) → Begins (accepted_in c s t m ++ sent_by c script s t) id
    → IsAcceptedAs c s t m id
answer_begins c script s t (Answer b) id =
    cond_both (nat_lt s.accepted t.accepted)
    (Accepted (id_at c b.num) b.answer b.path ∷ []) [] (λ (l : List ClientEvent). Begins (l ++ sent_by c script s t) id → IsAcceptedAs c s t (Answer b) id)
    (λ lt h. record { risen = ltb-true s.accepted t.accepted lt; body = b; message = refl; own = h }) (λ _ h. absurd (sent_begins c script s t id h))
answer_begins c script s t _ id = λ h. absurd (sent_begins c script s t id h)

record IsAnswerAbout (p : Parcel) (id : Id) : Type 0 where
  proxy : ℕ
  from : p.from ≡ Proxy proxy
  about : about p ≡ Some id

client_answered : (g : Group) (c : ℕ) (r : Record) (J : List Record) (p : Parcel) (o : Option Envelope) (id : Id)
    → r.actor ≡ Client c → r.event ≡ Deliver p → accepted_envelope g.f (Client c) p ≡ o
    → Begins (accepted_by c (state_after g (Client c) J) (state_after g (Client c) (r ∷ J)) o
    ++ sent_by c (script_of g c) (state_after g (Client c) J) (state_after g (Client c) (r ∷ J))) id → IsAnswerAbout p id
client_answered g c r J p None id by is heard h = absurd (sent_begins c (script_of g c) (state_after g (Client c) J) (state_after g (Client c) (r ∷ J)) id h)
client_answered g c r J p (Some e) id by is heard h =
    let s = state_after g (Client c) J in
    let t = state_after g (Client c) (r ∷ J) in
    let b = answer_begins c (script_of g c) s t e.message id h in
    let after : t ≡ (envelope_step g (Client c) s (Some e)).0 =
    acts_itself g (Client c) r J by ∙ ap (λ (x : Event). (event_step g (Client c) s x).0) is
    ∙ ap (λ (x : Option Envelope). (envelope_step g (Client c) s x).0) heard in
    let a = client_accepts g c s e (subst (λ (x : ClientData). s.accepted < x.accepted) after b.risen) in
    let of = is_received g.f (Client c) p e heard in
    record {
      proxy = a.proxy;
      from = sym of.from ∙ a.sender;
      about =
          about_heard (Client c) p e of ∙ ap (λ (x : Actor). about_message x (Client c) e.message) a.sender
          ∙ ap (about_message (Proxy a.proxy) (Client c)) b.message ∙ ap Some b.own;
    }

answered_by_actor : (g : Group) (a : Actor) (r : Record) (J : List Record) (p : Parcel) (id : Id) → r.actor ≡ a
    → r.event ≡ Deliver p → Begins (client_events g a r J) id → IsAnswerAbout p id
answered_by_actor g (Client c) r J p id by is h =
    client_answered g c r J p (accepted_envelope g.f (Client c) p) id by is refl
    (subst (λ (x : Event). Begins (accepted_by c (state_after g (Client c) J) (state_after g (Client c) (r ∷ J))
    (read_in g (Client c) x) ++ sent_by c (script_of g c) (state_after g (Client c) J) (state_after g (Client c) (r ∷ J))) id) is h)
answered_by_actor g (Replica m) r J p id by is h = absurd h
answered_by_actor g (Proxy q) r J p id by is h = absurd h

-- ---- what a record adds

answer_stands_for : (g : Group) (id : Id) (p : Parcel) (q : ℕ) (first : Option (List Record)) → p.from ≡ Proxy q
    → option_flatten (option_map (source_sent g id p.from) first) ≡ in_numbers (option_and_then (source_of_sender g id p.from) first)
answer_stands_for g id p q None from = refl
answer_stands_for g id p q (Some K) from =
    ap (λ (a : Actor). source_sent g id a K) from ∙ sym (ap (λ (a : Actor). in_numbers (source_of_sender g id a K)) from)

source_is_accepted : (g : Group) (J : List Record) (p : Parcel) (id : Id) → IsAnswerAbout p id
    → delivered_source g J (Deliver p) ≡ in_numbers (accepted_source g id p J)
source_is_accepted g J p id answer =
    ap (λ (o : Option Id). option_flatten (stands_for g p (source p J) o)) answer.about ∙ answer_stands_for g id p answer.proxy (source p J) answer.from

first_has_it : (event : ClientEvent) (rest E : List ClientEvent) → event ∷ rest ≡ E → Has E event
first_has_it event rest E is = subst (λ (l : List ClientEvent). Has l event) is (inl refl)

-- all of them are sendings
abbrev pub AreSendings : List ClientEvent → Type 0
AreSendings [] = Unit {0}
AreSendings (Sent id command ∷ E) = AreSendings E
AreSendings (Accepted id answer path ∷ E) = ⊥

-- only the first of them may be an acceptance
abbrev pub AreOfRecord : List ClientEvent → Type 0
AreOfRecord (Accepted id answer path ∷ E) = AreSendings E
AreOfRecord E = AreSendings E

after_are_sendings : (c : ℕ) (script : List Request) (num more : ℕ) → AreSendings (sent_after c script num more)
after_are_sendings c script num zero = tt
after_are_sendings c script num (suc more) = after_are_sendings c script (num + 1) more

as_of_record : (E : List ClientEvent) → AreSendings E → AreOfRecord E
as_of_record [] h = tt
as_of_record (Sent id command ∷ E) h = h
as_of_record (Accepted id answer path ∷ E) h = absurd h

-- the events of a record are such
pub events_of_record : (g : Group) (a : Actor) (r : Record) (J : List Record) → AreOfRecord (client_events g a r J)
events_of_record g (Replica m) r J = tt
events_of_record g (Proxy p) r J = tt
events_of_record g (Client c) r J = by_read (read_in g (Client c) r.event)
  where
    s : ClientData
    s = state_after g (Client c) J

    t : ClientData
    t = state_after g (Client c) (r ∷ J)

    sent : List ClientEvent
    sent = sent_by c (script_of g c) s t

    sendings : AreSendings sent
    sendings = after_are_sendings c (script_of g c) s.sent (t.sent - s.sent)

    by_message : (m : Message) → AreOfRecord (accepted_in c s t m ++ sent)
    by_message (Answer b) =
        cond_both (nat_lt s.accepted t.accepted) (Accepted (id_at c b.num) b.answer b.path ∷ []) [] (λ (l : List ClientEvent). AreOfRecord (l ++ sent))
        (λ _. sendings) (λ _. as_of_record sent sendings)
    by_message _ = as_of_record sent sendings

    by_read : (o : Option Envelope) → AreOfRecord (accepted_by c s t o ++ sent)
    by_read None = as_of_record sent sendings
    by_read (Some e) = by_message e.message

no_prefix : (g : Group) (E : List ClientEvent) (e : Event) (J : List Record) → AreSendings E → prefix_in g E e J ≡ []
no_prefix g [] e J h = refl
no_prefix g (Sent id command ∷ E) e J h = refl
no_prefix g (Accepted id answer path ∷ E) e J h = absurd h

-- the source of an answer that is accepted
source_led : (journal : Journal) (r : Record) (J : List Record) (id : Id) (answer : AnswerModel) (path : Path) (rest : List ClientEvent) (p : Parcel)
    → World (group_in journal) (run_in journal) → World (group_in journal) (r ∷ J) → At (run_in journal) J → r.event ≡ Deliver p
    → Accepted id answer path ∷ rest ≡ client_events (group_in journal) r.actor r J
    → (at : ReplySource) → accepted_source (group_in journal) id p J ≡ Some at → IsLed journal id at.sender at.run
source_led journal r J id answer path rest p world w moment is adds at from =
    let g = group_in journal in
    let t = gives g r J id answer path w (event_accepted g r J id answer path (first_has_it (Accepted id answer path) rest _ adds)) in
    let parcel : p ≡ t.parcel = same_parcel p t.parcel (sym is ∙ t.event) in
    let same : t.source ≡ at = same_Some t.source at (sym t.leads ∙ ap (λ (q : Parcel). accepted_source g id q J) (sym parcel) ∙ from) in
    subst (λ (s : ReplySource). IsLed journal id s.sender s.run) same (λ v replies. prefix_led g (run_in journal) r J id answer v world moment t replies)

-- its prefix, where all replicas are up in view 0 in the end
prefix_first : (journal : Journal) (r : Record) (J : List Record) (id : Id) (answer : AnswerModel) (path : Path) (rest : List ClientEvent)
    → World (group_in journal) (run_in journal) → World (group_in journal) (r ∷ J) → At (run_in journal) J
    → Accepted id answer path ∷ rest ≡ client_events (group_in journal) r.actor r J → AreUpWithin 0 (group_in journal) (run_in journal)
    → prefix_in (group_in journal) (Accepted id answer path ∷ rest) r.event J ≡ cut_after id (lead (group_in journal) 0 (run_in journal))
prefix_first journal r J id answer path rest world w moment adds up =
    let g = group_in journal in
    let t = gives g r J id answer path w (event_accepted g r J id answer path (first_has_it (Accepted id answer path) rest _ adds)) in
    ap (λ (l : List ClientEvent). prefix_in g l r.event J) adds ∙ t.is ∙ prefix_led_first g (run_in journal) r J id answer world moment up t

accepts_at : (journal : Journal) (r : Record) (J : List Record) (x : AcceptedAt) (answer : AnswerModel) (path : Path) (rest : List ClientEvent)
    (e : Event) → World (group_in journal) (run_in journal) → World (group_in journal) (r ∷ J) → IsPart journal J → r.event ≡ e
    → Accepted x.id answer path ∷ rest ≡ client_events (group_in journal) r.actor r J
    → x.sent ≡ requests_sent (events (group_in journal) J)
    → Gives journal x.place (prefix_in (group_in journal) (Accepted x.id answer path ∷ rest) e J)
    (with_source (delivered_source (group_in journal) J e) x)
accepts_at journal r J x answer path rest (Deliver p) world w part is adds count =
    let g = group_in journal in
    let begins = answered_by_actor g r.actor r J p x.id refl is (subst (λ (l : List ClientEvent). Begins l x.id) adds refl) in
    subst (λ (s : Option Source). Gives journal x.place (entries_or (accepted_prefix g x.id p J)) (with_source s x))
    (sym (source_is_accepted g J p x.id begins)) (from_source journal J x p (accepted_source g x.id p J) part w.1 count refl
    (source_led journal r J x.id answer path rest p world w (part_at journal J part) is adds))
accepts_at journal r J x answer path rest (Cut kept p) world w part is adds count = refl
accepts_at journal r J x answer path rest (Tick clock) world w part is adds count = refl
accepts_at journal r J x answer path rest Alarm world w part is adds count = refl
accepts_at journal r J x answer path rest Crash world w part is adds count = refl
accepts_at journal r J x answer path rest (Restart nonce) world w part is adds count = refl

-- what its record delivers is about its request
brings_at : (g : Group) (r : Record) (J : List Record) (id : Id) (answer : AnswerModel) (path : Path) (rest : List ClientEvent) (e : Event)
    → r.event ≡ e → Accepted id answer path ∷ rest ≡ client_events g r.actor r J → Brings id e
brings_at g r J id answer path rest (Deliver p) is adds =
    (answered_by_actor g r.actor r J p id refl is (subst (λ (l : List ClientEvent). Begins l id) adds refl)).about
brings_at g r J id answer path rest (Cut kept p) is adds = tt
brings_at g r J id answer path rest (Tick clock) is adds = tt
brings_at g r J id answer path rest Alarm is adds = tt
brings_at g r J id answer path rest Crash is adds = tt
brings_at g r J id answer path rest (Restart nonce) is adds = tt

-- ---- one record more

-- it stays where nothing is added
history_stays : (g : Group) (r : Record) (J : List Record) (P : List Entry) → history g (r ∷ J) ≡ longer (history g J) P → P ≡ []
    → history g (r ∷ J) ≡ history g J
history_stays g r J P then none = then ∙ ap (longer (history g J)) none ∙ longer_stays (history g J) [] (omega arith)

history_more : (journal : Journal) (r : Record) (J : List Record) (P : List Entry) (accepted : List Traced) (o : Option Traced)
    → history (group_in journal) (r ∷ J) ≡ longer (history (group_in journal) J) P → GiveHistory journal J accepted → Gives journal (length J) P o
    → GiveHistory journal (r ∷ J) (with_accepted accepted o)
history_more journal r J P accepted None then h none = record {
  longest = history_stays (group_in journal) r J P then none ∙ h.longest;
  places = order_later 0 (length J) (suc (length J)) accepted h.places (omega arith);
  within = h.within;
}
history_more journal r J P accepted (Some a) then h one =
    let g = group_in journal in
    let at = one.at in
    record {
      longest = longest_more (prefix_for journal) accepted a (history g J) (history g (r ∷ J)) P then h.longest one.prefix;
      places = order_more 0 (length J) (suc (length J)) accepted a h.places (omega (arith, at)) (omega (arith, at));
      within = all_append (IsWithin journal) accepted (a ∷ []) h.within (one.within, tt);
    }

pub traced_more : (journal : Journal) (answers : List AcceptedAt) (a : AcceptedAt)
    → all_traced journal (answers ++ a ∷ []) ≡ with_accepted (all_traced journal answers) (traced journal a)
traced_more journal answers a = filter_map-append (traced journal) answers (a ∷ []) ∙ last (traced journal a)
  where
    last : (o : Option Traced) → all_traced journal answers ++ cons_option o [] ≡ with_accepted (all_traced journal answers) o
    last None = append-nil (all_traced journal answers)
    last (Some x) = refl

-- a record of this place, and the earlier ones
pub record IsAt (journal : Journal) (place : ℕ) (r : Record) : Type 0 where
  pub there : place < length journal.records
  pub at : slice_get journal.records place ≡ Some r
  pub run : World (group_in journal) (run_in journal)
  pub world : World (group_in journal) (r ∷ run_up_to journal place)
  pub newer : List Record
  pub whole : run_in journal ≡ newer ++ (r ∷ run_up_to journal place)

-- where it accepts nothing
none_accepted : (journal : Journal) (r : Record) (J : List Record) (E : List ClientEvent) (answers : List AcceptedAt) → AreSendings E
    → E ≡ client_events (group_in journal) r.actor r J → AreAccepted journal J answers → AreAccepted journal (r ∷ J) answers
none_accepted journal r J E answers sendings is h =
    let g = group_in journal in
    let P = prefix_in g E r.event J in
    let none = no_prefix g E r.event J sendings in
    let then : history g (r ∷ J) ≡ longer (history g J) P = ap (λ (l : List ClientEvent). longer (history g J) (prefix_in g l r.event J)) (sym is) in
    record {
      each = h.each;
      history = history_more journal r J P (all_traced journal answers) None then h.history none;
      one_log = λ up. history_stays g r J P then none ∙ h.one_log up;
    }

one_accepted : (journal : Journal) (place : ℕ) (r : Record) (id : Id) (answer : AnswerModel) (path : Path) (rest : List ClientEvent)
    (answers : List AcceptedAt) (sent : ℕ) → IsAt journal place r
    → Accepted id answer path ∷ rest ≡ client_events (group_in journal) r.actor r (run_up_to journal place)
    → sent ≡ requests_sent (events (group_in journal) (run_up_to journal place)) → AreAccepted journal (run_up_to journal place) answers
    → AreAccepted journal (r ∷ run_up_to journal place) (answers ++ record { place = place; id = id; sent = sent } ∷ [])
one_accepted journal place r id answer path rest answers sent is adds count h =
    let g = group_in journal in
    let J = run_up_to journal place in
    let x : AcceptedAt = record { place = place; id = id; sent = sent } in
    let part : IsPart journal J = record { newer = is.newer ++ r ∷ []; whole = is.whole ∙ sym (append_assoc is.newer (r ∷ []) J) } in
    let there = is.there in
    let long : length J ≡ place = run_length journal place (omega (arith, there)) in
    let own : traced journal x ≡ with_source (delivered_source g J r.event) x =
    ap (λ (o : Option Record). with_source (source_by journal place o) x) is.at in
    let P = prefix_in g (Accepted id answer path ∷ rest) r.event J in
    let then : history g (r ∷ J) ≡ longer (history g J) P = ap (λ (l : List ClientEvent). longer (history g J) (prefix_in g l r.event J)) (sym adds) in
    let gives : Gives journal (length J) P (traced journal x) =
    subst (λ (n : ℕ). Gives journal n P (traced journal x)) (sym long)
    (subst (Gives journal place P) (sym own)
    (accepts_at journal r J x answer path rest r.event is.run is.world part refl adds count)) in
    let brings = brings_at g r J id answer path rest r.event refl adds in
    record {
      each = all_append (IsAccepted journal) answers (x ∷ []) h.each (
        record {
          place = is.there;
          brings = λ s at. subst (λ (y : Record). Brings id y.event) (same_Some r s (sym is.at ∙ at)) brings;
        },
        tt,
      );
      history = subst (GiveHistory journal (r ∷ J)) (sym (traced_more journal answers x))
          (history_more journal r J P (all_traced journal answers) (traced journal x) then h.history gives);
      one_log = λ up.
          let log = lead g 0 (run_in journal) in
          longest_more (λ (y : AcceptedAt). cut_after y.id log) answers x (history g J) (history g (r ∷ J)) P then (h.one_log up)
          (prefix_first journal r J id answer path rest is.run is.world (part_at journal J part) adds up);
    }

-- ---- the events of one record more

-- some accepted answers, and how many requests were sent
pub record Acceptances : Type 0 where
  pub answers : List AcceptedAt
  pub sent : ℕ

abbrev pub no_acceptances : Acceptances
no_acceptances = record { answers = []; sent = 0 }

-- one event more, in the record of this place
abbrev pub with_event : Acceptances → ℕ → ClientEvent → Acceptances
with_event n place (Sent id command) = record { answers = n.answers; sent = n.sent + 1 }
with_event n place (Accepted id answer path) = record { answers = n.answers ++ record { place = place; id = id; sent = n.sent } ∷ []; sent = n.sent }

-- the same of several in turn
abbrev pub after_events : Acceptances → List EventAt → Acceptances
after_events n [] = n
after_events n (x ∷ E) = after_events (with_event n x.place x.event) E

pub events_count : (n : Acceptances) (place tick : ℕ) (E : List ClientEvent) → (after_events n (all_at place tick E)).sent ≡ n.sent + requests_sent E
events_count n place tick [] = omega arith
events_count n place tick (Sent id command ∷ E) = let rest = events_count (with_event n place (Sent id command)) place tick E in omega (arith, rest)
events_count n place tick (Accepted id answer path ∷ E) = events_count (with_event n place (Accepted id answer path)) place tick E

sendings_keep : (n : Acceptances) (place tick : ℕ) (E : List ClientEvent) → AreSendings E → (after_events n (all_at place tick E)).answers ≡ n.answers
sendings_keep n place tick [] h = refl
sendings_keep n place tick (Sent id command ∷ E) h = sendings_keep (with_event n place (Sent id command)) place tick E h
sendings_keep n place tick (Accepted id answer path ∷ E) h = absurd h

pub accepted_then : (journal : Journal) (place tick : ℕ) (r : Record) (E : List ClientEvent) (n : Acceptances) → IsAt journal place r → AreOfRecord E
    → E ≡ client_events (group_in journal) r.actor r (run_up_to journal place)
    → n.sent ≡ requests_sent (events (group_in journal) (run_up_to journal place)) → AreAccepted journal (run_up_to journal place) n.answers
    → AreAccepted journal (r ∷ run_up_to journal place) (after_events n (all_at place tick E)).answers
accepted_then journal place tick r [] n is of_record same count h = none_accepted journal r (run_up_to journal place) [] n.answers tt same h
accepted_then journal place tick r (Sent id command ∷ E) n is sendings same count h =
    let J = run_up_to journal place in
    subst (AreAccepted journal (r ∷ J)) (sym (sendings_keep n place tick (Sent id command ∷ E) sendings))
    (none_accepted journal r J (Sent id command ∷ E) n.answers sendings same h)
accepted_then journal place tick r (Accepted id answer path ∷ E) n is sendings same count h =
    let J = run_up_to journal place in
    subst (AreAccepted journal (r ∷ J)) (sym (sendings_keep (with_event n place (Accepted id answer path)) place tick E sendings))
    (one_accepted journal place r id answer path E n.answers n.sent is same count h)
