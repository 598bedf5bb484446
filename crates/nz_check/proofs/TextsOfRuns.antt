-- What is printed of a run can be read back from its text.
use Rattle.std.proofs.Common.{◌≡◌, ℕ, zero, suc, ◌+◌, ◌-◌, ◌<◌, ◌≤◌, List, [], ◌∷◌, length, Option, Some, None, refl, arith, inl, inr, length-append}
use Rattle.std.specs.Prelude.{Ok, IsSome, nat_lt, slice_get}
use Rattle.std.specs.List.{AllByRecursion, list_any}
use Rattle.std.proofs.lemmas.Bool.{cond_both}
use Rattle.nz_base.specs.Key.{id_of}
use Rattle.nz_base.specs.declared.actor.Actor.{Actor}
use Rattle.nz_base.specs.declared.actor.Actor.TheVariants.{Replica, Proxy, Client}
use Rattle.nz_base.specs.declared.key.Id.{Id}
use Rattle.nz_base.specs.declared.key.Entry.{Entry}
use Rattle.nz_base.specs.declared.scenario.Request.{Request}
use Rattle.nz_store.specs.declared.command.Answer.{Answer}
use Rattle.nz_store.specs.Reading.{command_of}
use Rattle.nz_store.specs.Sequence.{reply}
use Rattle.nz_msg.specs.declared.envelope.Envelope.{Envelope}
use Rattle.nz_msg.specs.declared.message.Message.{Message}
use Rattle.nz_msg.specs.declared.message.Message.TheVariants as messages
use Rattle.nz_machine.specs.declared.event.Record.{Record}
use Rattle.nz_machine.specs.rules.State.{ClientData, Group}
use Rattle.nz_machine.specs.rules.Replicas.{commands}
use Rattle.nz_machine.specs.rules.Step.{script_of}
use Rattle.nz_machine.specs.runs.World.{state_after, Has, HasCommand, IsGroup, IsMember, World}
use Rattle.nz_machine.specs.declared.client_event.ClientEvent.{ClientEvent}
use Rattle.nz_machine.specs.declared.client_event.ClientEvent.TheVariants.{Sent, Accepted}
use Rattle.nz_machine.specs.runs.Events.{id_at, command_of_request, read_in, accepted_in}
use Rattle.nz_machine.specs.runs.Events.{accepted_by, sent_after, sent_by, client_events, events}
use Rattle.nz_machine.specs.runs.History.{history}
use Rattle.nz_machine.specs.runs.OneHistory.{Precedes}
use Rattle.nz_machine.specs.journals.Journals.{executed_if_answered, executed_from}
use Rattle.nz_machine.proofs.runs.Runs.{all_if_has, all_has, group_of}
use Rattle.nz_machine.proofs.lists.EachItem.{all_append}
use Rattle.nz_machine.proofs.lists.ListParts.{all_flat_map}
use Rattle.nz_machine.proofs.runs.FitRuns.{FitsState, all_fit}
use Rattle.nz_machine.proofs.facts.FitClients.{client_of}
use Rattle.nz_laws_commit.proofs.Counts.{are_once}
use Rattle.nz_lin.proofs.Histories.{history_is, history_sent, history_few}
use Rattle.nz_text.specs.Fit.{FitsId, FitsEvent, FitsExecuted, FitsPrinted}
use Rattle.nz_text.specs.Text.{accepts_it, open_in, printed_of_run, text}
use Rattle.nz_text.specs.Reading.{printed_in}
use Rattle.nz_text.proofs.Whole.{read_back}
use Rattle.nz_check.proofs.Answers.{reply_fits}

-- ---- requests

-- a request that was sent has an id and a command
abbrev FitsSent : ClientEvent → Type 0
FitsSent (Sent id command) = FitsId id × IsSome (command_of command)
FitsSent (Accepted id answer path) = Unit {0}

command_fits : (script : List Request) (i : ℕ) → i < length script → AllByRecursion HasCommand script
    → IsSome (command_of (command_of_request (slice_get script i)))
command_fits [] i lt all = absurd (omega (arith, lt))
command_fits (r ∷ script) zero lt all = all.0.command
command_fits (r ∷ script) (suc i) lt all = command_fits script i (omega (arith, lt)) all.1

accepted_fit : (c : ℕ) (before after : ClientData) (m : Message) → AllByRecursion FitsSent (accepted_in c before after m)
accepted_fit c before after (messages.Answer b) =
    cond_both (nat_lt before.accepted after.accepted)
    (Accepted (id_at c b.num) b.answer b.path ∷ []) [] (AllByRecursion FitsSent) (λ _. (tt, tt)) (λ _. tt)
accepted_fit c before after _ = tt

read_fit : (c : ℕ) (before after : ClientData) (o : Option Envelope) → AllByRecursion FitsSent (accepted_by c before after o)
read_fit c before after None = tt
read_fit c before after (Some e) = accepted_fit c before after e.message

sent_fits : (c : ℕ) (script : List Request) (num more : ℕ) → c ≤ 63 → length script ≤ 2000 → AllByRecursion HasCommand script → more ≤ length script - num
    → AllByRecursion FitsSent (sent_after c script num more)
sent_fits c script num zero address short all few = tt
sent_fits c script num (suc more) address short all few = (
  (
    record { client = omega (arith, address); num = omega (arith, short, few) },
    command_fits script (num + 1 - 1) (omega (arith, few)) all,
  ),
  sent_fits c script (num + 1) more address short all (omega (arith, few)),
)

events_of_record_fit : (g : Group) (a : Actor) (r : Record) (J : List Record) → IsGroup g → IsMember g a
    → FitsState g a (state_after g a (r ∷ J)) → AllByRecursion FitsSent (client_events g a r J)
events_of_record_fit g (Replica m) r J group member h = tt
events_of_record_fit g (Proxy p) r J group member h = tt
events_of_record_fit g (Client c) r J group member h =
    let before = state_after g (Client c) J in
    let after = state_after g (Client c) (r ∷ J) in
    let script = script_of g c in
    let client = client_of g c group member in
    let sent = h.sent in
    all_append FitsSent (accepted_by c before after (read_in g (Client c) r.event)) (sent_by c script before after)
    (read_fit c before after (read_in g (Client c) r.event))
    (sent_fits c script before.sent (after.sent - before.sent) client.address client.short client.commands (omega (arith, sent)))

sent_fit : (g : Group) (J : List Record) → World g J → AllByRecursion FitsSent (events g J)
sent_fit g [] w = tt
sent_fit g (r ∷ J) w =
    all_append FitsSent (events g J) (client_events g r.actor r J) (sent_fit g J w.1)
    (events_of_record_fit g r.actor r J (group_of g J w.1) w.0.member ((all_fit g (r ∷ J) w).states r.actor))

request_fits : (g : Group) (J : List Record) (id : Id) (command : List ℕ) → World g J
    → Has (events g J) (Sent id command) → FitsId id × IsSome (command_of command)
request_fits g J id command w h = all_has FitsSent (events g J) (Sent id command) (sent_fit g J w) h

-- ---- events

first_has : {X : Type 0} (xs : List X) (x y : X) → Precedes xs x y → Has xs x
first_has [] x y h = absurd h
first_has (z ∷ zs) x y (inl h) = inl h.0
first_has (z ∷ zs) x y (inr h) = inr (first_has zs x y h)

event_fits : (g : Group) (J : List Record) (t : ClientEvent) → World g J → Has (events g J) t → FitsEvent t
event_fits g J (Sent id command) w h = request_fits g J id command w h
event_fits g J (Accepted id answer path) w h =
    let request = (are_once g J).in_order id answer path h in
    let covered = (history_is g J w).covers id answer path h in
    let by = covered.given.from.answered in (
      (request_fits g J id request.0 w
          (first_has (events g J) (Sent id request.0) (Accepted id answer path) request.1)).0,
      reply_fits (commands covered.prefix) by.place answer by.answered,
    )

events_fit : (g : Group) (J : List Record) → World g J → AllByRecursion FitsEvent (events g J)
events_fit g J w = all_if_has FitsEvent (events g J) (λ t h. event_fits g J t w h)

open_fits : (E : List ClientEvent) (e : ClientEvent) → FitsEvent e → AllByRecursion FitsId (open_in E e)
open_fits E (Sent id command) h = cond_both (list_any (accepts_it id) E) [] (id ∷ []) (AllByRecursion FitsId) (λ _. tt) (λ _. (h.0, tt))
open_fits E (Accepted id answer path) h = tt

each_open : (E es : List ClientEvent) → AllByRecursion FitsEvent es → AllByRecursion (λ e. AllByRecursion FitsId (open_in E e)) es
each_open E [] h = tt
each_open E (e ∷ es) h = (open_fits E e h.0, each_open E es h.1)

-- ---- the history

-- an entry has an id and a command
abbrev IsRequest : Entry → Type 0
IsRequest e = FitsId (id_of e.key) × IsSome (command_of e.command)

requests : (g : Group) (J : List Record) → World g J → AllByRecursion IsRequest (history g J)
requests g J w = all_if_has IsRequest (history g J) (λ e h. request_fits g J (id_of e.key) e.command w (history_sent g J w e h))

answered_fits : (H : List Entry) (place : ℕ) (e : Entry) (o : Option Answer) → reply (commands H) place ≡ o
    → IsRequest e → AllByRecursion FitsExecuted (executed_if_answered e o)
answered_fits H place e None is h = tt
answered_fits H place e (Some a) is h = (record { id = h.0; command = h.1; answer = reply_fits (commands H) place a is }, tt)

executed_fit : (H : List Entry) (place : ℕ) (es : List Entry) → AllByRecursion IsRequest es → AllByRecursion FitsExecuted (executed_from H place es)
executed_fit H place [] h = tt
executed_fit H place (e ∷ es) h =
    all_append FitsExecuted (executed_if_answered e (reply (commands H) place)) (executed_from H (suc place) es)
    (answered_fits H place e (reply (commands H) place) refl h.0) (executed_fit H (suc place) es h.1)

one_answered : (e : Entry) (o : Option Answer) → length (executed_if_answered e o) ≤ 1
one_answered e None = omega arith
one_answered e (Some a) = omega arith

few_executed : (H : List Entry) (place : ℕ) (es : List Entry) → length (executed_from H place es) ≤ length es
few_executed H place [] = omega arith
few_executed H place (e ∷ es) =
    let own = executed_if_answered e (reply (commands H) place) in
    let all = length-append own (executed_from H (suc place) es) in
    let one = one_answered e (reply (commands H) place) in
    let more = few_executed H (suc place) es in
    omega (arith, all, one, more)

-- ---- the whole

fits : (g : Group) (J : List Record) → World g J → FitsPrinted (printed_of_run g J)
fits g J w =
    let own = events_fit g J w in
    let few = history_few g J w in
    let executed_few = few_executed (history g J) 0 (history g J) in
    record {
      events = own;
      unanswered = all_flat_map FitsId (open_in (events g J)) (events g J) (each_open (events g J) (events g J) own);
      history = executed_fit (history g J) 0 (history g J) (requests g J w);
      few = omega (arith, few, executed_few);
    }

pub texts_are_read : (g : Group) (J : List Record) → World g J → printed_in (text g J) ≡ Ok (printed_of_run g J)
texts_are_read g J w = read_back (printed_of_run g J) (fits g J w)
