-- An answer parcel leads from its source to the source of the reply that gives the answer.
use Rattle.std.proofs.Common.{◌≡◌, ℕ, List, ◌∷◌, Some, sym, ap, subst, ◌∙◌}
use Rattle.std.specs.Option.{option_map, option_and_then}
use Rattle.nz_base.specs.declared.actor.Actor.{Actor}
use Rattle.nz_base.specs.declared.actor.Actor.TheVariants.{Proxy, Client}
use Rattle.nz_base.specs.declared.key.Id.{Id}
use Rattle.nz_store.specs.declared.command.Answer.{Answer}
use Rattle.nz_msg.specs.declared.message.Path.{Path}
use Rattle.nz_msg.specs.declared.message.AnswerBody.{AnswerBody}
use Rattle.nz_msg.specs.declared.message.Message.{Message}
use Rattle.nz_msg.specs.declared.message.Message.TheVariants as messages
use Rattle.nz_msg.specs.declared.envelope.Envelope.{Envelope}
use Rattle.nz_machine.specs.declared.event.Parcel.{Parcel}
use Rattle.nz_machine.specs.declared.event.Record.{Record}
use Rattle.nz_machine.specs.rules.State.{ProxyData, Decided, Group}
use Rattle.nz_machine.specs.rules.Proxies.{standing_of}
use Rattle.nz_machine.specs.rules.Step.{event_step}
use Rattle.nz_machine.specs.runs.World.{state_after, Has, World}
use Rattle.nz_machine.specs.runs.Events.{id_at}
use Rattle.nz_machine.specs.runs.History.{ReplySource, source_at_decision, source_of_sender, prefix_at_source}
use Rattle.nz_machine.specs.rules.Quorums.{view_of}
use Rattle.nz_machine.specs.runs.Committed.{view_at_decision, view_of_sender}
use Rattle.nz_machine.specs.declared.reply.Reply.{Reply}
use Rattle.nz_machine.proofs.runs.Moments.{at_world}
use Rattle.nz_base.proofs.Moments.{at_then}
use Rattle.nz_machine.specs.runs.Hearing.{heard_at}
use Rattle.nz_machine.specs.runs.Shows.{ShowsAnswer, Shows}
use Rattle.nz_machine.proofs.shows.SentMessages.{shown}
use Rattle.nz_laws_commit.proofs.ReadMessages.{MessageSource}
use Rattle.nz_laws_commit.proofs.Answering.{IsGiven, given_later}
use Rattle.nz_laws_commit.proofs.NotedWereSent.{IsBacked, backed_later}
use Rattle.nz_laws_commit.proofs.Decisions.{has_decided}

-- ---- the source of an answer

-- the proxy decided this answer
pub record IsDecidedAs (s : ProxyData) (id : Id) (a : Answer) : Type 0 where
  pub path : Path
  pub stands : standing_of s id ≡ Some (Decided a path)

-- the message is an answer of a proxy to a client
pub record IsAnswerOf (e : Envelope) (c : ℕ) (b : AnswerBody) : Type 0 where
  pub proxy : ℕ
  pub sender : e.from ≡ Proxy proxy
  pub receiver : e.to ≡ Client c
  pub message : e.message ≡ messages.Answer b

shown_decided : (s : ProxyData) (c : ℕ) (b : AnswerBody) → ShowsAnswer s (Client c) b → IsDecidedAs s (id_at c b.num) b.answer
shown_decided s c b h = let same : h.client ≡ c =
    (let to = h.to_client in cc) in record { path = b.path; stands = ap (λ (k : ℕ). standing_of s (id_at k b.num)) (sym same) ∙ h.decided }

-- a proxy sends only answers that it has decided
decided_at : (g : Group) (r : Record) (J : List Record) (q c : ℕ) (b : AnswerBody) → World g (r ∷ J) → r.actor ≡ Proxy q
    → Has (event_step g r.actor (state_after g r.actor J) r.event).1 (Client c, messages.Answer b)
    → IsDecidedAs (state_after g (Proxy q) (r ∷ J)) (id_at c b.num) b.answer
decided_at g r J q c b w by among =
    shown_decided (state_after g (Proxy q) (r ∷ J)) c b
    (subst (λ (x : Actor). Shows g x (heard_at g x r.event) (state_after g x J) (state_after g x (r ∷ J)) (Client c) (messages.Answer b)) by
    (shown g r J (Client c, messages.Answer b) w among))

pub record LeadsBack (g : Group) (J : List Record) (id : Id) (a : Answer) (from : Actor) (K : List Record) : Type 0 where
  pub source : ReplySource
  pub is : source_of_sender g id from K ≡ Some source
  pub reply : Reply
  pub view : view_of_sender g id from K ≡ Some (view_of reply)
  pub backed : IsBacked g J id reply source
  pub given : IsGiven g J (view_of reply) id a (prefix_at_source g id source)

pub answer_source : (g : Group) (J K : List Record) (p : Parcel) (e : Envelope) (c : ℕ) (b : AnswerBody) → World g J → MessageSource g J K p e
    → IsAnswerOf e c b → LeadsBack g J (id_at c b.num) b.answer p.from K
answer_source g J K p e c b w t n =
    let q = n.proxy in
    let id = id_at c b.num in
    let moment = t.newest ∷ t.older in
    let known : World g moment = at_world g J moment w t.at in
    let by = t.sender ∙ n.sender in
    let outs = (event_step g t.newest.actor (state_after g t.newest.actor t.older) t.newest.event).1 in
    let to_client = subst (λ (x : Actor). Has outs (x, e.message)) n.receiver t.among in
    let answer = subst (λ (x : Message). Has outs (Client c, x)) n.message to_client in
    let d = decided_at g t.newest t.older q c b known by answer in
    let h = has_decided g moment known q id b.answer d.path d.stands in
    let later = at_then J moment h.moment t.at h.at in
    record {
      source = h.source;
      is = ap (λ (x : Actor). source_of_sender g id x K) (t.from ∙ n.sender) ∙ ap (source_of_sender g id (Proxy q)) t.is
          ∙ ap (option_and_then (source_at_decision g q id)) h.is ∙ h.leads;
      reply = h.reply;
      view = ap (λ (x : Actor). view_of_sender g id x K) (t.from ∙ n.sender) ∙ ap (view_of_sender g id (Proxy q)) t.is
          ∙ ap (option_and_then (view_at_decision g q id)) h.is ∙ ap (option_map view_of) h.names;
      backed = backed_later g J h.moment later id h.reply h.source h.backed;
      given = given_later g J h.moment later (view_of h.reply) id b.answer (prefix_at_source g id h.source) h.given;
    }
