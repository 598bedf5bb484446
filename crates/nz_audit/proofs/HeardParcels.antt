-- What is heard of a parcel, and the source that a delivered parcel stands for.
use Rattle.std.proofs.Common.{◌≡◌, ℕ, Bool, true, cond, not, ◌&&◌, List, ◌∷◌, Option, Some, None, Result, Ok, Err, refl, sym, ap, subst, ◌∙◌}
use Rattle.std.proofs.lemmas.Bool.{and_parts}
use Rattle.std.specs.Prelude.{is_some}
use Rattle.std.specs.Option.{option_map, option_flatten}
use Rattle.std.proofs.lemmas.Option.{none-some, cond_some}
use Rattle.nz_base.specs.Actor.{actor_eq}
use Rattle.nz_base.specs.Key.{id_eq}
use Rattle.nz_base.specs.declared.actor.Actor.{Actor}
use Rattle.nz_base.specs.declared.actor.Actor.TheVariants.{Replica, Proxy, Client}
use Rattle.nz_base.specs.declared.key.Id.{Id}
use Rattle.nz_base.proofs.Names.{same_actor, same_id}
use Rattle.nz_store.specs.declared.command.Answer.{Answer}
use Rattle.nz_msg.specs.declared.envelope.Envelope.{Envelope}
use Rattle.nz_msg.specs.declared.message.Message.{Message}
use Rattle.nz_msg.specs.declared.message.Message.TheVariants.{FastReply, SlowReply}
use Rattle.nz_msg.specs.declared.refusal.DecodeRefusal.{DecodeRefusal}
use Rattle.nz_msg.specs.Envelope.{decode_of}
use Rattle.nz_machine.specs.declared.event.Parcel.{Parcel}
use Rattle.nz_machine.specs.declared.event.Record.{Record}
use Rattle.nz_machine.specs.declared.reply.Reply.{Reply}
use Rattle.nz_machine.specs.rules.State.{Group}
use Rattle.nz_machine.specs.rules.Quorums.{answer_in}
use Rattle.nz_machine.specs.rules.Proxies.{of_fast, of_slow}
use Rattle.nz_machine.specs.rules.Step.{is_in_cluster, is_sized, message_vector, is_for, envelope_if_for, envelope_for, if_from_cluster, accepted_envelope}
use Rattle.nz_machine.specs.runs.World.{sent_in, Has}
use Rattle.nz_machine.specs.runs.History.{reply_in, source, source_of}
use Rattle.nz_machine.proofs.runs.Sources.{has_source, source_stays}
use Rattle.nz_audit.specs.declared.accepted.answers.Source.{Source}
use Rattle.nz_audit.specs.Sources.{numbers_of, in_numbers, about_message, about_envelope, about, IsNoOther, source_sent, stands_for}

-- ---- an envelope that is heard is of the parcel

pub record IsHeard (me : Actor) (p : Parcel) (e : Envelope) : Type 0 where
  pub heard : envelope_for me p ≡ Some e
  pub from : e.from ≡ p.from
  pub to : p.to ≡ me
  pub receiver : e.to ≡ me

heard_by : (me : Actor) (p : Parcel) (d : Result Envelope DecodeRefusal) (e : Envelope) → envelope_if_for me p d ≡ Some e → is_for me p e ≡ true
heard_by me p (Err refusal) e h = absurd (none-some e h)
heard_by me p (Ok found) e h = let c = cond_some (is_for me p found) found e h in ap (is_for me p) (sym c.1) ∙ c.0

heard_of : (me : Actor) (p : Parcel) (e : Envelope) → envelope_for me p ≡ Some e → is_for me p e ≡ true
unfolding envelope_for
heard_of me p e h = heard_by me p (decode_of p.frame) e h

pub is_heard : (me : Actor) (p : Parcel) (e : Envelope) → envelope_for me p ≡ Some e → IsHeard me p e
is_heard me p e h =
    let all = heard_of me p e h in
    let rest = (and_parts (actor_eq e.from p.from) (actor_eq e.to p.to && (actor_eq e.to me && not (actor_eq e.from me))) all).1 in
    let last = (and_parts (actor_eq e.to p.to) (actor_eq e.to me && not (actor_eq e.from me)) rest).1 in
    let to = same_actor e.to p.to (and_parts (actor_eq e.to p.to) (actor_eq e.to me && not (actor_eq e.from me)) rest).0 in
    let own = same_actor e.to me (and_parts (actor_eq e.to me) (not (actor_eq e.from me)) last).0 in
    record {
      heard = h;
      from = same_actor e.from p.from (and_parts (actor_eq e.from p.from) (actor_eq e.to p.to && (actor_eq e.to me && not (actor_eq e.from me))) all).0;
      to = sym to ∙ own;
      receiver = own;
    }

counted_some : (f : ℕ) (o : Option Envelope) (e : Envelope) → if_from_cluster f o ≡ Some e → o ≡ Some e
counted_some f None e h = absurd (none-some e h)
counted_some f (Some found) e h = ap Some (cond_some (is_in_cluster f found.from && is_sized f (message_vector found.message)) found e h).1

pub is_received : (f : ℕ) (me : Actor) (p : Parcel) (e : Envelope) → accepted_envelope f me p ≡ Some e → IsHeard me p e
is_received f me p e h = is_heard me p e (counted_some f (envelope_for me p) e h)

-- the request that it is about
pub about_heard : (me : Actor) (p : Parcel) (e : Envelope) → IsHeard me p e → about p ≡ about_message e.from me e.message
about_heard me p e h =
    ap (λ (a : Actor). about_envelope (envelope_for a p)) h.to ∙ ap about_envelope h.heard ∙ ap (λ (a : Actor). about_message e.from a e.message) h.receiver

-- a parcel whose messages are all about nothing
about_nothing : (p : Parcel) → ((m : Message) → about_message p.from p.to m ≡ None) → about p ≡ None
about_nothing p none = by_envelope (envelope_for p.to p) refl
  where
    by_envelope : (o : Option Envelope) → envelope_for p.to p ≡ o → about_envelope o ≡ None
    by_envelope None e = refl
    by_envelope (Some x) e =
        let h = is_heard p.to p x e in
        (λ i. about_message (h.from i) (h.receiver i) x.message) ∙ none x.message

from_replica : (k : ℕ) (to : Actor) → ((q : ℕ) → to ≡ Proxy q → ⊥) → (m : Message) → about_message (Replica k) to m ≡ None
from_replica k (Proxy q) other m = absurd (other q refl)
from_replica k (Replica j) other _ = refl
from_replica k (Client c) other _ = refl

from_proxy : (q : ℕ) (to : Actor) → ((c : ℕ) → to ≡ Client c → ⊥) → (m : Message) → about_message (Proxy q) to m ≡ None
from_proxy q (Client c) other m = absurd (other c refl)
from_proxy q (Replica j) other _ = refl
from_proxy q (Proxy p) other _ = refl

from_client : (c : ℕ) (to : Actor) (m : Message) → about_message (Client c) to m ≡ None
from_client c (Replica j) _ = refl
from_client c (Proxy p) _ = refl
from_client c (Client b) _ = refl

-- one of a replica that is not for a proxy
pub replica_about : (p : Parcel) (k : ℕ) → p.from ≡ Replica k → ((q : ℕ) → p.to ≡ Proxy q → ⊥) → about p ≡ None
replica_about p k from other =
    about_nothing p (λ m. ap (λ (a : Actor). about_message a p.to m) from ∙ from_replica k p.to other m)

-- one of a proxy that is not for a client
pub proxy_about : (p : Parcel) (q : ℕ) → p.from ≡ Proxy q → ((c : ℕ) → p.to ≡ Client c → ⊥) → about p ≡ None
proxy_about p q from other = about_nothing p (λ m. ap (λ (a : Actor). about_message a p.to m) from ∙ from_proxy q p.to other m)

-- one of a client
pub client_about : (p : Parcel) (c : ℕ) → p.from ≡ Client c → about p ≡ None
client_about p c from = about_nothing p (λ m. ap (λ (a : Actor). about_message a p.to m) from ∙ from_client c p.to m)

-- ---- the source of a reply that a proxy reads

-- a parcel from a replica stands for its own source
own_source : (g : Group) (id : Id) (p : Parcel) (k : ℕ) (first : Option (List Record)) → p.from ≡ Replica k
    → option_flatten (option_map (source_sent g id p.from) first)
    ≡ in_numbers (option_map (λ (K : List Record). record { sender = p.from; run = K }) first)
own_source g id p k None from = refl
own_source g id p k (Some K) from = ap (λ (a : Actor). source_sent g id a K) from ∙ sym (ap (λ (a : Actor). numbers_of a K) from)

source_later : (p : Parcel) (r : Record) (J : List Record) → Has (sent_in J) p → source p (r ∷ J) ≡ source p J
source_later p r J sent = let s = has_source p J sent in source_stays p r J s.0 s.1 ∙ sym s.1

read_by : (g : Group) (q : ℕ) (id : Id) (r : Record) (J : List Record) (p : Parcel) (from : Actor) (m : Message) (reply : Reply)
    → Has (sent_in J) p → p.from ≡ from → about p ≡ about_message from (Proxy q) m → reply_in id from m ≡ Some reply
    → option_flatten (stands_for g p (source p J) (about p)) ≡ cond (is_some (answer_in reply)) (in_numbers (source_of (r ∷ J) p)) None
read_by g q id r J p (Replica k) (FastReply b) reply sent from is read =
    let c = cond_some (id_eq b.id id) (of_fast k b) reply read in
    let own = own_source g id p k (source p J) from in
    ap (λ (o : Option Id). option_flatten (stands_for g p (source p J) o)) is
    ∙ by_answer b.answer (same_id b.id id c.0)
    ∙ ap (λ (x : Option Source). cond (is_some b.answer) x None)
    (own ∙ ap (λ (first : Option (List Record)). in_numbers
    (option_map (λ (K : List Record). record { sender = p.from; run = K }) first)) (sym (source_later p r J sent)))
    ∙ ap (λ (x : Reply). cond (is_some (answer_in x)) (in_numbers (source_of (r ∷ J) p)) None) c.1
  where
    by_answer : (o : Option Answer) → b.id ≡ id
        → option_flatten (stands_for g p (source p J) (cond (is_some o) (Some b.id) None))
        ≡ cond (is_some o) (option_flatten (option_map (source_sent g id p.from) (source p J))) None
    by_answer None same = refl
    by_answer (Some a) same = ap (λ (i : Id). option_flatten (option_map (source_sent g i p.from) (source p J))) same
read_by g q id r J p (Replica k) (SlowReply b) reply sent from is read =
    let c = cond_some (id_eq b.id id) (of_slow k b) reply read in
    ap (λ (o : Option Id). option_flatten (stands_for g p (source p J) o)) is
    ∙ ap (λ (x : Reply). cond (is_some (answer_in x)) (in_numbers (source_of (r ∷ J) p)) None) c.1
read_by g q id r J p _ _ reply sent from is read = absurd (none-some reply read)

-- a parcel with a reply to a request is about no other
answered_about : (w : Id → Bool) (id own : Id) (o : Option Answer) → own ≡ id → w id ≡ true → IsNoOther w (cond (is_some o) (Some own) None)
answered_about w id own None same wanted = tt
answered_about w id own (Some a) same wanted = ap w same ∙ wanted

about_wanted : (w : Id → Bool) (q : ℕ) (id : Id) (from : Actor) (m : Message) (reply : Reply) → reply_in id from m ≡ Some reply → w id ≡ true
    → IsNoOther w (about_message from (Proxy q) m)
about_wanted w q id (Replica k) (FastReply b) reply read wanted =
    answered_about w id b.id b.answer (same_id b.id id (cond_some (id_eq b.id id) (of_fast k b) reply read).0) wanted
about_wanted w q id (Replica k) (SlowReply b) reply read wanted = tt
about_wanted w q id _ _ reply read wanted = absurd (none-some reply read)

pub wanted_read : (w : Id → Bool) (f q : ℕ) (id : Id) (p : Parcel) (e : Envelope) (reply : Reply) → accepted_envelope f (Proxy q) p ≡ Some e
    → reply_in id e.from e.message ≡ Some reply → w id ≡ true → IsNoOther w (about p)
wanted_read w f q id p e reply h read wanted =
    subst (IsNoOther w) (sym (about_heard (Proxy q) p e (is_received f (Proxy q) p e h))) (about_wanted w q id e.from e.message reply read wanted)

pub source_read : (g : Group) (q : ℕ) (id : Id) (r : Record) (J : List Record) (p : Parcel) (e : Envelope) (reply : Reply) → Has (sent_in J) p
    → accepted_envelope g.f (Proxy q) p ≡ Some e → reply_in id e.from e.message ≡ Some reply
    → option_flatten (stands_for g p (source p J) (about p)) ≡ cond (is_some (answer_in reply)) (in_numbers (source_of (r ∷ J) p)) None
source_read g q id r J p e reply sent h read =
    let is = is_received g.f (Proxy q) p e h in
    read_by g q id r J p e.from e.message reply sent (sym is.from) (about_heard (Proxy q) p e is) read
