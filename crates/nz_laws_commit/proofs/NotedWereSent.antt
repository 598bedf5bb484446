-- What a proxy noted was said: each reply was sent by its replica, and shows it before and after the record.
use Rattle.std.proofs.Common.{◌≡◌, ℕ, List, [], ◌∷◌, map, Some, sym, ap, subst, ◌∙◌, inl, inr}
use Rattle.std.proofs.lemmas.Option.{none-some, cond_some}
use Rattle.nz_base.specs.declared.actor.Actor.{Actor}
use Rattle.nz_base.specs.declared.actor.Actor.TheVariants.{Replica}
use Rattle.nz_base.specs.declared.key.Id.{Id}
use Rattle.nz_base.specs.Key.{id_eq}
use Rattle.nz_base.specs.Moments.{At}
use Rattle.nz_base.proofs.Moments.{at_then}
use Rattle.nz_base.proofs.Names.{same_id}
use Rattle.nz_digest.specs.Digests.{EntryKey}
use Rattle.nz_log.specs.Places.{entry_key}
use Rattle.nz_msg.specs.declared.message.FastReplyBody.{FastReplyBody}
use Rattle.nz_msg.specs.declared.message.SlowReplyBody.{SlowReplyBody}
use Rattle.nz_msg.specs.declared.message.Message.{Message}
use Rattle.nz_msg.specs.declared.message.Message.TheVariants as messages
use Rattle.nz_msg.specs.declared.envelope.Envelope.{Envelope}
use Rattle.nz_msg.specs.Messages.{Fits}
use Rattle.nz_machine.specs.declared.event.Parcel.{Parcel}
use Rattle.nz_machine.specs.declared.event.Record.{Record}
use Rattle.nz_machine.specs.declared.reply.Reply.{Reply}
use Rattle.nz_machine.specs.rules.State.{Group}
use Rattle.nz_machine.specs.rules.Proxies.{of_fast, of_slow}
use Rattle.nz_machine.specs.rules.Step.{parcel}
use Rattle.nz_machine.specs.runs.World.{state_after, Has, World}
use Rattle.nz_machine.specs.runs.History.{log_at, cut_after, reply_in, ReplySource}
use Rattle.nz_machine.specs.runs.OneHistory.{RepliesOver, HasReplyOver}
use Rattle.nz_machine.specs.runs.Hearing.{heard_at}
use Rattle.nz_machine.specs.runs.Shows.{ShowsFast, ShowsSlow, Shows}
use Rattle.nz_machine.specs.runs.Incarnations.{replica_at}
use Rattle.nz_machine.proofs.runs.Moments.{at_world}
use Rattle.nz_machine.proofs.shows.SentMessages.{shown}
use Rattle.nz_laws_commit.proofs.ReadMessages.{MessageSource}
use Rattle.nz_machine.proofs.facts.Choices.{HasQuorum}

-- a fast reply to the request, by the newest record of K
pub record SaysFast (g : Group) (J : List Record) (id : Id) (m : ℕ) (reply : Reply) (K : List Record) : Type 0 where
  pub newest : Record
  pub older : List Record
  pub is : K ≡ newest ∷ older
  pub at : At J (newest ∷ older)
  pub actor : newest.actor ≡ Replica m
  pub to : Actor
  pub body : FastReplyBody
  pub same : body.id ≡ id
  pub reply_is : reply ≡ of_fast m body
  pub shows : ShowsFast g.f m (replica_at g m older) (replica_at g m (newest ∷ older)) to body
  pub over : HasReplyOver g J (map entry_key (cut_after id (replica_at g m (newest ∷ older)).log.entries))

-- a slow one
pub record SaysSlow (g : Group) (J : List Record) (id : Id) (m : ℕ) (reply : Reply) (K : List Record) : Type 0 where
  pub newest : Record
  pub older : List Record
  pub is : K ≡ newest ∷ older
  pub at : At J (newest ∷ older)
  pub to : Actor
  pub body : SlowReplyBody
  pub same : body.id ≡ id
  pub reply_is : reply ≡ of_slow m body
  pub shows : ShowsSlow g.f m (replica_at g m (newest ∷ older)) to body

pub data IsSaid (g : Group) (J : List Record) (id : Id) (reply : Reply) (from : Actor) (K : List Record) : Type 0 where
  Fastly : (m : ℕ) → from ≡ Replica m → SaysFast g J id m reply K → IsSaid g J id reply from K
  Slowly : (m : ℕ) → from ≡ Replica m → SaysSlow g J id m reply K → IsSaid g J id reply from K

-- what was said stays said
reply_later : (g : Group) (J K : List Record) (keys : List EntryKey) → At J K → HasReplyOver g K keys → HasReplyOver g J keys
reply_later g [] K keys at h = subst (λ (x : List Record). HasReplyOver g x keys) at h
reply_later g (r ∷ J) K keys (inl same) h = subst (λ (x : List Record). HasReplyOver g x keys) same h
reply_later g (r ∷ J) K keys (inr older) h = inr (reply_later g J K keys older h)

pub said_later : (g : Group) (J K : List Record) (id : Id) (reply : Reply) (from : Actor) (M : List Record) → At J K → IsSaid g K id reply from M
    → IsSaid g J id reply from M
said_later g J K id reply from M at (Fastly m by s) = Fastly m by (record {
  newest = s.newest;
  older = s.older;
  is = s.is;
  at = at_then J K (s.newest ∷ s.older) at s.at;
  actor = s.actor;
  to = s.to;
  body = s.body;
  same = s.same;
  reply_is = s.reply_is;
  shows = s.shows;
  over = reply_later g J K (map entry_key (cut_after id (replica_at g m (s.newest ∷ s.older)).log.entries)) at s.over;
})
said_later g J K id reply from M at (Slowly m by s) = Slowly m by (record {
  newest = s.newest;
  older = s.older;
  is = s.is;
  at = at_then J K (s.newest ∷ s.older) at s.at;
  to = s.to;
  body = s.body;
  same = s.same;
  reply_is = s.reply_is;
  shows = s.shows;
})

-- ---- what is read of a parcel

-- the record sends a message of a replica
record SendsAs (g : Group) (J K : List Record) (m : ℕ) (to : Actor) (message : Message) : Type 0 where
  newest : Record
  older : List Record
  is : K ≡ newest ∷ older
  at : At J (newest ∷ older)
  actor : newest.actor ≡ Replica m
  sends : Has newest.sends (parcel newest.actor (to, message))
  fits : Fits message
  shows : Shows g (Replica m) (heard_at g (Replica m) newest.event) (replica_at g m older) (replica_at g m (newest ∷ older)) to message

sends_as : (g : Group) (J K : List Record) (p : Parcel) (e : Envelope) (m : ℕ) (message : Message) → World g J → MessageSource g J K p e → e.from ≡ Replica m
    → e.message ≡ message → SendsAs g J K m e.to message
sends_as g J K p e m message w t from is =
    let moment = t.newest ∷ t.older in
    let now : World g moment = at_world g J moment w t.at in
    let by : t.newest.actor ≡ Replica m = t.sender ∙ from in
    let shows = shown g t.newest t.older (e.to, e.message) now t.among in
    let mine : Shows g (Replica m) (heard_at g (Replica m) t.newest.event) (replica_at g m t.older) (replica_at g m moment) e.to e.message =
    subst (λ (x : Actor). Shows g x (heard_at g x t.newest.event) (state_after g x t.older) (state_after g x moment) e.to e.message) by shows in
    record {
      newest = t.newest;
      older = t.older;
      is = t.is;
      at = t.at;
      actor = by;
      sends = subst (λ (x : Message). Has t.newest.sends (parcel t.newest.actor (e.to, x))) is t.sends;
      fits = subst Fits is t.fit.message;
      shows = subst (Shows g (Replica m) (heard_at g (Replica m) t.newest.event) (replica_at g m t.older) (replica_at g m moment) e.to) is mine;
    }

over_now : (g : Group) (J K : List Record) (id : Id) (m : ℕ) (to : Actor) (b : FastReplyBody) → b.id ≡ id → (s : SendsAs g J K m to (messages.FastReply b))
    → HasReplyOver g J (map entry_key (cut_after id (replica_at g m (s.newest ∷ s.older)).log.entries))
over_now g J K id m to b same s =
    let moment = s.newest ∷ s.older in
    let keys = map entry_key (cut_after id (replica_at g m moment).log.entries) in
    let one : RepliesOver g s.newest s.older keys = record {
      body = b;
      to = to;
      fit = s.fits;
      sent = s.sends;
      over = ap (λ (x : Id). map entry_key (cut_after x (replica_at g m moment).log.entries)) (sym same)
          ∙ ap (λ (a : Actor). map entry_key (cut_after b.id (log_at g a moment))) (sym s.actor);
    } in
    reply_later g J moment keys s.at (inl one)

pub said_by : (g : Group) (J K : List Record) (p : Parcel) (e : Envelope) (from : Actor) (message : Message) (id : Id) (reply : Reply) → World g J
    → MessageSource g J K p e → e.from ≡ from → e.message ≡ message → reply_in id from message ≡ Some reply → IsSaid g J id reply p.from K
said_by g J K p e (Replica m) (messages.FastReply b) id reply w t from is read =
    let c = cond_some (id_eq b.id id) (of_fast m b) reply read in
    let s = sends_as g J K p e m (messages.FastReply b) w t from is in
    let same = same_id b.id id c.0 in
    Fastly m (t.from ∙ from) (record {
      newest = s.newest;
      older = s.older;
      is = s.is;
      at = s.at;
      actor = s.actor;
      to = e.to;
      body = b;
      same = same;
      reply_is = sym c.1;
      shows = s.shows;
      over = over_now g J K id m e.to b same s;
    })
said_by g J K p e (Replica m) (messages.SlowReply b) id reply w t from is read =
    let c = cond_some (id_eq b.id id) (of_slow m b) reply read in
    let s = sends_as g J K p e m (messages.SlowReply b) w t from is in
    Slowly m (t.from ∙ from) (record {
      newest = s.newest;
      older = s.older;
      is = s.is;
      at = s.at;
      to = e.to;
      body = b;
      same = same_id b.id id c.0;
      reply_is = sym c.1;
      shows = s.shows;
    })
said_by g J K p e _ _ id reply w t from is read = absurd (none-some reply read)

-- ---- what a decision rests on

-- the reply was said, by some record
pub record WasSaid (g : Group) (J : List Record) (id : Id) (reply : Reply) : Type 0 where
  pub from : Actor
  pub moment : List Record
  pub said : IsSaid g J id reply from moment

-- the reply that was chosen, at its source, and those that it was counted with
pub record IsBacked (g : Group) (J : List Record) (id : Id) (reply : Reply) (source : ReplySource) : Type 0 where
  pub replies : List Reply
  pub quorum : HasQuorum g.f replies reply
  pub said : (x : Reply) → Has replies x → WasSaid g J id x
  pub own : IsSaid g J id reply source.sender source.run

pub was_said_later : (g : Group) (J K : List Record) → At J K → (id : Id) (reply : Reply) → WasSaid g K id reply → WasSaid g J id reply
was_said_later g J K at id reply h = record { from = h.from; moment = h.moment; said = said_later g J K id reply h.from h.moment at h.said }

pub backed_later : (g : Group) (J K : List Record) → At J K → (id : Id) (reply : Reply) (source : ReplySource) → IsBacked g K id reply source
    → IsBacked g J id reply source
backed_later g J K at id reply source h = record {
  replies = h.replies;
  quorum = h.quorum;
  said = λ x among. was_said_later g J K at id x (h.said x among);
  own = said_later g J K id reply source.sender source.run at h.own;
}
