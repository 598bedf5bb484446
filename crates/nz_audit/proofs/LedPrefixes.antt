-- The prefix of an accepted answer is in the log that the leader of its view leads with at the end of the run. That is the
-- log of view 0 where all replicas are up in view 0 then.
use Rattle.std.proofs.Common.{◌≡◌, ℕ, ◌<◌, ◌+◌, eqb, eq-eqb, eqb-true, true, false, is_some, List, [], ◌∷◌, length, drop, get_or}
use Rattle.std.proofs.Common.{Option, Some, None, Result, Ok, refl, sym, ap, subst, ◌∙◌, inl, inr, arith}
use Rattle.std.specs.Prelude.{IfSome}
use Rattle.std.proofs.lemmas.Bool.{and_parts, and_from}
use Rattle.std.proofs.lemmas.List.{at_drop_more}
use Rattle.std.proofs.lemmas.Option.{none-some, same_Some, IfSome_then}
use Rattle.std.specs.Option.{option_and_then, option_or}
use Rattle.nz_base.specs.Cluster.{leader_of}
use Rattle.nz_base.specs.declared.actor.Actor.{Actor}
use Rattle.nz_base.specs.declared.actor.Actor.TheVariants.{Replica}
use Rattle.nz_base.specs.declared.key.Id.{Id}
use Rattle.nz_base.proofs.Booleans.{true_and_false}
use Rattle.nz_store.specs.declared.command.Answer.{Answer}
use Rattle.nz_msg.specs.declared.envelope.Envelope.{Envelope}
use Rattle.nz_msg.specs.declared.refusal.DecodeRefusal.{DecodeRefusal}
use Rattle.nz_msg.specs.declared.message.FastReplyBody.{FastReplyBody}
use Rattle.nz_msg.specs.declared.message.Message.{Message}
use Rattle.nz_msg.specs.declared.message.Message.TheVariants.{FastReply}
use Rattle.nz_msg.specs.Envelope.{decode_of}
use Rattle.nz_msg.proofs.Envelopes.{decode-encode}
use Rattle.nz_machine.specs.declared.event.Parcel.{Parcel}
use Rattle.nz_machine.specs.declared.event.Record.{Record}
use Rattle.nz_machine.specs.declared.reply.Reply.{Reply}
use Rattle.nz_machine.specs.runs.Hearing.{heard_at}
use Rattle.nz_machine.specs.rules.Quorums.{view_of, is_of_leader}
use Rattle.nz_machine.specs.rules.Replicas.{is_normal, leads_view}
use Rattle.nz_machine.specs.runs.Shows.{Shows, ShowsFast}
use Rattle.nz_machine.specs.rules.State.{ReplicaData, Group}
use Rattle.nz_machine.specs.rules.Step.{envelope_for}
use Rattle.nz_machine.specs.runs.World.{state_after, Has, World}
use Rattle.nz_machine.specs.runs.History.{ReplySource, cut_after, prefix_at_source}
use Rattle.nz_machine.specs.runs.Leading.{is_normal_in, leader_at, is_led, lead}
use Rattle.nz_machine.proofs.runs.Moments.{at_world}
use Rattle.nz_machine.proofs.shows.ReadShows.{fits_here}
use Rattle.nz_machine.proofs.runs.Runs.{sent_by}
use Rattle.nz_machine.proofs.shows.SentMessages.{shown}
use Rattle.nz_base.specs.Moments.{At}
use Rattle.nz_laws_commit.specs.Present.{AreUpWithin}
use Rattle.nz_laws_commit.proofs.Accepted.{Gives}
use Rattle.nz_laws_commit.proofs.Answering.{given_later}
use Rattle.nz_machine.proofs.facts.Choices.{quorum_leads}
use Rattle.nz_laws_commit.proofs.Instance.{led_log}
use Rattle.nz_laws_commit.proofs.Led.{given_cut}
use Rattle.nz_laws_commit.proofs.NotedWereSent.{IsSaid, Fastly, Slowly, IsBacked}
use Rattle.nz_laws_commit.proofs.Rising.{given_within}
use Rattle.nz_replica.specs.Models.{ReplicaCore, IsCore, AreCores}
use Rattle.nz_audit.specs.Leading.{view_of_message, view_brought, first_view_brought, BringsReplyOf, RepliesIn}
use Rattle.nz_audit.proofs.ReplyFields.{decoded_of}

-- ---- the view of a reply that is sent

same_ok : (x y : Envelope) (d : Result Envelope DecodeRefusal) → d ≡ Ok x → d ≡ Ok y → x ≡ y
same_ok x y d p q = cc

-- it is the view in which its replica was before the record
fast_view : (g : Group) (r : Record) (J : List Record) (m : ℕ) (p : Parcel) (e : Envelope) (b : FastReplyBody) → World g (r ∷ J) → r.actor ≡ Replica m
    → Has r.sends p → envelope_for p.to p ≡ Some e → e.message ≡ FastReply b → b.view ≡ (state_after g (Replica m) J).view
fast_view g r J m p e b w by sent read is =
    let t = sent_by g r J p w sent in
    let fit = fits_here g r J t.out w t.among in
    let own : Envelope = record { from = r.actor; to = t.out.0; message = t.out.1 } in
    let spelled : decode_of p.frame ≡ Ok own =
    ap (λ (q : Parcel). decode_of q.frame) t.is ∙ decode-encode r.actor t.out.0 t.out.1 fit.sender fit.receiver fit.message in
    let message : t.out.1 ≡ FastReply b =
    ap (λ (x : Envelope). x.message) (same_ok own e (decode_of p.frame) spelled (decoded_of p.to p e read)) ∙ is in
    let shows : Shows g (Replica m) (heard_at g (Replica m) r.event) (state_after g (Replica m) J) (state_after g (Replica m) (r ∷ J)) t.out.0 t.out.1 =
    subst (λ (a : Actor). Shows g a (heard_at g a r.event) (state_after g a J) (state_after g a (r ∷ J)) t.out.0 t.out.1) by (shown g r J t.out w t.among) in
    let fast : ShowsFast g.f m (state_after g (Replica m) J) (state_after g (Replica m) (r ∷ J)) t.out.0 b =
    subst (Shows g (Replica m) (heard_at g (Replica m) r.event) (state_after g (Replica m) J) (state_after g (Replica m) (r ∷ J)) t.out.0) message shows in
    fast.view

record IsFastReply (p : Parcel) (v : ℕ) : Type 0 where
  envelope : Envelope
  read : envelope_for p.to p ≡ Some envelope
  body : FastReplyBody
  message : envelope.message ≡ FastReply body
  view : body.view ≡ v

reply_of : (m : Message) (v : ℕ) → view_of_message m ≡ Some v → (b : FastReplyBody) × ((m ≡ FastReply b) × (b.view ≡ v))
reply_of (FastReply b) v is = (b, (refl, same_Some b.view v is))
reply_of _ v is = absurd (none-some v is)

reply_brought : (p : Parcel) (v : ℕ) (o : Option Envelope) → envelope_for p.to p ≡ o
    → option_and_then (λ (e : Envelope). view_of_message e.message) o ≡ Some v → IsFastReply p v
reply_brought p v None read is = absurd (none-some v is)
reply_brought p v (Some e) read is =
    let t = reply_of e.message v is in
    record { envelope = e; read = read; body = t.0; message = t.1.0; view = t.1.1 }

view_before : (g : Group) (r : Record) (J : List Record) (m v : ℕ) → World g (r ∷ J) → r.actor ≡ Replica m → BringsReplyOf v r.sends
    → v ≡ (state_after g (Replica m) J).view
view_before g r J m v w by brings =
    let p = brings.parcel in
    let t = reply_brought p v (envelope_for p.to p) refl brings.view in
    sym t.view ∙ fast_view g r J m p t.envelope t.body w by brings.sent t.read t.message

-- ---- the view of an accepted answer

-- the source's record sends replies of no other view
source_view : (g : Group) (J : List Record) (id : Id) (reply : Reply) (source : ReplySource) (v : ℕ) → World g J → IsBacked g J id reply source
    → RepliesIn v source.run → v ≡ view_of reply
source_view g J id reply source v w backed replies = by_said backed.own
  where
    by_said : IsSaid g J id reply source.sender source.run → v ≡ view_of reply
    by_said (Fastly m from s) =
        view_before g s.newest s.older m v (at_world g J (s.newest ∷ s.older) w s.at) s.actor (subst (RepliesIn v) s.is replies)
        ∙ sym s.shows.view ∙ sym (ap view_of s.reply_is)
    by_said (Slowly m from s) =
        absurd (true_and_false (is_of_leader g.f reply) (quorum_leads g.f backed.replies reply backed.quorum) (ap (is_of_leader g.f) s.reply_is))

-- the prefix of an acceptance is cut from the log that the leader of its view leads with later in the run
pub prefix_led : (g : Group) (later : List Record) (r : Record) (J : List Record) (id : Id) (a : Answer) (v : ℕ) → World g later → At later J
    → (t : Gives g r J id a) → RepliesIn v t.source.run → cut_after id (lead g v later) ≡ prefix_at_source g id t.source
prefix_led g later r J id a v w at t replies =
    let view = source_view g J id t.reply t.source v (at_world g later J w at) t.backed replies in
    let given = given_later g later J at (view_of t.reply) id a t.prefix t.given in
    ap (λ n. cut_after id (lead g n later)) view ∙ sym (given_cut g later (view_of t.reply) id a t.prefix w given) ∙ t.at_source

-- where all replicas are up in view 0 later in the run, the prefix was given in view 0
pub prefix_led_first : (g : Group) (later : List Record) (r : Record) (J : List Record) (id : Id) (a : Answer) → World g later → At later J
    → AreUpWithin 0 g later → (t : Gives g r J id a) → t.prefix ≡ cut_after id (lead g 0 later)
prefix_led_first g later r J id a w at up t =
    let v = view_of t.reply in
    let given = given_later g later J at v id a t.prefix t.given in
    let low = given_within g later 0 v id a t.prefix w up given in
    given_cut g later v id a t.prefix w given ∙ ap (λ n. cut_after id (lead g n later)) (omega (arith, low))

-- ---- the log of a replica that leads after the run

pub log_leads : (g : Group) (J : List Record) (n v : ℕ) (core : ReplicaCore) → IsCore g J n core
    → leads_view core.f core.model.me core.model.state ≡ true → core.model.state.view ≡ v → core.model.state.log.entries ≡ lead g v J
log_leads g J n v core h leading view =
    let s = core.model.state in
    let both = and_parts (is_normal s.status) (eqb (leader_of core.f s.view) core.model.me) leading in
    let leader : leader_of g.f v ≡ n =
    ap (leader_of g.f) (sym view) ∙ ap (λ f. leader_of f s.view) h.cluster ∙ eqb-true (leader_of core.f s.view) core.model.me both.1 ∙ h.number in
    let here : s ≡ leader_at g v J = h.state ∙ ap (λ k. state_after g (Replica k) J) (sym leader) in
    let led : is_led g v J ≡ true =
    subst (λ (t : ReplicaData). is_normal_in v t ≡ true) here (and_from (is_normal s.status) (eqb s.view v) both.0 (eq-eqb s.view v view)) in
    ap (λ (t : ReplicaData). t.log.entries) here ∙ sym (led_log g v J led)

pub core_at : (g : Group) (J : List Record) (cores : List ReplicaCore) (n : ℕ) (core : ReplicaCore) → AreCores g J cores → n < length cores
    → core ≡ get_or cores n core → IsCore g J n core
core_at g J cores n core all lt at = subst (IsCore g J n) (sym at) (all n core lt)

-- ---- the first view that parcels bring

brought : (p : Parcel) (ps : List Parcel) (view : Option ℕ) → view ≡ view_brought p → IfSome (first_view_brought ps) (λ v. BringsReplyOf v ps)
    → IfSome (option_or view (first_view_brought ps)) (λ v. BringsReplyOf v (p ∷ ps))
brought p ps (Some v) is others = record { parcel = p; sent = inl refl; view = sym is }
brought p ps None is others =
    IfSome_then (first_view_brought ps) others (λ v b. record { parcel = b.parcel; sent = inr b.sent; view = b.view })

-- one of them brings it
pub first_brings : (sends : List Parcel) → IfSome (first_view_brought sends) (λ v. BringsReplyOf v sends)
unfolding first_view_brought
first_brings [] = tt
first_brings (p ∷ ps) = brought p ps (view_brought p) refl (first_brings ps)

-- it is that of the parcel at this place, or else of those behind it
first_here : (sends : List Parcel) (i : ℕ) (d : Parcel) (p : Parcel) (view : Option ℕ) → i < length sends → p ≡ get_or sends i d → view ≡ view_brought p
    → first_view_brought (drop i sends) ≡ option_or view (first_view_brought (drop (i + 1) sends))
unfolding first_view_brought
first_here sends i d p view lt at is =
    at_drop_more first_view_brought sends i d lt
    ∙ ap (λ (o : Option ℕ). option_or o (first_view_brought (drop (i + 1) sends))) (sym (is ∙ ap view_brought at))

taken : (view rest : Option ℕ) → is_some view ≡ true → option_or view rest ≡ view
taken None rest h = true_and_false false h refl
taken (Some v) rest h = refl

passed : (view rest : Option ℕ) → is_some view ≡ false → option_or view rest ≡ rest
passed None rest h = refl
passed (Some v) rest h = true_and_false true refl h

pub first_found : (sends : List Parcel) (i : ℕ) (d : Parcel) (p : Parcel) (view : Option ℕ) → i < length sends → p ≡ get_or sends i d → view ≡ view_brought p
    → is_some view ≡ true → first_view_brought (drop i sends) ≡ view
first_found sends i d p view lt at is h = first_here sends i d p view lt at is ∙ taken view (first_view_brought (drop (i + 1) sends)) h

pub first_behind : (sends : List Parcel) (i : ℕ) (d : Parcel) (p : Parcel) (view : Option ℕ) → i < length sends → p ≡ get_or sends i d → view ≡ view_brought p
    → is_some view ≡ false → first_view_brought (drop i sends) ≡ first_view_brought (drop (i + 1) sends)
first_behind sends i d p view lt at is h = first_here sends i d p view lt at is ∙ passed view (first_view_brought (drop (i + 1) sends)) h
