-- A reply with an answer is read off the log of its view's leader.
use Rattle.std.proofs.Common.{◌≡◌, ℕ, eqb, eq-eqb, eqb-true, Bool, true, false, cond, List, ◌∷◌, Option, Some, None, refl, sym, ap, subst, ◌∙◌}
use Rattle.std.proofs.lemmas.Bool.{and_from}
use Rattle.std.specs.Prelude.{slice_get}
use Rattle.std.proofs.lemmas.Option.{none-some}
use Rattle.nz_base.specs.Cluster.{leader_of}
use Rattle.nz_base.specs.declared.actor.Actor.{Actor}
use Rattle.nz_base.specs.declared.actor.Actor.TheVariants.{Replica}
use Rattle.nz_base.specs.declared.key.Id.{Id}
use Rattle.nz_base.specs.declared.key.Entry.{Entry}
use Rattle.nz_store.specs.declared.command.Answer.{Answer}
use Rattle.nz_store.proofs.Turns.{slice_get-replies}
use Rattle.nz_msg.specs.declared.message.FastReplyBody.{FastReplyBody}
use Rattle.nz_msg.specs.declared.message.Message.{Message}
use Rattle.nz_msg.specs.declared.message.Message.TheVariants.{FastReply}
use Rattle.nz_msg.specs.declared.envelope.Envelope.{Envelope}
use Rattle.nz_machine.specs.declared.event.Parcel.{Parcel}
use Rattle.nz_machine.specs.declared.event.Record.{Record}
use Rattle.nz_machine.specs.rules.State.{Group}
use Rattle.nz_machine.specs.rules.Replicas.{is_normal, leads, commands}
use Rattle.nz_machine.specs.rules.Step.{event_step}
use Rattle.nz_machine.specs.runs.World.{state_after, Has, World}
use Rattle.nz_machine.specs.runs.History.{log_at, cut_after}
use Rattle.nz_machine.specs.runs.OneHistory.{IsAnswered}
use Rattle.nz_base.specs.Moments.{At}
use Rattle.nz_machine.proofs.runs.Moments.{at_world}
use Rattle.nz_machine.specs.runs.Leading.{is_normal_in, leader_at, is_led}
use Rattle.nz_machine.specs.runs.Hearing.{heard_at}
use Rattle.nz_machine.specs.runs.Shows.{ShowsFast, Shows}
use Rattle.nz_base.proofs.Moments.{at_then}
use Rattle.nz_laws_commit.proofs.Places.{EndsAnswered, cut_answered}
use Rattle.nz_laws_commit.proofs.FactsStay.{facts_stay}
use Rattle.nz_machine.proofs.shows.SentMessages.{shown}
use Rattle.nz_laws_commit.proofs.ReadMessages.{MessageSource}

-- ---- an answer of a leader

-- The view's leader leads it after the records, and answers the request from its log.
record Answers (g : Group) (me : ℕ) (J : List Record) (b : FastReplyBody) (a : Answer) : Type 0 where
  leader : leader_of g.f b.view ≡ me
  led : is_led g b.view J ≡ true
  answered : IsAnswered (leader_at g b.view J).log.entries b.id a

leader_choice : (b : Bool) (o : Option Answer) (a : Answer) → cond b o None ≡ Some a → (b ≡ true) × (o ≡ Some a)
leader_choice true o a e = (refl, e)
leader_choice false o a e = absurd (none-some a e)

answers_shown : (g : Group) (r : Record) (J : List Record) (me : ℕ) (to : Actor) (b : FastReplyBody) (a : Answer) → World g (r ∷ J)
    → ShowsFast g.f me (state_after g (Replica me) J) (state_after g (Replica me) (r ∷ J)) to b → b.answer ≡ Some a → Answers g me (r ∷ J) b a
answers_shown g r J me to b a w h given =
    let s = state_after g (Replica me) J in
    let t = state_after g (Replica me) (r ∷ J) in
    let answer : cond (leads g.f me s) (slice_get t.results h.place) None ≡ Some a = sym h.answer ∙ given in
    let c = leader_choice (leads g.f me s) (slice_get t.results h.place) a answer in
    let now = h.led c.0 in
    let leader : leader_of g.f b.view ≡ me = ap (leader_of g.f) h.view ∙ eqb-true (leader_of g.f s.view) me c.0 in
    let lead : leads g.f me t ≡ true = ap (λ v. eqb (leader_of g.f v) me) now.1 ∙ c.0 in
    let in_view : is_normal_in b.view t ≡ true = and_from (is_normal t.status) (eqb t.view b.view) now.0 (eq-eqb t.view b.view (now.1 ∙ sym h.view)) in
    let results = ((facts_stay g (r ∷ J) me w).executed.led now.0 lead).results in
    let answered : IsAnswered t.log.entries b.id a = record {
      place = h.place;
      place_is = h.place_is;
      answered = sym (slice_get-replies (commands t.log.entries) h.place) ∙ ap (λ (l : List Answer). slice_get l h.place) (sym results) ∙ c.1;
    } in
    record {
      leader = leader;
      led = subst (λ (k : ℕ). is_normal_in b.view (state_after g (Replica k) (r ∷ J)) ≡ true) (sym leader) in_view;
      answered = subst (λ (k : ℕ). IsAnswered (state_after g (Replica k) (r ∷ J)).log.entries b.id a) (sym leader) answered;
    }

-- ---- what an answer is given from

-- P is the log of the view's leader, up to and with the entry of the request, at a moment at which it led the
-- view and answered the request.
pub record IsGiven (g : Group) (J : List Record) (v : ℕ) (id : Id) (a : Answer) (P : List Entry) : Type 0 where
  pub moment : List Record
  pub at : At J moment
  pub led : is_led g v moment ≡ true
  pub from : EndsAnswered (leader_at g v moment).log.entries id a P

pub given_later : (g : Group) (J K : List Record) → At J K → (v : ℕ) (id : Id) (a : Answer) (P : List Entry) → IsGiven g K v id a P
    → IsGiven g J v id a P
given_later g J K at v id a P h = record { moment = h.moment; at = at_then J K h.moment at h.at; led = h.led; from = h.from }

-- the message is a fast reply of the view with this answer
pub record IsAnswering (e : Envelope) (v : ℕ) (id : Id) (a : Answer) : Type 0 where
  pub replica : ℕ
  pub body : FastReplyBody
  pub sender : e.from ≡ Replica replica
  pub message : e.message ≡ FastReply body
  pub view : body.view ≡ v
  pub same : body.id ≡ id
  pub answer : body.answer ≡ Some a

-- the log of the reply's sender when it first sent the reply, up to its entry
pub reply_given : (g : Group) (J K : List Record) (p : Parcel) (e : Envelope) (v : ℕ) (id : Id) (a : Answer) → World g J → MessageSource g J K p e
    → IsAnswering e v id a
    → IsGiven g J v id a (cut_after id (log_at g p.from K))
reply_given g J K p e v id a w t n =
    let me = n.replica in
    let b = n.body in
    let moment = t.newest ∷ t.older in
    let now : World g moment = at_world g J moment w t.at in
    let by : t.newest.actor ≡ Replica me = t.sender ∙ n.sender in
    let among =
    subst (λ (x : Message). Has (event_step g t.newest.actor (state_after g t.newest.actor t.older) t.newest.event).1 (e.to, x)) n.message t.among in
    let shows = shown g t.newest t.older (e.to, FastReply b) now among in
    let fast : ShowsFast g.f me (state_after g (Replica me) t.older) (state_after g (Replica me) moment) e.to b =
    subst (λ (x : Actor). Shows g x (heard_at g x t.newest.event) (state_after g x t.older) (state_after g x moment) e.to (FastReply b)) by shows in
    let own = answers_shown g t.newest t.older me e.to b a now fast n.answer in
    let from : p.from ≡ Replica (leader_of g.f b.view) = t.from ∙ n.sender ∙ ap Replica (sym own.leader) in
    let answered : IsAnswered (leader_at g b.view moment).log.entries id a =
    subst (λ (x : Id). IsAnswered (leader_at g b.view moment).log.entries x a) n.same own.answered in
    let log : log_at g p.from K ≡ (leader_at g b.view moment).log.entries = ap (log_at g p.from) t.is ∙ ap (λ (x : Actor). log_at g x moment) from in
    let given : IsGiven g J b.view id a (cut_after id (leader_at g b.view moment).log.entries) = record {
      moment = moment;
      at = t.at;
      led = own.led;
      from = cut_answered (leader_at g b.view moment).log.entries id a answered;
    } in
    subst (λ (x : ℕ). IsGiven g J x id a (cut_after id (log_at g p.from K))) n.view
    (subst (λ (l : List Entry). IsGiven g J b.view id a (cut_after id l)) (sym log) given)
