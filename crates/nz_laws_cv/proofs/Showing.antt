-- In every run the messages of replicas show their states: what the laws on rejoins and views take of them.
use Rattle.std.proofs.Common.{◌≡◌, ℕ, eq-eqb, true, false, List, ◌∷◌, Some, sym, ap, subst, ◌∙◌, arith, eqb-true}
use Rattle.nz_base.specs.Actor.{actor_eq}
use Rattle.nz_base.specs.Cluster.{leader_of}
use Rattle.nz_base.specs.Moments.{At}
use Rattle.nz_base.specs.declared.actor.Actor.{Actor}
use Rattle.nz_base.specs.declared.actor.Actor.TheVariants.{Replica}
use Rattle.nz_msg.specs.declared.message.ViewChangeBody.{ViewChangeBody}
use Rattle.nz_msg.specs.declared.message.StartViewBody.{StartViewBody}
use Rattle.nz_msg.specs.declared.message.VectorAskBody.{VectorAskBody}
use Rattle.nz_msg.specs.declared.message.VectorTellBody.{VectorTellBody}
use Rattle.nz_msg.specs.declared.message.RejoinAskBody.{RejoinAskBody}
use Rattle.nz_msg.specs.declared.message.RejoinTellBody.{RejoinTellBody}
use Rattle.nz_msg.specs.declared.message.StateAskBody.{StateAskBody}
use Rattle.nz_msg.specs.declared.message.StateTellBody.{StateTellBody}
use Rattle.nz_msg.specs.declared.message.Message.{Message}
use Rattle.nz_msg.specs.declared.message.Message.TheVariants as messages
use Rattle.nz_machine.specs.declared.event.Record.{Record}
use Rattle.nz_machine.specs.rules.State.{Group}
use Rattle.nz_machine.specs.runs.World.{World}
use Rattle.nz_machine.specs.runs.Hearing.{heard_at}
use Rattle.nz_machine.specs.runs.Incarnations.{replica_at}
use Rattle.nz_machine.specs.runs.Shows.{ShowsVectorAsk, ShowsRejoinAsk, ShowsStateAsk, ShowsVectorTell, ShowsRejoinTell}
use Rattle.nz_machine.specs.runs.Shows.{ShowsStateTell, ShowsViewChange, ShowsStartView}
use Rattle.nz_machine.proofs.runs.Moments.{at_world}
use Rattle.nz_machine.proofs.shows.ReadShows.{IsShown, shown_by, delivers, was_sent, rejoin_tell_takes, state_tell_takes}
use Rattle.nz_laws_cv.proofs.SentShows.{IsSent, Sends, AsksVector, AsksView, AsksLog, TellsVector, TellsView, TellsLog, Reports, StartsView, Shows}

pub same_replica : (r q : ℕ) → Replica r ≡ Replica q → r ≡ q
same_replica r q e = cc

-- an ask that was heard was sent by the receiver of the answer, another replica
record WasAsked (K : List Record) (m y : ℕ) (ask : Message) : Type 0 where
  other : ¬ (m ≡ y)
  asked : IsSent K m y ask

module _ (g : Group) (J : List Record) (w : World g J) where
  shown_now : (y m : ℕ) (message : Message) (r : Record) (K : List Record) → At J (r ∷ K) → Sends r y m message
      → IsShown g (Replica y) r K (Replica m) message
  shown_now y m message r K at s = shown_by g J w (Replica y) r K (Replica m) message at s.fits s.has

  asked_by : (y m asker : ℕ) (ask : Message) (r : Record) (K : List Record) → At J (r ∷ K) → r.actor ≡ Replica y → Replica m ≡ Replica asker
      → heard_at g (Replica y) r.event ≡ Some (Replica asker, ask) → WasAsked K m y ask
  asked_by y m asker ask r K at actor to heard =
      let sent = was_sent g r K (at_world g J (r ∷ K) w at) (Replica y) (Replica asker) ask actor heard in
      let d = delivers g (Replica y) r.event (Replica asker) ask heard in
      let away : actor_eq (Replica m) (Replica y) ≡ false = ap (λ (a : Actor). actor_eq a (Replica y)) (to ∙ sym d.from_is) ∙ d.counts.other in
      let same = sym (same_replica m asker to) in
      record {
        other = λ one. no (sym away ∙ eq-eqb m y one);
        asked = subst (λ (n : ℕ). IsSent K n y ask) same (record { has = sent.sent; fits = sent.fits });
      }
    where
      no : false ≡ true → ⊥
      no e = absurd cc

  asks_vector : (y m : ℕ) (b : VectorAskBody) (r : Record) (K : List Record) → At J (r ∷ K) → Sends r y m (messages.VectorAsk b) → AsksVector g y b (r ∷ K)
  asks_vector y m b r K at s =
      let h : ShowsVectorAsk g.f y (replica_at g y (r ∷ K)) (Replica m) b = (shown_now y m (messages.VectorAsk b) r K at s).shows in
      record { rejoining = h.rejoining; nonce = ap (λ (x : VectorAskBody). x.nonce) (sym h.read) }

  asks_view : (y m : ℕ) (b : RejoinAskBody) (r : Record) (K : List Record) → At J (r ∷ K) → Sends r y m (messages.RejoinAsk b) → AsksView g y b (r ∷ K)
  asks_view y m b r K at s =
      let h : ShowsRejoinAsk g.f y (replica_at g y (r ∷ K)) (Replica m) b = (shown_now y m (messages.RejoinAsk b) r K at s).shows in
      let same = sym h.read in
      record {
        rejoining = h.rejoining;
        in_phase = h.in_phase;
        nonce = ap (λ (x : RejoinAskBody). x.nonce) same;
        vector = ap (λ (x : RejoinAskBody). x.vector) same;
      }

  asks_log : (y m : ℕ) (b : StateAskBody) (r : Record) (K : List Record) → At J (r ∷ K) → Sends r y m (messages.StateAsk b) → AsksLog g y b (r ∷ K)
  asks_log y m b r K at s =
      let h : ShowsStateAsk g.f y (replica_at g y (r ∷ K)) (Replica m) b = (shown_now y m (messages.StateAsk b) r K at s).shows in
      let same = sym h.read in
      record {
        rejoining = h.rejoining;
        in_phase = h.in_phase;
        nonce = ap (λ (x : StateAskBody). x.nonce) same;
        vector = ap (λ (x : StateAskBody). x.vector) same;
        wanted = ap (λ (x : StateAskBody). x.view) same;
      }

  tells_vector : (y m : ℕ) (b : VectorTellBody) (r : Record) (K : List Record) → At J (r ∷ K) → Sends r y m (messages.VectorTell b)
      → TellsVector g y m b r K
  tells_vector y m b r K at s =
      let now = shown_now y m (messages.VectorTell b) r K at s in
      let h : ShowsVectorTell g.f y (heard_at g (Replica y) r.event) (replica_at g y (r ∷ K)) (Replica m) b = now.shows in
      let a = asked_by y m h.asker (messages.VectorAsk h.ask) r K at now.sender h.receiver h.hears in
      let same = sym h.read in
      record {
        other = a.other;
        normal = h.normal;
        vector = ap (λ (x : VectorTellBody). x.vector) same;
        asked = subst (λ n. IsSent K m y (messages.VectorAsk (record { nonce = n }))) (ap (λ (x : VectorTellBody). x.nonce) same) a.asked;
      }

  tells_view : (y m : ℕ) (b : RejoinTellBody) (r : Record) (K : List Record) → At J (r ∷ K) → Sends r y m (messages.RejoinTell b) → TellsView g y m b r K
  tells_view y m b r K at s =
      let now = shown_now y m (messages.RejoinTell b) r K at s in
      let h : ShowsRejoinTell g.f y (heard_at g (Replica y) r.event) (replica_at g y K) (replica_at g y (r ∷ K)) (Replica m) b = now.shows in
      let a = asked_by y m h.asker (messages.RejoinAsk h.ask) r K at now.sender h.receiver h.hears in
      let same = sym h.read in
      let earlier = (at_world g J (r ∷ K) w at).1 in
      record {
        other = a.other;
        normal = h.normal;
        view = ap (λ (x : RejoinTellBody). x.view) same;
        vector = ap (λ (x : RejoinTellBody). x.vector) same;
        ask = h.ask.vector;
        asked = subst (λ n. IsSent K m y (messages.RejoinAsk (record { nonce = n; vector = h.ask.vector }))) (ap (λ (x : RejoinTellBody). x.nonce) same)
            a.asked;
        merged = record { places = λ k other. rejoin_tell_takes g y r K (Replica m) b earlier h k other };
      }

  tells_log : (y m : ℕ) (b : StateTellBody) (r : Record) (K : List Record) → At J (r ∷ K) → Sends r y m (messages.StateTell b) → TellsLog g y m b r K
  tells_log y m b r K at s =
      let now = shown_now y m (messages.StateTell b) r K at s in
      let h : ShowsStateTell g.f y (heard_at g (Replica y) r.event) (replica_at g y K) (replica_at g y (r ∷ K)) (Replica m) b = now.shows in
      let a = asked_by y m h.asker (messages.StateAsk h.ask) r K at now.sender h.receiver h.hears in
      let same = sym h.read in
      let view = ap (λ (x : StateTellBody). x.view) same in
      let late = h.later in
      let earlier = (at_world g J (r ∷ K) w at).1 in
      record {
        other = a.other;
        normal = h.normal;
        view = view;
        leads = ap (leader_of g.f) (sym view) ∙ eqb-true (leader_of g.f (replica_at g y (r ∷ K)).view) y h.led;
        vector = ap (λ (x : StateTellBody). x.vector) same;
        commit = ap (λ (x : StateTellBody). x.commit) same;
        entries = ap (λ (x : StateTellBody). x.entries) same;
        ask = h.ask;
        nonce = ap (λ (x : StateTellBody). x.nonce) same;
        late = omega (arith, late, view);
        asked = a.asked;
        merged = record { places = λ k other. state_tell_takes g y r K (Replica m) b earlier h k other };
      }

  reports : (y m : ℕ) (b : ViewChangeBody) (r : Record) (K : List Record) → At J (r ∷ K) → Sends r y m (messages.ViewChange b) → Reports g y b (r ∷ K)
  reports y m b r K at s =
      let h : ShowsViewChange g.f y (replica_at g y (r ∷ K)) (Replica m) b = (shown_now y m (messages.ViewChange b) r K at s).shows in
      let same = sym h.read in
      record {
        changing = h.changing;
        view = ap (λ (x : ViewChangeBody). x.view) same;
        last = ap (λ (x : ViewChangeBody). x.last) same;
        vector = ap (λ (x : ViewChangeBody). x.vector) same;
        synced = ap (λ (x : ViewChangeBody). x.synced) same;
        commit = ap (λ (x : ViewChangeBody). x.commit) same;
        entries = ap (λ (x : ViewChangeBody). x.entries) same;
      }

  starts : (y m : ℕ) (b : StartViewBody) (r : Record) (K : List Record) → At J (r ∷ K) → Sends r y m (messages.StartView b) → StartsView g y b (r ∷ K)
  starts y m b r K at s =
      let h : ShowsStartView g.f y (replica_at g y (r ∷ K)) (Replica m) b = (shown_now y m (messages.StartView b) r K at s).shows in
      let same = sym h.read in
      let view = ap (λ (x : StartViewBody). x.view) same in
      record {
        normal = h.normal;
        view = view;
        leads = ap (leader_of g.f) (sym view) ∙ eqb-true (leader_of g.f (replica_at g y (r ∷ K)).view) y h.led;
        vector = ap (λ (x : StartViewBody). x.vector) same;
        commit = ap (λ (x : StartViewBody). x.commit) same;
        entries = ap (λ (x : StartViewBody). x.entries) same;
      }

-- every message of a run shows its sender
pub shows : (g : Group) (J : List Record) → World g J → Shows g J
shows g J w = record {
  vector_ask = asks_vector g J w;
  rejoin_ask = asks_view g J w;
  state_ask = asks_log g J w;
  vector_tell = tells_vector g J w;
  rejoin_tell = tells_view g J w;
  state_tell = tells_log g J w;
  view_change = reports g J w;
  start_view = starts g J w;
}
