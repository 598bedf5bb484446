-- What a message that a record sends shows of its sender's state after that record, in the words of these laws.
use Rattle.std.proofs.Common.{◌≡◌, ℕ, ◌≤◌, true, List, ◌∷◌, Some, inr}
use Rattle.std.specs.Prelude.{slice_index}
use Rattle.nz_base.specs.Cluster.{leader_of}
use Rattle.nz_base.specs.declared.actor.Actor.TheVariants.{Replica}
use Rattle.nz_msg.specs.declared.message.ViewChangeBody.{ViewChangeBody}
use Rattle.nz_msg.specs.declared.message.StartViewBody.{StartViewBody}
use Rattle.nz_msg.specs.declared.message.VectorAskBody.{VectorAskBody}
use Rattle.nz_msg.specs.declared.message.VectorTellBody.{VectorTellBody}
use Rattle.nz_msg.specs.declared.message.RejoinAskBody.{RejoinAskBody}
use Rattle.nz_msg.specs.declared.message.RejoinTellBody.{RejoinTellBody}
use Rattle.nz_msg.specs.declared.message.StateAskBody.{StateAskBody}
use Rattle.nz_msg.specs.declared.message.StateTellBody.{StateTellBody}
use Rattle.nz_msg.specs.declared.message.Message.{Message}
use Rattle.nz_msg.specs.declared.message.Message.TheVariants as messages
use Rattle.nz_machine.specs.declared.event.Parcel.{Parcel}
use Rattle.nz_machine.specs.declared.event.Record.{Record}
use Rattle.nz_machine.specs.rules.State.{Group}
use Rattle.nz_machine.specs.declared.data.Phase.TheVariants as phases
use Rattle.nz_machine.specs.rules.Replicas.{is_normal, is_changing, is_rejoining}
use Rattle.nz_machine.specs.rules.Rejoining.{is_phase}
use Rattle.nz_machine.specs.rules.Step.{parcel}
use Rattle.nz_machine.specs.runs.World.{Has, sent_in, World}
use Rattle.nz_machine.specs.runs.Incarnations.{replica_at}
use Rattle.nz_base.specs.Moments.{At}
use Rattle.nz_laws_cv.proofs.OutcomeRules.{heard_by}
use Rattle.nz_machine.proofs.runs.Runs.{FitsOut, has_right}
use Rattle.nz_machine.proofs.shows.ReadShows as reads
use Rattle.nz_base.proofs.Moments.{at_self, at_then}
use Rattle.nz_machine.proofs.runs.Sources.{source_is, has_source}

-- a parcel between two replicas
abbrev pub letter : ℕ → ℕ → Message → Parcel
letter y m message = parcel (Replica y) (Replica m, message)

-- it was sent, and fits a frame: else its frame might be that of another message
pub record IsSent (K : List Record) (y m : ℕ) (message : Message) : Type 0 where
  pub has : Has (sent_in K) (letter y m message)
  pub fits : FitsOut (Replica y) (Replica m, message)

-- the record sends it
pub record Sends (r : Record) (y m : ℕ) (message : Message) : Type 0 where
  pub has : Has r.sends (letter y m message)
  pub fits : FitsOut (Replica y) (Replica m, message)

-- ---- asks: of a replica that rejoins

pub record AsksVector (g : Group) (y : ℕ) (b : VectorAskBody) (K : List Record) : Type 0 where
  pub rejoining : is_rejoining (replica_at g y K).status ≡ true
  pub nonce : (replica_at g y K).rejoin.nonce ≡ b.nonce

pub record AsksView (g : Group) (y : ℕ) (b : RejoinAskBody) (K : List Record) : Type 0 where
  pub rejoining : is_rejoining (replica_at g y K).status ≡ true
  pub in_phase : is_phase (replica_at g y K).rejoin.phase phases.Views ≡ true
  pub nonce : (replica_at g y K).rejoin.nonce ≡ b.nonce
  pub vector : (replica_at g y K).vector ≡ b.vector

pub record AsksLog (g : Group) (y : ℕ) (b : StateAskBody) (K : List Record) : Type 0 where
  pub rejoining : is_rejoining (replica_at g y K).status ≡ true
  pub in_phase : is_phase (replica_at g y K).rejoin.phase phases.Log ≡ true
  pub nonce : (replica_at g y K).rejoin.nonce ≡ b.nonce
  pub vector : (replica_at g y K).vector ≡ b.vector
  pub wanted : (replica_at g y K).rejoin.wanted ≡ b.view

-- ---- tells: of a replica in normal operation, to one whose ask with the same nonce it hears in that record

pub record TellsVector (g : Group) (y m : ℕ) (b : VectorTellBody) (r : Record) (K : List Record) : Type 0 where
  pub other : ¬ (m ≡ y)
  pub normal : is_normal (replica_at g y (r ∷ K)).status ≡ true
  pub vector : (replica_at g y (r ∷ K)).vector ≡ b.vector
  pub asked : IsSent K m y (messages.VectorAsk (record { nonce = b.nonce }))

-- an ask whose vector was merged off the own place
pub record Merged (g : Group) (y : ℕ) (u : List ℕ) (K : List Record) : Type 0 where
  pub places : (k : ℕ) → ¬ (k ≡ y) → slice_index u k ≤ slice_index (replica_at g y K).vector k

pub record TellsView (g : Group) (y m : ℕ) (b : RejoinTellBody) (r : Record) (K : List Record) : Type 0 where
  pub other : ¬ (m ≡ y)
  pub normal : is_normal (replica_at g y (r ∷ K)).status ≡ true
  pub view : (replica_at g y (r ∷ K)).view ≡ b.view
  pub vector : (replica_at g y (r ∷ K)).vector ≡ b.vector
  pub ask : List ℕ
  pub asked : IsSent K m y (messages.RejoinAsk (record { nonce = b.nonce; vector = ask }))
  pub merged : Merged g y ask (r ∷ K)

pub record TellsLog (g : Group) (y m : ℕ) (b : StateTellBody) (r : Record) (K : List Record) : Type 0 where
  pub other : ¬ (m ≡ y)
  pub normal : is_normal (replica_at g y (r ∷ K)).status ≡ true
  pub view : (replica_at g y (r ∷ K)).view ≡ b.view
  pub leads : leader_of g.f b.view ≡ y
  pub vector : (replica_at g y (r ∷ K)).vector ≡ b.vector
  pub commit : (replica_at g y (r ∷ K)).commit ≡ b.commit
  pub entries : (replica_at g y (r ∷ K)).log.entries ≡ b.entries
  pub ask : StateAskBody
  pub nonce : ask.nonce ≡ b.nonce
  pub late : ask.view ≤ b.view
  pub asked : IsSent K m y (messages.StateAsk ask)
  pub merged : Merged g y ask.vector (r ∷ K)

-- ---- view changes and starts

pub record Reports (g : Group) (y : ℕ) (b : ViewChangeBody) (K : List Record) : Type 0 where
  pub changing : is_changing (replica_at g y K).status ≡ true
  pub view : (replica_at g y K).view ≡ b.view
  pub last : (replica_at g y K).last ≡ b.last
  pub vector : (replica_at g y K).vector ≡ b.vector
  pub synced : (replica_at g y K).log.synced ≡ b.synced
  pub commit : (replica_at g y K).commit ≡ b.commit
  pub entries : (replica_at g y K).log.entries ≡ b.entries

pub record StartsView (g : Group) (y : ℕ) (b : StartViewBody) (K : List Record) : Type 0 where
  pub normal : is_normal (replica_at g y K).status ≡ true
  pub view : (replica_at g y K).view ≡ b.view
  pub leads : leader_of g.f b.view ≡ y
  pub vector : (replica_at g y K).vector ≡ b.vector
  pub commit : (replica_at g y K).commit ≡ b.commit
  pub entries : (replica_at g y K).log.entries ≡ b.entries

-- ---- all kinds

pub record Shows (g : Group) (J : List Record) : Type 0 where
  pub vector_ask : (y m : ℕ) (b : VectorAskBody) (r : Record) (K : List Record) → At J (r ∷ K) → Sends r y m (messages.VectorAsk b) → AsksVector g y b (r ∷ K)
  pub rejoin_ask : (y m : ℕ) (b : RejoinAskBody) (r : Record) (K : List Record) → At J (r ∷ K) → Sends r y m (messages.RejoinAsk b) → AsksView g y b (r ∷ K)
  pub state_ask : (y m : ℕ) (b : StateAskBody) (r : Record) (K : List Record) → At J (r ∷ K) → Sends r y m (messages.StateAsk b) → AsksLog g y b (r ∷ K)
  pub vector_tell : (y m : ℕ) (b : VectorTellBody) (r : Record) (K : List Record) → At J (r ∷ K) → Sends r y m (messages.VectorTell b) → TellsVector g y m b r K
  pub rejoin_tell : (y m : ℕ) (b : RejoinTellBody) (r : Record) (K : List Record) → At J (r ∷ K) → Sends r y m (messages.RejoinTell b) → TellsView g y m b r K
  pub state_tell : (y m : ℕ) (b : StateTellBody) (r : Record) (K : List Record) → At J (r ∷ K) → Sends r y m (messages.StateTell b) → TellsLog g y m b r K
  pub view_change : (y m : ℕ) (b : ViewChangeBody) (r : Record) (K : List Record) → At J (r ∷ K) → Sends r y m (messages.ViewChange b) → Reports g y b (r ∷ K)
  pub start_view : (y m : ℕ) (b : StartViewBody) (r : Record) (K : List Record) → At J (r ∷ K) → Sends r y m (messages.StartView b) → StartsView g y b (r ∷ K)

pub shows_at : (g : Group) (J K : List Record) → Shows g J → At J K → Shows g K
shows_at g J K h at = record {
  vector_ask = λ y m b r L there. h.vector_ask y m b r L (at_then J K (r ∷ L) at there);
  rejoin_ask = λ y m b r L there. h.rejoin_ask y m b r L (at_then J K (r ∷ L) at there);
  state_ask = λ y m b r L there. h.state_ask y m b r L (at_then J K (r ∷ L) at there);
  vector_tell = λ y m b r L there. h.vector_tell y m b r L (at_then J K (r ∷ L) at there);
  rejoin_tell = λ y m b r L there. h.rejoin_tell y m b r L (at_then J K (r ∷ L) at there);
  state_tell = λ y m b r L there. h.state_tell y m b r L (at_then J K (r ∷ L) at there);
  view_change = λ y m b r L there. h.view_change y m b r L (at_then J K (r ∷ L) at there);
  start_view = λ y m b r L there. h.start_view y m b r L (at_then J K (r ∷ L) at there);
}

pub shows_before : (g : Group) (r : Record) (J : List Record) → Shows g (r ∷ J) → Shows g J
shows_before g r J h = shows_at g (r ∷ J) J h (inr (at_self J))

-- ---- what is heard was sent

pub was_sent : (g : Group) (m : ℕ) (r : Record) (J : List Record) → World g (r ∷ J) → r.actor ≡ Replica m → (y : ℕ) (message : Message)
    → heard_by g m r.event ≡ Some (Replica y, message) → IsSent J y m message
was_sent g m r J w a y message is = let s = reads.was_sent g r J w (Replica m) (Replica y) message a is in record { has = s.sent; fits = s.fits }

pub sent_more : (r : Record) (J : List Record) (y m : ℕ) (message : Message) → IsSent J y m message → IsSent (r ∷ J) y m message
sent_more r J y m message s = record { has = has_right r.sends (sent_in J) _ s.has; fits = s.fits }

-- ---- a record that sends a letter

pub record SentAt (y m : ℕ) (message : Message) (J : List Record) : Type 0 where
  pub record_of : Record
  pub older : List Record
  pub at : At J (record_of ∷ older)
  pub sends : Sends record_of y m message

pub sent_at : (y m : ℕ) (message : Message) (J : List Record) → IsSent J y m message → SentAt y m message J
sent_at y m message J sent =
    let k = has_source (letter y m message) J sent.has in
    let s = source_is (letter y m message) J k.0 k.1 in
    record { record_of = s.newest; older = s.older; at = s.at; sends = record { has = s.sends; fits = sent.fits } }
