-- One history: what it is that the clients' answers come from one store, the prefixes that were accepted, and the
-- premise on digests.
use Rattle.std.specs.Prelude.{◌≡◌, ℕ, ◌<◌, ◌⊎◌, List, [], ◌∷◌, map, Some}
use Rattle.nz_base.specs.Key.{id_of}
use Rattle.nz_base.specs.Log.{keys_of, HaveOwnIds}
use Rattle.nz_base.specs.Prefixes.{Comparable}
use Rattle.nz_base.specs.declared.actor.Actor.{Actor}
use Rattle.nz_base.specs.declared.key.Id.{Id}
use Rattle.nz_base.specs.declared.key.Entry.{Entry}
use Rattle.nz_digest.specs.Digests.{EntryKey, digest}
use Rattle.nz_store.specs.declared.command.Answer.{Answer}
use Rattle.nz_store.specs.Sequence.{reply}
use Rattle.nz_log.specs.Places.{place_of, entry_key}
use Rattle.nz_msg.specs.declared.message.FastReplyBody.{FastReplyBody}
use Rattle.nz_msg.specs.declared.message.Message.TheVariants.{FastReply}
use Rattle.nz_msg.specs.declared.message.Path.{Path}
use Rattle.nz_msg.specs.Messages.{Fits}
use Rattle.nz_machine.specs.declared.event.Event.TheVariants.{Deliver}
use Rattle.nz_machine.specs.declared.event.Parcel.{Parcel}
use Rattle.nz_machine.specs.declared.event.Record.{Record}
use Rattle.nz_machine.specs.rules.State.{Group}
use Rattle.nz_machine.specs.rules.Replicas.{commands}
use Rattle.nz_machine.specs.rules.Step.{parcel}
use Rattle.nz_machine.specs.runs.World.{Has}
use Rattle.nz_machine.specs.declared.client_event.ClientEvent.{ClientEvent}
use Rattle.nz_machine.specs.declared.client_event.ClientEvent.TheVariants.{Sent, Accepted}
use Rattle.nz_machine.specs.runs.Events.{client_events}
use Rattle.nz_machine.specs.runs.History.{log_at, cut_after, accepted_prefix}

-- x comes before y.
abbrev pub Precedes : {X : Type 0} → List X → X → X → Type 0
Precedes [] x y = ⊥
Precedes (z ∷ zs) x y = ((z ≡ x) × Has zs y) ⊎ Precedes zs x y

-- The entry of a comes before that of b.
pub record ComesBefore (H : List Entry) (a b : Id) : Type 0 where
  pub first : ℕ
  pub second : ℕ
  pub place_of_first : place_of H a ≡ Some first
  pub place_of_second : place_of H b ≡ Some second
  pub in_order : first < second

-- The answer is that of one store which executes the history.
pub record IsAnswered (H : List Entry) (id : Id) (answer : Answer) : Type 0 where
  pub place : ℕ
  pub place_is : place_of H id ≡ Some place
  pub answered : reply (commands H) place ≡ Some answer

-- The clients' events come from one store that executes the history, each request once; and what was sent
-- after an acceptance comes after it.
pub record Lin (E : List ClientEvent) (H : List Entry) : Type 0 where
  pub once : HaveOwnIds (keys_of H)
  pub asked : (e : Entry) → Has H e → Has E (Sent (id_of e.key) e.command)
  pub answered : (id : Id) (answer : Answer) (path : Path) → Has E (Accepted id answer path) → IsAnswered H id answer
  pub in_order : (a b : Id) (answer : Answer) (path : Path) (command : List ℕ) → Precedes E (Accepted a answer path) (Sent b command)
      → (e : Entry) → Has H e → id_of e.key ≡ b → ComesBefore H a b

-- ---- accepted prefixes

-- The record, after the records J, accepts an answer, and P is its accepted prefix.
pub record Accepts (g : Group) (P : List Entry) (r : Record) (J : List Record) : Type 0 where
  pub id : Id
  pub answer : Answer
  pub path : Path
  pub brought : Parcel
  pub accepted_there : Has (client_events g r.actor r J) (Accepted id answer path)
  pub event : r.event ≡ Deliver brought
  pub prefix : accepted_prefix g id brought J ≡ Some P

-- P is an accepted prefix of the run.
abbrev pub IsAccepted : Group → List Entry → List Record → Type 0
IsAccepted g P [] = ⊥
IsAccepted g P (r ∷ J) = Accepts g P r J ⊎ IsAccepted g P J

-- Of any two accepted prefixes of the run one begins with the other.
pub record ArePaired (g : Group) (J : List Record) : Type 0 where
  pub each : (P Q : List Entry) → IsAccepted g P J → IsAccepted g Q J → Comparable P Q

-- ---- no collision

-- A record sends a fast reply that a frame can carry, over a log that has these keys up to the entry.
pub record RepliesOver (g : Group) (r : Record) (J : List Record) (keys : List EntryKey) : Type 0 where
  pub body : FastReplyBody
  pub to : Actor
  pub fit : Fits (FastReply body)
  pub sent : Has r.sends (parcel r.actor (to, FastReply body))
  pub over : keys ≡ map entry_key (cut_after body.id (log_at g r.actor (r ∷ J)))

-- Some record of the run sends a fast reply over these keys.
abbrev pub HasReplyOver : Group → List Record → List EntryKey → Type 0
HasReplyOver g [] keys = ⊥
HasReplyOver g (r ∷ J) keys = RepliesOver g r J keys ⊎ HasReplyOver g J keys

-- Different lists of keys that replicas replied over have different digests.
abbrev pub NoCollision : Group → List Record → Type 0
NoCollision g J = (keys others : List EntryKey) → HasReplyOver g J keys → HasReplyOver g J others → digest keys ≡ digest others → keys ≡ others
