-- The view of the replies that a record sends, and the log of the one view that was led.
use Rattle.std.specs.Prelude.{◌≡◌, ◌==◌, ◌&&◌, ℕ, Bool, List, [], ◌∷◌, Option, Some, None}
use Rattle.std.specs.Option.{option_and_then, option_or}
use Rattle.nz_base.specs.declared.key.Entry.{Entry}
use Rattle.nz_msg.specs.declared.envelope.Envelope.{Envelope}
use Rattle.nz_msg.specs.declared.message.Message.{Message}
use Rattle.nz_msg.specs.declared.message.Message.TheVariants.{FastReply}
use Rattle.nz_machine.specs.declared.event.Parcel.{Parcel}
use Rattle.nz_machine.specs.declared.event.Record.{Record}
use Rattle.nz_machine.specs.runs.Leading.{lead}
use Rattle.nz_machine.specs.rules.Replicas.{is_up}
use Rattle.nz_machine.specs.rules.State.{ReplicaData, Group}
use Rattle.nz_machine.specs.rules.Step.{envelope_for}
use Rattle.nz_machine.specs.runs.World.{Has}
use Rattle.nz_laws_commit.specs.Present.{AreUpWithin}

-- The view of a fast reply.
abbrev pub view_of_message : Message → Option ℕ
view_of_message (FastReply b) = Some b.view
view_of_message _ = None

-- The view of the fast reply that a parcel brings, if it brings one.
abbrev pub view_brought : Parcel → Option ℕ
view_brought p = option_and_then (λ (e : Envelope). view_of_message e.message) (envelope_for p.to p)

-- The view of the first fast reply among those that the parcels bring, if there is one.
unfoldable pub first_view_brought : List Parcel → Option ℕ
first_view_brought [] = None
first_view_brought (p ∷ ps) = option_or (view_brought p) (first_view_brought ps)

-- One of the parcels brings a fast reply of the view.
pub record BringsReplyOf (v : ℕ) (sends : List Parcel) : Type 0 where
  pub parcel : Parcel
  pub sent : Has sends parcel
  pub view : view_brought parcel ≡ Some v

-- The last of the records sends a fast reply of the view.
abbrev pub RepliesIn : ℕ → List Record → Type 0
RepliesIn v [] = ⊥
RepliesIn v (r ∷ J) = BringsReplyOf v r.sends

-- Whether the replica is up in the first view.
abbrev pub is_up_in_first_view : ReplicaData → Bool
is_up_in_first_view s = is_up s.status && (s.view == 0)

-- After the records all replicas are up in view 0, and this is the log of its leader: no other view was ever led.
pub record IsOnlyLog (g : Group) (J : List Record) (entries : List Entry) : Type 0 where
  pub up : AreUpWithin 0 g J
  pub log : entries ≡ lead g 0 J
