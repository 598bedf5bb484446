-- Which incarnation of a replica is at work, and the moments when one completes its rejoin.
use Rattle.std.specs.Prelude.{ℕ, suc, Bool, true, false, ◌&&◌, List, [], ◌∷◌, Option, if◌then◌else◌, slice_index}
use Rattle.nz_base.specs.Actor.{actor_eq}
use Rattle.nz_base.specs.declared.actor.Actor.TheVariants.{Replica}
use Rattle.nz_msg.specs.declared.message.Message.TheVariants as messages
use Rattle.nz_machine.specs.declared.event.Event.{Event}
use Rattle.nz_machine.specs.declared.event.Event.TheVariants.{Restart}
use Rattle.nz_machine.specs.declared.event.Parcel.{Parcel}
use Rattle.nz_machine.specs.declared.event.Record.{Record}
use Rattle.nz_machine.specs.rules.State.{ReplicaData, Group}
use Rattle.nz_machine.specs.declared.data.ToldView.{ToldView}
use Rattle.nz_machine.specs.rules.Replicas.{is_down, is_normal, is_rejoining}
use Rattle.nz_machine.specs.rules.Step.{parcel}
use Rattle.nz_machine.specs.runs.World.{state_after}
use Rattle.nz_machine.specs.runs.History.{source}

-- The state of a replica at a moment.
abbrev pub replica_at : Group → ℕ → List Record → ReplicaData
replica_at g m K = state_after g (Replica m) K

-- Whether the event is a restart.
abbrev pub is_restart : Event → Bool
is_restart (Restart nonce) = true
is_restart _ = false

-- Whether the record, after the records J, brings the replica back.
abbrev pub comes_back : Group → ℕ → Record → List Record → Bool
comes_back g m r J = actor_eq r.actor (Replica m) && (is_restart r.event && is_down (replica_at g m J).status)

-- The number of a replica's incarnation: 0 for the first, which never rejoins, and one more with each restart.
unfoldable pub incarnation : Group → ℕ → List Record → ℕ
incarnation g m [] = 0
incarnation g m (r ∷ J) = let before = incarnation g m J in if comes_back g m r J then suc before else before

-- The counter of the replica m in the crash vector of x.
abbrev pub counter_at : Group → ℕ → ℕ → List Record → ℕ
counter_at g x m K = slice_index (replica_at g x K).vector m

-- Each replica's own counter differs between its completed incarnations.
abbrev pub own_counter : Group → ℕ → List Record → ℕ
own_counter g m K = counter_at g m m K

-- ---- completed rejoins

-- Whether the newest record completes a rejoin of the replica.
abbrev pub completes : Group → ℕ → List Record → Bool
completes g m [] = false
completes g m (r ∷ J) = is_rejoining (replica_at g m J).status && is_normal (replica_at g m (r ∷ J)).status

-- The views that a rejoin used, at the moment when it is completed: what was collected stays.
abbrev pub views_used : Group → ℕ → List Record → List ToldView
views_used g m C = (replica_at g m C).rejoin.tells

-- The parcel that told one of them.
abbrev pub tell_parcel : ℕ → ℕ → ToldView → Parcel
tell_parcel m nonce t = parcel (Replica t.sender) (Replica m, messages.RejoinTell (record { nonce = nonce; view = t.view; vector = t.vector }))

-- The moment when it was told.
abbrev pub tell_source : Group → ℕ → List Record → ToldView → Option (List Record)
tell_source g m C t = source (tell_parcel m (replica_at g m C).rejoin.nonce t) C
