-- Playing a run step by step by the definitions, with real frames: a step of an actor, a parcel that comes, a tick of all.
use Rattle.std.proofs.Common.{◌≡◌, ℕ, ◌≤◌, inl, inr, arith, List, [], ◌∷◌, Option, Some, None, refl}
use Rattle.std.proofs.lemmas.Bool.{cond_both}
use Rattle.std.proofs.lemmas.Option.{none-some, same_Some}
use Rattle.std.specs.Prelude.{◌&&◌, ◌==◌, Bool, find, slice_index}
use Rattle.nz_base.specs.Actor.{actor_eq}
use Rattle.nz_base.specs.declared.actor.Actor.{Actor}
use Rattle.nz_base.specs.declared.actor.Actor.TheVariants.{Replica}
use Rattle.nz_base.specs.declared.limits.TheConstants.{MAX_CLOCK}
use Rattle.nz_machine.specs.declared.event.Event.{Event}
use Rattle.nz_machine.specs.declared.event.Event.TheVariants.{Deliver, Tick}
use Rattle.nz_machine.specs.declared.event.Parcel.{Parcel}
use Rattle.nz_machine.specs.declared.event.Record.{Record}
use Rattle.nz_machine.specs.rules.State.{Group}
use Rattle.nz_machine.specs.rules.Step.{node_step}
use Rattle.nz_machine.specs.runs.World.{state_after, sent_in, Has, IsMember, MayHappen, World}

-- The run with one more record, whose sends are those of the step.
unfoldable pub play : Group → List Record → Actor → Event → List Record
play g J a e = record { tick = 0; actor = a; event = e; sends = (node_step g a (state_after g a J) e).1 } ∷ J

unfoldable pub arrive : Group → List Record → Option Parcel → List Record
arrive g J None = J
arrive g J (Some p) = play g J p.to (Deliver p)

-- Whether the parcel is between these two, and its frame of this kind.
abbrev pub is_of : ℕ → Actor → Actor → Parcel → Bool
is_of kind from to p = actor_eq p.from from && (actor_eq p.to to && (slice_index p.frame 5 == kind))

-- The newest parcel of this kind between these two.
abbrev pub newest : ℕ → Actor → Actor → List Record → Option Parcel
newest kind from to J = find (is_of kind from to) (sent_in J)

-- It comes.
unfoldable pub come : Group → ℕ → Actor → Actor → List Record → List Record
come g kind from to J = arrive g J (newest kind from to J)

-- The clocks of all replicas read so much.
unfoldable pub all_tick : Group → ℕ → List Record → List Record
all_tick g clock J = play g (play g (play g J (Replica 0) (Tick clock)) (Replica 1) (Tick clock)) (Replica 2) (Tick clock)

-- ---- what is played is a run of the world

-- A parcel that is found among some is one of them.
has_found : (test : Parcel → Bool) (ps : List Parcel) (p : Parcel) → find test ps ≡ Some p → Has ps p
has_found test [] p e = absurd (none-some p e)
has_found test (x ∷ ps) p e = cond_both (test x) (Some x) (find test ps) (λ (o : Option Parcel). o ≡ Some p → Has (x ∷ ps) p)
    (λ yes h. inl (same_Some x p h)) (λ no h. inr (has_found test ps p h)) e

-- A run that goes on by an event that may happen is a run.
pub played : (g : Group) (J : List Record) (a : Actor) (e : Event) → World g J → IsMember g a → MayHappen J a e → World g (play g J a e)
unfolding play
played g J a e w member may = (record { member = member; event = may; sends = refl }, w)

-- A parcel that comes is to an actor of the group.
abbrev pub ToMember : Group → Option Parcel → Type 0
ToMember g None = Unit {0}
ToMember g (Some p) = IsMember g p.to

arrived : (g : Group) (J : List Record) (test : Parcel → Bool) (o : Option Parcel) → find test (sent_in J) ≡ o
    → World g J → ToMember g o → World g (arrive g J o)
unfolding arrive
arrived g J test None e w to = w
arrived g J test (Some p) e w to = played g J p.to (Deliver p) w to (refl, has_found test (sent_in J) p e)

-- So is one in which the newest parcel of a kind comes.
pub came : (g : Group) (kind : ℕ) (from to : Actor) (J : List Record) → World g J → ToMember g (newest kind from to J) → World g (come g kind from to J)
unfolding come
came g kind from to J w member = arrived g J (is_of kind from to) (newest kind from to J) refl w member

-- The clocks of three replicas, where there are so many.
pub all_ticked : (g : Group) (clock : ℕ) (J : List Record) → World g J → IsMember g (Replica 2) → clock ≤ MAX_CLOCK → World g (all_tick g clock J)
unfolding all_tick
all_ticked g clock J w last le =
    let zeroth = played g J (Replica 0) (Tick clock) w (omega (arith, last)) le in
    let first = played g (play g J (Replica 0) (Tick clock)) (Replica 1) (Tick clock) zeroth (omega (arith, last)) le in
    played g (play g (play g J (Replica 0) (Tick clock)) (Replica 1) (Tick clock)) (Replica 2) (Tick clock) first last le
