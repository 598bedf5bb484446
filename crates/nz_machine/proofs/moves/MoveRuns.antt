-- What each move keeps holds of every replica in every run.
use Rattle.std.proofs.Common.{◌≡◌, ℕ, List, [], ◌∷◌, Option, Some, None, refl, sym, subst, inl, inr}
use Rattle.std.proofs.lemmas.Bool.{cond_both}
use Rattle.nz_base.specs.declared.actor.Actor.TheVariants.{Replica}
use Rattle.nz_msg.specs.declared.envelope.Envelope.{Envelope}
use Rattle.nz_machine.specs.declared.event.Event.{Event}
use Rattle.nz_machine.specs.declared.event.Event.TheVariants.{Deliver, Cut, Tick, Alarm, Crash, Restart}
use Rattle.nz_machine.specs.declared.event.Record.{Record}
use Rattle.nz_machine.specs.rules.State.{ReplicaData, Group, Out}
use Rattle.nz_machine.specs.rules.Replicas.{first_replica, crashed_replica, is_down}
use Rattle.nz_machine.specs.rules.Rejoining.{restarted_replica, crash_rule, restart_rule}
use Rattle.nz_machine.specs.rules.Step.{accepted_envelope, replica_message, tick_rule, envelope_step, event_step}
use Rattle.nz_machine.specs.runs.World.{state_after, World}
use Rattle.nz_machine.proofs.runs.Runs.{may_act, unless_down}
use Rattle.nz_machine.specs.runs.Hearing.{heard_as, heard_at}
use Rattle.nz_machine.proofs.moves.Moves.{Interval, Whole, Closed}
use Rattle.nz_machine.proofs.moves.MoveRules.{message_moves, tick_moves, alarm_moves}

-- ---- one event

envelope_moves : (P : Interval → ReplicaData → Type 0) (g : Group) (me : ℕ) (s : ReplicaData) (x : Option Envelope) → Closed g.f me (heard_as x) P
    → P Whole s → P Whole (envelope_step g (Replica me) s x).0
envelope_moves P g me s None c h = h
envelope_moves P g me s (Some e) c h =
    unless_down (λ (t : ReplicaData × List Out). P Whole t.0) s (replica_message g.f me s e.from e.message) h
    (message_moves P g.f me s e.from e.message c h)

-- what a law shows besides of a replica that forgets all
pub record Forgets (f : ℕ) (P : Interval → ReplicaData → Type 0) (e : Event) : Type 0 where
  pub crashed : e ≡ Crash → P Whole (crashed_replica f)
  pub restarted : (nonce : ℕ) → e ≡ Restart nonce → P Whole (restarted_replica f nonce)

pub event_moves : (P : Interval → ReplicaData → Type 0) (g : Group) (me : ℕ) (s : ReplicaData) (e : Event) → Closed g.f me (heard_at g (Replica me) e) P
    → Forgets g.f P e → P Whole s → P Whole (event_step g (Replica me) s e).0
unfolding crash_rule restart_rule
event_moves P g me s (Deliver p) c k h = envelope_moves P g me s (accepted_envelope g.f (Replica me) p) c h
event_moves P g me s (Cut kept p) c k h = h
event_moves P g me s (Tick clock) c k h =
    unless_down (λ (t : ReplicaData × List Out). P Whole t.0) s (tick_rule g.f me s clock) h (tick_moves P g.f me None c s clock h)
event_moves P g me s Alarm c k h = alarm_moves P g.f me None c s h
event_moves P g me s Crash c k h = k.crashed refl
event_moves P g me s (Restart nonce) c k h =
    cond_both (is_down s.status) _ (s, []) (λ (t : ReplicaData × List Out). P Whole t.0) (λ _. k.restarted nonce refl) (λ _. h)

-- ---- all runs

module _ (g : Group) (Q : List Record → ℕ → Interval → ReplicaData → Type 0) where
  -- what is to be shown
  pub record Carries : Type 0 where
    pub start : (me : ℕ) → Q [] me Whole (first_replica g.f)
    pub later : (J : List Record) (r : Record) → World g (r ∷ J) → (me : ℕ) (s : ReplicaData) → Q J me Whole s → Q (r ∷ J) me Whole s
    pub moves : (J : List Record) (r : Record) → World g (r ∷ J) → (me : ℕ) → r.actor ≡ Replica me
        → Closed g.f me (heard_at g (Replica me) r.event) (Q (r ∷ J) me)
    pub forgets : (J : List Record) (r : Record) → World g (r ∷ J) → (me : ℕ) → r.actor ≡ Replica me → Forgets g.f (Q (r ∷ J) me) r.event

  -- it holds at each moment of a run
  pub carried : Carries → (J : List Record) → World g J → (me : ℕ) → Q J me Whole (state_after g (Replica me) J)
  unfolding state_after
  carried c [] w me = c.start me
  carried c (r ∷ J) w me =
      let s = state_after g (Replica me) J in
      let old = c.later J r w me s (carried c J w.1 me) in
      elim (may_act g (Replica me) r J).cases [
        | inl a ↦
            subst (λ (t : ReplicaData). Q (r ∷ J) me Whole t) (sym a.1)
            (event_moves (Q (r ∷ J) me) g me s r.event (c.moves J r w me a.0) (c.forgets J r w me a.0) old)
        | inr same ↦ subst (λ (t : ReplicaData). Q (r ∷ J) me Whole t) (sym same) old
      ]
