-- What is collected at any moment of a run; how a replica becomes Normal; and the first and later incarnations.
use Rattle.std.proofs.Common.{◌≡◌, ℕ, zero, suc, ◌≤◌, ◌<◌, Bool, true, false, List, [], ◌∷◌, length, replicate, Some, refl, sym, ap, subst, ◌∙◌, arith}
use Rattle.std.specs.Prelude.{slice_index}
use Rattle.nz_base.specs.Cluster.{replica_count, leader_of}
use Rattle.nz_base.specs.declared.actor.Actor.TheVariants.{Replica}
use Rattle.nz_base.proofs.Booleans.{true_and_false}
use Rattle.nz_msg.specs.declared.message.ViewChangeBody.{ViewChangeBody}
use Rattle.nz_msg.specs.declared.message.StartViewBody.{StartViewBody}
use Rattle.nz_msg.specs.declared.message.StateTellBody.{StateTellBody}
use Rattle.nz_msg.specs.declared.message.Message.{Message}
use Rattle.nz_msg.specs.declared.message.Message.TheVariants as messages
use Rattle.nz_machine.specs.declared.event.Event.{Event}
use Rattle.nz_machine.specs.declared.event.Record.{Record}
use Rattle.nz_machine.specs.rules.State.{ReplicaData, Group}
use Rattle.nz_machine.specs.declared.data.Phase.TheVariants as phases
use Rattle.nz_machine.specs.declared.data.CollectedReport.{CollectedReport}
use Rattle.nz_machine.specs.rules.Replicas.{first_replica, is_normal, is_up, is_rejoining, is_down}
use Rattle.nz_machine.specs.runs.World.{World}
use Rattle.nz_machine.specs.runs.Incarnations.{replica_at, incarnation}
use Rattle.nz_machine.specs.runs.Hearing.{Heard}
use Rattle.nz_machine.specs.rules.Vectors.{with_vector}
use Rattle.nz_machine.specs.rules.Adopting.{normal_in}
use Rattle.nz_machine.proofs.facts.Guards.{IsFresh, MayLead, Awaits}
use Rattle.nz_laws_cv.proofs.Outcomes.{law_state, collecting, beginning, Base, Outcome, Stays, Release, Merge, Sync, Tally, Enter, Follow, Answer, Collect}
use Rattle.nz_laws_cv.proofs.Outcomes.{Begin, Start, Fall, Wake, HearVector, Count, HearView, Forget, AskLog, Return, Back}
use Rattle.nz_laws_cv.proofs.OutcomeRules.{heard_by}
use Rattle.nz_laws_cv.proofs.Hearing.{hears_fit}
use Rattle.nz_laws_cv.proofs.Steps.{law_state_at, Acts, Rests, steps}
use Rattle.nz_laws_cv.proofs.Modes.{Goes, Settled, IsUp, IsRejoining, IsDown, standing, up_no_rejoin, up_no_down, rejoin_not_down, normal_no_rejoin}
use Rattle.nz_laws_cv.proofs.WithinIncarnation.{sound_at, in_group, first_state, inc_first, Woken, Fallen, Gone, passing, crashed_down}
use Rattle.nz_laws_cv.proofs.SentShows.{IsSent, sent_more, Shows, shows_before, was_sent}
use Rattle.nz_laws_cv.proofs.Tellers.{HearsSent, HasTellers, first_tellers, tellers_kept, tellers_stay, log_settled}
use Rattle.nz_laws_cv.proofs.ToldViews.{HasTells, first_tells, tells_kept, tells_stay}
use Rattle.nz_laws_cv.proofs.Reports.{HasReports, reports_kept, reports_stay}

-- ---- what is collected

-- the letters to a replica
abbrev pub Sent : List Record → ℕ → ℕ → Message → Type 0
Sent K m y message = IsSent K y m message

pub record HasCollected (g : Group) (m : ℕ) (K : List Record) (s : ReplicaData) : Type 0 where
  pub tellers : HasTellers g.f m (Sent K m) s
  pub tells : HasTells g.f m (Sent K m) s
  pub reports : HasReports g.f m (Sent K m) s

-- after a record's sends
pub collected_later : (g : Group) (m : ℕ) (r : Record) (J : List Record) (s : ReplicaData) → HasCollected g m J s → HasCollected g m (r ∷ J) s
collected_later g m r J s h = record {
  tellers = tellers_stay g.f m (Sent J m) (Sent (r ∷ J) m) (λ y message sent. sent_more r J y m message sent) s h.tellers;
  tells = tells_stay g.f m (Sent J m) (Sent (r ∷ J) m) (λ y message sent. sent_more r J y m message sent) s h.tells;
  reports = reports_stay g.f m (Sent J m) (Sent (r ∷ J) m) (λ y message sent. sent_more r J y m message sent) s h.reports;
}

pub hears_sent : (g : Group) (m : ℕ) (r : Record) (J : List Record) → World g (r ∷ J) → r.actor ≡ Replica m
    → HearsSent (Sent (r ∷ J) m) m (heard_by g m r.event)
hears_sent g m r J w a = record { sent = λ y message is. sent_more r J y m message (was_sent g m r J w a y message is) }

first_collected : (g : Group) (m : ℕ) → HasCollected g m [] (law_state (first_replica g.f))
first_collected g m = record { tellers = first_tellers g.f m (Sent [] m); tells = first_tells g.f m (Sent [] m); reports = record { reports = λ c. absurd cc } }

pub collected_at : (g : Group) (m : ℕ) (J : List Record) → World g J → Shows g J → HasCollected g m J (law_state_at g m J)
collected_at g m [] w h = subst (HasCollected g m []) (sym (first_state g m)) (first_collected g m)
collected_at g m (r ∷ J) w h =
    let before = shows_before g r J h in
    let old = collected_later g m r J (law_state_at g m J) (collected_at g m J w.1 before) in
    elim (steps g m r J) [
      | Acts a outcome ↦
          let fit = hears_fit g m r.event in
          let sent = hears_sent g m r J w a in
          let mine = in_group g m r.actor a w.0.member in
          let sound = sound_at g J w.1 m in
          record {
            tellers = tellers_kept g.f m (Sent (r ∷ J) m) r.event (heard_by g m r.event) fit sent mine (law_state_at g m J) (law_state_at g m (r ∷ J))
                sound outcome old.tellers;
            tells = tells_kept g.f m (Sent (r ∷ J) m) r.event (heard_by g m r.event) fit sent mine (law_state_at g m J) (law_state_at g m (r ∷ J))
                sound outcome old.tells;
            reports = reports_kept g.f m (Sent (r ∷ J) m) r.event (heard_by g m r.event) fit sent mine (law_state_at g m J) (law_state_at g m (r ∷ J))
                sound outcome old.reports;
          }
      | Rests e same ↦ subst (HasCollected g m (r ∷ J)) (sym same) old
    ]

-- ---- how a replica becomes Normal

module _ (f me : ℕ) (e : Event) (heard : Heard) where
  pub record IsReturn (s t : ReplicaData) : Type 0 where
    pub sender : ℕ
    pub body : StateTellBody
    pub new : IsFresh heard s sender (messages.StateTell body) body.vector
    pub ours : Awaits phases.Log s body.nonce
    pub late : s.rejoin.wanted ≤ body.view
    pub leader : sender ≡ leader_of f body.view
    pub is : t ≡ law_state (normal_in (with_vector me s body.vector) body.view body.entries body.commit)

  -- who was rejoining and is Normal took the log of a state-tell
  pub returns : (s t : ReplicaData) → Outcome f me e heard s t → is_rejoining s.status ≡ true → is_normal t.status ≡ true → IsReturn s t
  returns s _ Stays r n = normal_no_rejoin s.status n r
  returns s _ (Release log normal more) r n = normal_no_rejoin s.status normal r
  returns s _ (Sync sender b new hears le log changed) r n = normal_no_rejoin s.status hears.normal r
  returns s _ (Tally sender b is normal led same few) r n = normal_no_rejoin s.status normal r
  returns s _ (Merge sender m u new normal) r n = normal_no_rejoin s.status normal r
  returns s _ (Enter w up later log grown) r n = up_no_rejoin s.status up r
  returns s _ (Follow sender m u new w up later) r n = up_no_rejoin s.status up r
  returns s _ (Answer sender b new normal same) r n = normal_no_rejoin s.status normal r
  returns s _ (Collect sender b new may base on) r n = up_no_rejoin s.status may.up r
  returns s _ (Begin sender b new may base on full) r n = up_no_rejoin s.status may.up r
  returns s _ (Start sender b new may) r n = up_no_rejoin s.status may.up r
  returns s _ (Fall is) r n = absurd cc
  returns s _ (Wake nonce is down) r n = absurd cc
  returns s _ (HearVector sender b new ours) r n = normal_no_rejoin s.status n r
  returns s _ (Count sender b new ours many) r n = normal_no_rejoin s.status n r
  returns s _ (HearView sender b new ours) r n = normal_no_rejoin s.status n r
  returns s _ (Forget sender b new ours) r n = normal_no_rejoin s.status n r
  returns s _ (AskLog sender b new ours many) r n = normal_no_rejoin s.status n r
  returns s _ (Return sender b new ours late leader) r n = record { sender = sender; body = b; new = new; ours = ours; late = late; leader = leader; is = refl }
  returns s _ (Back rejoining is) r n = normal_no_rejoin s.status n r

  pub record IsBegun (s t : ReplicaData) : Type 0 where
    pub sender : ℕ
    pub body : ViewChangeBody
    pub new : IsFresh heard s sender (messages.ViewChange body) body.vector
    pub may : MayLead f me s.status s.view body.view
    pub base : List CollectedReport
    pub on : Base (with_vector me s body.vector) body.view base
    pub full : length (collecting me s base sender body).reports ≡ f
    pub is : t ≡ law_state (beginning f me (collecting me s base sender body))

  -- it was so before, begins a view that it leads, or follows the leader of a view
  pub data Arrives (s t : ReplicaData) : Type 0 where
    Was : is_normal s.status ≡ true → s.view ≡ t.view → Arrives s t
    Begins : IsBegun s t → Arrives s t
    Starts : (sender : ℕ) (b : StartViewBody) → heard ≡ Some (Replica sender, messages.StartView b) → sender ≡ leader_of f b.view → t.view ≡ b.view
        → Arrives s t
    Returns : (sender : ℕ) (b : StateTellBody) → heard ≡ Some (Replica sender, messages.StateTell b) → sender ≡ leader_of f b.view → t.view ≡ b.view
        → Arrives s t

  -- how a replica that is Normal after a rule came to be so
  pub arrives : (s t : ReplicaData) → Outcome f me e heard s t → is_normal t.status ≡ true → Arrives s t
  arrives s _ Stays n = Was n refl
  arrives s _ (Release log normal more) n = Was normal refl
  arrives s _ (Sync sender b new hears le log changed) n = Was hears.normal refl
  arrives s _ (Tally sender b is normal led same few) n = Was normal refl
  arrives s _ (Merge sender m u new normal) n = Was normal refl
  arrives s _ (Enter w up later log grown) n = absurd cc
  arrives s _ (Follow sender m u new w up later) n = absurd cc
  arrives s _ (Answer sender b new normal same) n = Was normal refl
  arrives s _ (Collect sender b new may base on) n = absurd cc
  arrives s _ (Begin sender b new may base on full) n =
      Begins (record { sender = sender; body = b; new = new; may = may; base = base; on = on; full = full; is = refl })
  arrives s _ (Start sender b new may) n = Starts sender b new.is may.leader refl
  arrives s _ (Fall is) n = absurd cc
  arrives s _ (Wake nonce is down) n = absurd cc
  arrives s _ (HearVector sender b new ours) n = normal_no_rejoin s.status n ours.rejoining
  arrives s _ (Count sender b new ours many) n = normal_no_rejoin s.status n ours.rejoining
  arrives s _ (HearView sender b new ours) n = normal_no_rejoin s.status n ours.rejoining
  arrives s _ (Forget sender b new ours) n = normal_no_rejoin s.status n ours.rejoining
  arrives s _ (AskLog sender b new ours many) n = normal_no_rejoin s.status n ours.rejoining
  arrives s _ (Return sender b new ours late leader) n = Returns sender b new.is leader refl
  arrives s _ (Back rejoining is) n = normal_no_rejoin s.status n rejoining

-- a record that completes a rejoin
pub completing : (g : Group) (m : ℕ) (r : Record) (K : List Record) → is_rejoining (replica_at g m K).status ≡ true
    → is_normal (replica_at g m (r ∷ K)).status ≡ true
    → IsReturn g.f m r.event (heard_by g m r.event) (law_state_at g m K) (law_state_at g m (r ∷ K))
completing g m r K rejoins normal = elim (steps g m r K) [
  | Acts a outcome ↦ returns g.f m r.event (heard_by g m r.event) (law_state_at g m K) (law_state_at g m (r ∷ K)) outcome rejoins normal
  | Rests e same ↦ normal_no_rejoin (replica_at g m K).status (sym (ap (λ (s : ReplicaData). is_normal s.status) same) ∙ normal) rejoins
]

-- ---- incarnation 0, and the later ones

abbrev pub up_at : Group → ℕ → List Record → Bool
up_at g m K = is_up (replica_at g m K).status

abbrev pub rejoining_at : Group → ℕ → List Record → Bool
rejoining_at g m K = is_rejoining (replica_at g m K).status

-- who rejoins is in a later one
pub rejoins_later : (g : Group) (m : ℕ) (K : List Record) → World g K → rejoining_at g m K ≡ true → 0 < incarnation g m K
rejoins_later g m [] w r =
    absurd (let c : is_rejoining (law_state_at g m []).status ≡ false = ap (λ (s : ReplicaData). is_rejoining s.status) (first_state g m) in cc)
rejoins_later g m (r ∷ K) w rejoins = elim (passing g m r K w) [
  | Woken nonce a e down is inc ↦ omega (arith, inc)
  | Fallen is inc ↦ crashed_down g m (r ∷ K) is (rejoin_not_down (replica_at g m (r ∷ K)).status rejoins)
  | Gone inc goes normal ↦ elim (standing (replica_at g m K).status) [
    | IsUp up ↦ up_no_rejoin (replica_at g m (r ∷ K)).status (goes.stays_up up) rejoins
    | IsRejoining before ↦ let rest = rejoins_later g m K w.1 before in omega (arith, rest, inc)
    | IsDown down ↦ true_and_false (is_down (replica_at g m (r ∷ K)).status) (goes.down ∙ down) (rejoin_not_down (replica_at g m (r ∷ K)).status rejoins)
  ]
]

-- what a replica that is up was before
pub data WasUp (g : Group) (m : ℕ) (r : Record) (K : List Record) : Type 0 where
  StayedUp : up_at g m K ≡ true → incarnation g m (r ∷ K) ≡ incarnation g m K → Goes m (law_state_at g m K) (law_state_at g m (r ∷ K)) → WasUp g m r K
  Rejoined : rejoining_at g m K ≡ true → is_normal (replica_at g m (r ∷ K)).status ≡ true → incarnation g m (r ∷ K) ≡ incarnation g m K
      → Goes m (law_state_at g m K) (law_state_at g m (r ∷ K)) → WasUp g m r K

pub was_up : (g : Group) (m : ℕ) (r : Record) (K : List Record) → World g (r ∷ K) → up_at g m (r ∷ K) ≡ true → WasUp g m r K
was_up g m r K w up = elim (passing g m r K w) [
  | Woken nonce a e down is inc ↦ true_and_false (up_at g m (r ∷ K)) up (ap (λ (s : ReplicaData). is_up s.status) is)
  | Fallen is inc ↦ true_and_false (up_at g m (r ∷ K)) up (ap (λ (s : ReplicaData). is_up s.status) is)
  | Gone inc goes normal ↦ elim (standing (replica_at g m K).status) [
    | IsUp before ↦ StayedUp before inc goes
    | IsRejoining before ↦ Rejoined before (normal before up) inc goes
    | IsDown down ↦ up_no_down (replica_at g m (r ∷ K)).status up (goes.down ∙ down)
  ]
]

-- a list of zeros has 0 in each place
pub zeros : (n k : ℕ) → slice_index (replicate n 0) k ≡ 0
zeros zero k = refl
zeros (suc n) zero = refl
zeros (suc n) (suc k) = zeros n k

-- the own counter is 0 in the first
pub own_zero : (g : Group) (m : ℕ) (K : List Record) → World g K → up_at g m K ≡ true → incarnation g m K ≡ 0 → slice_index (replica_at g m K).vector m ≡ 0
own_zero g m [] w up none = ap (λ (s : ReplicaData). slice_index s.vector m) (first_state g m) ∙ zeros (replica_count g.f) m
own_zero g m (r ∷ K) w up none = elim (was_up g m r K w up) [
  | StayedUp before inc goes ↦ sym (goes.own_up before) ∙ own_zero g m K w.1 before (sym inc ∙ none)
  | Rejoined before normal inc goes ↦ absurd (let some = rejoins_later g m K w.1 before in omega (arith, some, inc, none))
]

-- and settled in the others
pub settled_later : (g : Group) (m : ℕ) (K : List Record) → World g K → up_at g m K ≡ true → 0 < incarnation g m K → Settled (law_state_at g m K)
settled_later g m [] w up some = absurd (let none = inc_first g m in omega (arith, none, some))
settled_later g m (r ∷ K) w up some = elim (was_up g m r K w up) [
  | StayedUp before inc goes ↦ goes.settled (settled_later g m K w.1 before (omega (arith, inc, some)))
  | Rejoined before normal inc goes ↦ goes.settled (log_settled (law_state_at g m K) (completing g m r K before normal).ours.in_phase)
]
